use Rattle.std.proofs.lemmas.Grind.{common_steps}
use Rattle.std.proofs.Common.{◌∙◌, sym, subst, arith, rules}
use Rattle.std.specs.Prelude.{IsTrue, map}
use Rattle.jv_pool.specs.Constants.{constant_fits}
use Rattle.jv_pool.specs.Seen.{seen}
use Rattle.jv_asm_builder.specs.Inside.Pooled.{IsIndexFound}
use Rattle.jv_asm_builder.proofs.Faults.{is_memory, is_no_fault}
use Rattle.jv_asm_builder.proofs.Pooled.{added_at, room_at}
use Rattle.jv_asm_builder.proofs.pool_builder.PoolBuilder.constant.Goals as goal

pub returns-in_err-add-clause-too_large : goal.returns-in_err-add-clause-too_large
returns-in_err-add-clause-too_large c =
    let new = subst (IsIndexFound c.args.self.now (seen c.args.constant)) c.in_default.is c.found.ensures in
    let right : IsTrue (constant_fits (seen c.args.constant)) = sym c.constant_fits.ensures ∙ c.if-not-constant_fits.false in
    let room = room_at (map seen c.self.inside.constants.items) c.args.self.now (seen c.args.constant) c.self.inside.indices c.self.inside.count
    c.self.view_is c.self.invariant new right (omega arith) in
    (λ e. absurd (is_memory c.from_residual.result c.from_residual.ensures.1 e), λ none. absurd (none room))

pub returns-clause-ok : goal.returns-clause-ok
returns-clause-ok c =
    let new = subst (IsIndexFound c.args.self.now (seen c.args.constant)) c.in_default.is c.found.ensures in
    added_at (map seen c.self.inside.constants.items) c.args.self.now c.add.new.self (seen c.args.constant) c.self.inside.indices c.self.inside.count
    c.self.view_is c.self.invariant new (c.in_ok-add.ensures {u = tt})

pub returns-clause-too_large : goal.returns-clause-too_large
returns-clause-too_large c =
    let new = subst (IsIndexFound c.args.self.now (seen c.args.constant)) c.in_default.is c.found.ensures in
    let right : IsTrue (constant_fits (seen c.args.constant)) = sym c.constant_fits.ensures ∙ c.if-not-constant_fits.false in
    let room = room_at (map seen c.self.inside.constants.items) c.args.self.now (seen c.args.constant) c.self.inside.indices c.self.inside.count
    c.self.view_is c.self.invariant new right (omega arith) in
    (λ e. absurd (is_no_fault _ _ e), λ none. absurd (none room))

pub returns-then-count-gt65535-clause-too_large : goal.returns-then-count-gt65535-clause-too_large
returns-then-count-gt65535-clause-too_large c = grind (arith, common_steps)

pub add-requires-clause-count : goal.add-requires-clause-count
add-requires-clause-count c = search rules

pub returns-clause-fits : goal.returns-clause-fits
returns-clause-fits c = grind (arith, common_steps)
