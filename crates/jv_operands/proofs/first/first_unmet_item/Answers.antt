use Rattle.std.proofs.Common.{◌≤◌, get_or, length, sym, ◌∙◌, arith}
use Rattle.std.specs.Prelude.{map}
use Rattle.std.specs.Option.{option_map}
use Rattle.std.proofs.lemmas.List.{length-map}
use Rattle.jv_stackmap.specs.declared.verification.VerificationTypeOf.TheVariants as types
use Rattle.jv_stackmap.specs.Seen.{seen_type}
use Rattle.jv_operands.specs.declared.want.Want.TheVariants as wants
use Rattle.jv_operands.specs.Seen.{seen_want}
use Rattle.jv_operands.proofs.Going.{ended, stepped, stopped, wanted_at}
use Rattle.jv_operands.proofs.first.first_unmet_item.Goals as goal

pub loop-depth-preserved : goal.loop-depth-preserved
loop-depth-preserved c =
    let k = c.loop-depth.depth in
    let wanted = c.args.wants.now in
    sym (stepped c.args.table.now (map seen_want wanted) (map seen_type c.args.stack.now) k (seen_want (get_or wanted k (wants.Type types.Top)))
    (option_map seen_type c.type_at-found.result) (wanted_at wanted k (wants.Type types.Top) c.loop-depth-test.true) c.type_at-found.ensures
    (sym c.is_met_by.ensures ∙ c.if-not-is_met_by.false))
    ∙ c.loop-depth.invariant

pub returns-then-not-is_met_by : goal.returns-then-not-is_met_by
returns-then-not-is_met_by c =
    let k = c.loop-depth.depth in
    let wanted = c.args.wants.now in
    stopped c.args.table.now (map seen_want wanted) (map seen_type c.args.stack.now) k (seen_want (get_or wanted k (wants.Type types.Top)))
    (option_map seen_type c.type_at-found.result) (wanted_at wanted k (wants.Type types.Top) c.loop-depth-test.true) c.type_at-found.ensures
    (sym c.is_met_by.ensures ∙ c.if-not-is_met_by.true)
    ∙ c.loop-depth.invariant

pub returns : goal.returns
returns c =
    let past = c.loop-depth-test.false in
    let all : length (map seen_want c.args.wants.now) ≤ c.loop-depth.depth = omega (arith, past, length-map c.args.wants.now seen_want) in
    ended c.args.table.now (map seen_want c.args.wants.now) (map seen_type c.args.stack.now) c.loop-depth.depth all ∙ c.loop-depth.invariant
