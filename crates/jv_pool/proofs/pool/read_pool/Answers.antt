use Rattle.std.proofs.Common.{◌≡◌, ◌∙◌, ◌-◌, subst, List, length, take, sym, arith}
use Rattle.std.specs.List.{All}
use Rattle.std.proofs.lemmas.Result.{err_from_is_err_and}
use Rattle.jv_pool.specs.declared.fault.PoolFault.TheVariants.{BadPool}
use Rattle.jv_pool.specs.Constants.{Entry}
use Rattle.jv_pool.specs.Rules.{KeepsRules, IsPool}
use Rattle.jv_pool.specs.Inside.Reading.{constants}
use Rattle.jv_pool.proofs.Constants.{pool_taken, no_pool, no_other, fails_bad}
use Rattle.jv_pool.proofs.Kept.{untrue}
use Rattle.jv_pool.proofs.pool.read_pool.Goals as goal

-- each constant of a list keeps its rules there
abbrev Kept : List Entry → Type 0
Kept xs = All (KeepsRules xs) xs

pub returns-in_err-table-clause-bad : goal.returns-in_err-table-clause-bad
returns-in_err-table-clause-bad c = λ e.
    let p = err_from_is_err_and c.from_residual.result c.from_residual.ensures.1 in
    let same : c.in_err-table.field-0.0 ≡ BadPool = cc (p.1, p.2) in
    no_pool c.args.bytes.now (fails_bad (constants.read c.args.bytes.now) c.in_err-table.field-0.0 same c.in_err-table.ensures)

pub returns-then-not-keep_rules-clause-bad : goal.returns-then-not-keep_rules-clause-bad
returns-then-not-keep_rules-clause-bad c = λ e.
    no_other c.args.bytes.now c.in_ok-table.rest.now c.in_ok-table.table c.in_ok-table.ensures
    (λ kept. untrue c.keep_rules.result c.if-not-keep_rules.true (c.keep_rules.ensures.1 (subst Kept (sym c.in_ok-known.ensures.ok) kept)))

pub overflow_sub-taken : goal.overflow_sub-taken
overflow_sub-taken c =
    (pool_taken c.args.bytes.now c.in_ok-table.rest.now c.in_ok-table.table (λ i. omega (arith, c.type_inv.bytes i)) c.in_ok-table.ensures
    (subst Kept c.in_ok-known.ensures.ok (c.keep_rules.ensures.0 c.if-not-keep_rules.false))).0

pub returns-clause-ok : goal.returns-clause-ok
returns-clause-ok c =
    let one = pool_taken c.args.bytes.now c.in_ok-table.rest.now c.in_ok-table.table (λ i. omega (arith, c.type_inv.bytes i)) c.in_ok-table.ensures
    (subst Kept c.in_ok-known.ensures.ok (c.keep_rules.ensures.0 c.if-not-keep_rules.false)) in
    let same : c.new-pool.result ≡ c.in_ok-table.table = c.new-pool.ensures ∙ c.in_ok-known.ensures.ok in
    subst (λ (p : List Entry). IsPool (take (length c.args.bytes.now - length c.in_ok-table.rest.now) c.args.bytes.now) p) (sym same) one.1
