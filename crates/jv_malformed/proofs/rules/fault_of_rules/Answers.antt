use Rattle.jv_pool.proofs.Kept.{untrue}
use Rattle.jv_malformed.proofs.Breaking.{field_told, method_told, alike_told}
use Rattle.jv_malformed.proofs.rules.fault_of_rules.Goals as goal

pub returns-then-not-itself_keeps_rules : goal.returns-then-not-itself_keeps_rules
returns-then-not-itself_keeps_rules c = λ none. λ itself. untrue c.itself_keeps_rules.result c.if-not-itself_keeps_rules.true (c.itself_keeps_rules.ensures.1 itself)

pub returns-in-Some : goal.returns-in-Some
returns-in-Some c = λ none.
    field_told c.args.parts.now (c.itself_keeps_rules.ensures.0 c.if-not-itself_keeps_rules.false) c.in-Some.place c.in-Some.ensures

pub returns-in-Some-first_method : goal.returns-in-Some-first_method
returns-in-Some-first_method c = λ none.
    method_told c.args.parts.now (c.itself_keeps_rules.ensures.0 c.if-not-itself_keeps_rules.false) c.in-Some-first_method.place (c.in_default.ensures {u = tt})
    c.in-Some-first_method.ensures

pub returns : goal.returns
returns c = λ none.
    alike_told c.args.parts.now (c.itself_keeps_rules.ensures.0 c.if-not-itself_keeps_rules.false) (c.in_default.ensures {u = tt})
    (c.in_default-first_method.ensures {u = tt}) none
