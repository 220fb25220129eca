use Rattle.jv_verify_rules.proofs.Storing.{stored_in, not_stored, none_taken}
use Rattle.jv_verify_rules.proofs.variables.store.Goals as goal

pub returns-in-Some : goal.returns-in-Some
returns-in-Some c = λ names.
    stored_in names c.args.kind c.args.index c.args.frame.now c.pop_of_kind.new.frame c.store.new.self c.in-Some.item
    (c.in-Some.ensures names).0 (c.in-Some.ensures names).1 (c.if-store.ensures.stored names) c.store.ensures.same

pub returns-in_default : goal.returns-in_default
returns-in_default c = λ names.
    not_stored names c.args.kind c.args.index c.args.frame.now c.pop_of_kind.new.frame c.in-Some.item
    (c.in-Some.ensures names).0 (c.in-Some.ensures names).1 (c.if-store.ensures.stored names)

pub returns-in_default-2 : goal.returns-in_default-2
returns-in_default-2 c = λ names. none_taken names c.args.kind c.args.index c.args.frame.now (c.in_default.ensures names)
