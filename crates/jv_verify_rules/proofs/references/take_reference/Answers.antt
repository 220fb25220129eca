use Rattle.jv_verify_rules.proofs.NewObjects.{reference_taken, no_reference}
use Rattle.jv_verify_rules.proofs.references.take_reference.Goals as goal

pub returns-in-Some : goal.returns-in-Some
returns-in-Some c = λ names.
    reference_taken names c.args.frame.now c.pop_of_kind.new.frame c.in-Some.field-0 (c.in-Some.ensures names).0 (c.in-Some.ensures names).1

pub returns-in-None : goal.returns-in-None
returns-in-None c = λ names. no_reference names c.args.frame.now (c.in-None.ensures names)
