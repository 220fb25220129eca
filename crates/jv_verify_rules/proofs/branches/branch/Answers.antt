use Rattle.std.proofs.Common.{sym, subst}
use Rattle.jv_code.specs.declared.kinds.Test.{Test}
use Rattle.jv_meaning_typing.specs.NumberRules.{test}
use Rattle.jv_meaning_typing.specs.Rule.{by_exchange, test_references}
use Rattle.jv_verify_types.specs.Numbered.{frame_of}
use Rattle.jv_verify_types.specs.Outcomes.{IsOutcome}
use Rattle.jv_verify_rules.proofs.branches.branch.Goals as goal

pub returns-in-IfReferences : goal.returns-in-IfReferences
returns-in-IfReferences c = λ env same.
    let names = c.args.types.now.names in
    let frame = frame_of names c.args.frame.now in
    subst (λ (t : Test). IsOutcome names (by_exchange env (test t) (test_references t frame) frame) c.test_references.new.frame c.test_references.result)
    (sym c.in-IfReferences.is) (c.test_references.ensures names)

pub returns-in-IfNull : goal.returns-in-IfNull
returns-in-IfNull c = λ env same.
    let names = c.args.types.now.names in
    let frame = frame_of names c.args.frame.now in
    subst (λ (t : Test). IsOutcome names (by_exchange env (test t) (test_references t frame) frame) c.test_reference.new.frame c.test_reference.result)
    (sym c.in-IfNull.is) (c.test_reference.ensures names)
