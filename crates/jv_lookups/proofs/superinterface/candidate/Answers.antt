use Rattle.std.proofs.Common.{◌∙◌, sym}
use Rattle.jv_meaning_world.specs.LookUps.{is_inheritable}
use Rattle.jv_lookups.proofs.Standing.{method_stands}
use Rattle.jv_lookups.proofs.Tests.{kept, dropped, candidate_by_method, no_candidate, no_superinterface}
use Rattle.jv_lookups.proofs.superinterface.candidate.Goals as goal

pub returns-in_default-clause-found : goal.returns-in_default-clause-found
returns-in_default-clause-found c = λ l at m at_m. no_candidate c.args.name.now c.args.descriptor.now l m (c.in_default.ensures.found m at_m)

pub returns-then-not-is_superinterface-clause-found : goal.returns-then-not-is_superinterface-clause-found
returns-then-not-is_superinterface-clause-found c = λ l at m at_m.
    no_superinterface c.args.name.now c.args.descriptor.now l m (sym (c.is_superinterface.ensures l at m at_m) ∙ c.if-not-is_superinterface.true)

pub returns-then-not-is_inheritable-clause-found : goal.returns-then-not-is_inheritable-clause-found
returns-then-not-is_inheritable-clause-found c = λ l at m at_m.
    let there = method_stands c.args.table.now c.in-Some.place c.in-Some.ensures.place in
    candidate_by_method c.args.name.now c.args.descriptor.now l m _ (sym (c.is_superinterface.ensures l at m at_m) ∙ c.if-not-is_superinterface.false)
    (dropped is_inheritable _ there.0 (sym (c.in-Some.ensures.found m at_m) ∙ there.1) (sym (c.is_inheritable.ensures there.0 there.1) ∙ c.if-not-is_inheritable.true))

pub returns-clause-found : goal.returns-clause-found
returns-clause-found c = λ l at m at_m.
    let there = method_stands c.args.table.now c.in-Some.place c.in-Some.ensures.place in
    candidate_by_method c.args.name.now c.args.descriptor.now l m _ (sym (c.is_superinterface.ensures l at m at_m) ∙ c.if-not-is_superinterface.false)
    (there.1 ∙ kept is_inheritable _ there.0 (sym (c.in-Some.ensures.found m at_m) ∙ there.1) (sym (c.is_inheritable.ensures there.0 there.1) ∙ c.if-not-is_inheritable.false))
