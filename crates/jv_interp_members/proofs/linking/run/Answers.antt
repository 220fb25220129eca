use Rattle.std.proofs.Common.{ℕ, Option, Ok, Err, subst}
use Rattle.jv_meaning_typing.specs.Selection.{select}
use Rattle.jv_link.specs.Seen.{seen_use}
use Rattle.jv_link.specs.Objects.{object_class_at}
use Rattle.jv_link.specs.Answers.{AnswersTarget}
use Rattle.jv_interp_members.specs.Resolved.{class_number}
use Rattle.jv_interp_members.proofs.Linked.{method_answered, error_answered}
use Rattle.jv_interp_members.proofs.linking.run.Goals as goal

pub returns-in-Ok-clause-run : goal.returns-in-Ok-clause-run
returns-in-Ok-clause-run c = λ s t site target.
    let world = c.args.classes.now.world in
    method_answered world (select world s (seen_use c.args.how) t (object_class_at world (class_number c.args.word))) c.in-Ok.selected c.number_of.result
    (subst (λ (o : Option ℕ). AnswersTarget world (Ok c.in-Ok.selected) (select world s (seen_use c.args.how) t (object_class_at world o)))
    c.class_number.ensures (c.in-Ok.ensures.found s t site target))
    (λ d at. c.number_of.ensures world d c.requires.methods at)

pub returns-in-Err-clause-run : goal.returns-in-Err-clause-run
returns-in-Err-clause-run c = λ s t site target.
    let world = c.args.classes.now.world in
    error_answered world (select world s (seen_use c.args.how) t (object_class_at world (class_number c.args.word))) c.in-Err.error
    c.number_of_error.result
    (subst (λ (o : Option ℕ). AnswersTarget world (Err c.in-Err.error) (select world s (seen_use c.args.how) t (object_class_at world o)))
    c.class_number.ensures (c.in-Err.ensures.found s t site target))
    (c.number_of_error.ensures world c.requires.guests)
