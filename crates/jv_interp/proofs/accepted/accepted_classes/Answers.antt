use Rattle.std.proofs.Common.{List, Bool, Option, ◌++◌, take, sym, ap, ◌∙◌}
use Rattle.std.specs.Option.{option_to_list}
use Rattle.jv_interp.specs.VerifiedClasses.{accepted_by}
use Rattle.jv_interp.proofs.AcceptedClasses.{accepted_next}
use Rattle.jv_interp.proofs.accepted.accepted_classes.Goals as goal

pub loop-file-preserved : goal.loop-file-preserved
loop-file-preserved c =
    c.in_ok-push_some.ensures {u = tt}
    ∙ ap (λ (bs : List Bool). bs ++ option_to_list c.class_accepted.result) c.loop-file.invariant
    ∙ ap (λ (o : Option Bool). accepted_by c.args.verified.now.host (take c.loop-file.file c.args.verified.now.verdicts) ++ option_to_list o) c.class_accepted.ensures
    ∙ sym (accepted_next c.args.verified.now.host c.args.verified.now.verdicts c.loop-file.file c.verdict.result c.verdict.ensures)
