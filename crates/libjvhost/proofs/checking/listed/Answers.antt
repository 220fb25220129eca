use Rattle.std.proofs.Common.{ap, ◌∙◌, ◌∷◌, [], ◌++◌, map, take}
use Rattle.libjvhost.specs.Told.{told_verdict}
use Rattle.libjvhost.proofs.Taken.{take-map-next}
use Rattle.libjvhost.proofs.checking.listed.Goals as goal

pub loop-file-preserved : goal.loop-file-preserved
loop-file-preserved c =
    let verdicts = c.args.verified.now.verdicts in let file = c.loop-file.file in
    c.in-Ok.ensures.items
    ∙ ap (λ told. told ++ c.told_verdict.result ∷ []) c.loop-file.invariant
    ∙ ap (λ verdict. map told_verdict (take file verdicts) ++ verdict ∷ []) c.told_verdict.ensures
    ∙ take-map-next told_verdict file verdicts c.verdict.result c.verdict.ensures
