use Rattle.jv_interp.proofs.FewClasses.{few_classes}
use Rattle.jv_interp.proofs.counts.classes_are_few.Goals as goal

pub returns : goal.returns
returns c =
    let files = c.are_typed.ensures.files in
    few_classes files.0 files.1 c.args.verified.now files.2
