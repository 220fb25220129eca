use Rattle.jv_class_structure.specs.Parts.{methods_of}
use Rattle.jv_verify.proofs.Shown.{of_file, none_typed}
use Rattle.jv_verify.proofs.methods.check_shown.Goals as goal

pub returns-then-has_no_code : goal.returns-then-has_no_code
returns-then-has_no_code c = λ l at.
    none_typed c.args.classes.now.world l (methods_of c.args.file.now) (of_file c.args.file.now l (c.requires.file l at)) (c.has_no_code.ensures.0 c.if-has_no_code.true)
