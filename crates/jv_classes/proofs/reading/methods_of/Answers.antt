use Rattle.jv_classes.proofs.OfFile.{if_ok_so, methods_kept}
use Rattle.jv_classes.proofs.reading.methods_of.Goals as goal

pub returns : goal.returns
returns c = if_ok_so c.methods_in.result _ _ (methods_kept c.args.file.now) c.methods_in.ensures
