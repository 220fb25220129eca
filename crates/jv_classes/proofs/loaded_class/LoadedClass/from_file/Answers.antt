use Rattle.jv_classes.proofs.Loaded.{class_known, is_loaded}
use Rattle.jv_classes.proofs.loaded_class.LoadedClass.from_file.Goals as goal

pub invariant_of-result : goal.invariant_of-result
invariant_of-result c =
    rw c.in_ok-read.ensures.ok
    (is_loaded c.args.by_system c.args.file c.in_ok-kept.kept (c.is_some_class.ensures c.args.file c.is_well_formed.ensures) c.in_ok-kept.ensures)

pub returns-clause-class : goal.returns-clause-class
returns-clause-class c = rw c.in_ok-read.ensures.ok (class_known c.args.file (c.is_some_class.ensures c.args.file c.is_well_formed.ensures))
