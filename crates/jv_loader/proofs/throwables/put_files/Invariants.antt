use Rattle.std.proofs.Common.{◌≡◌, ◌++◌, take}
use Rattle.std.specs.Prelude.{map}
use Rattle.jv_class_structure.specs.Structure.{class_bytes}
use Rattle.jv_meaning_world.specs.System.Throwables.{throwable_class_file}
use Rattle.jv_loader.specs.Inside.Table.{row_of}
use Rattle.jv_loader.proofs.throwables.put_files.Given as goal

abbrev pub invariant-loop-class : goal.invariant-loop-class
invariant-loop-class l =
    map (λ file. file.items) l.files.items
    ≡ map (λ file. file.items) l.fn.files.items ++ map (λ class. class_bytes (throwable_class_file (row_of class))) (take l.class-index l.classes)
