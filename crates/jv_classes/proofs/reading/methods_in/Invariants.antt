use Rattle.std.proofs.Common.{◌≡◌, take, Some}
use Rattle.jv_class.specs.Class.{all_found}
use Rattle.jv_class_structure.specs.Parts.{methods_of}
use Rattle.jv_classes.specs.Inside.Found.{ArePlaces, method_at}
use Rattle.jv_classes.proofs.reading.methods_in.Given as goal

abbrev pub invariant-loop-place : goal.invariant-loop-place
invariant-loop-place l =
    (all_found (method_at l.file.constant_pool) (take l.place (methods_of l.file)) ≡ Some l.gathered.members)
    × ArePlaces l.file.constant_pool l.places.items l.gathered.texts
