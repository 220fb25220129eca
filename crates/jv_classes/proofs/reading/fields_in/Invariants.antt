use Rattle.std.proofs.Common.{◌≡◌, take, Some}
use Rattle.jv_class.specs.Class.{all_found}
use Rattle.jv_classes.specs.Inside.Found.{ArePlaces, field_at}
use Rattle.jv_classes.proofs.reading.fields_in.Given as goal

abbrev pub invariant-loop-field : goal.invariant-loop-field
invariant-loop-field l = (all_found (field_at l.pool) (take l.field-index l.fields) ≡ Some l.gathered.members) × ArePlaces l.pool l.places.items l.gathered.texts
