use Rattle.std.proofs.Common.{refl}
use Rattle.jv_meaning_world.proofs.flow_law.flow_rows.Goals as goal

pub returns : goal.returns
returns c = record {
  ints_to_object = refl;
  ints_to_serializable = refl;
  ints_to_objects = refl;
  arrays_of_ints_to_objects = refl;
  ints_to_longs = refl;
  arrays_of_ints_to_ints = refl;
  ints_to_arrays_of_ints = refl;
  objects_to_serializables = refl;
  array_to_interface = refl;
  null_to_ints = refl;
  null_to_int = refl;
  uninitialized_to_top = refl;
  uninitialized_to_object = refl;
  uninitialized_to_another = refl;
  missing_to_itself = refl;
  missing_to_object = refl;
  missing_to_interface = refl;
  class_to_superclass = refl;
  superclass_to_class = refl;
  object_to_interface = refl;
  classes_to_superclasses = refl;
  to_unloadable_interface = refl;
  missings_to_objects = refl;
  long_in_local = refl;
  long_on_stack = refl;
  longer_stack = refl;
  flag_kept = refl;
  flag_gained = refl;
}
