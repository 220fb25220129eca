use Rattle.std.proofs.Common.{refl}
use Rattle.jv_meaning_machine.proofs.row.cast_rows.Goals as goal

pub returns : goal.returns
returns c = record {
  itself = refl;
  superclass = refl;
  superinterface = refl;
  subclass = refl;
  other_interface = refl;
  system_interface = refl;
  array_to_object = refl;
  array_to_cloneable = refl;
  array_to_interface = refl;
  array_covariant = refl;
  array_contravariant = refl;
  array_of_interface = refl;
  arrays_to_objects = refl;
  ints_to_objects = refl;
  ints_to_bytes = refl;
  object_to_array = refl;
  null = refl;
  null_of_text = refl;
  not_there = refl;
  array_not_there = refl;
  hidden = refl;
  not_constructed = refl;
  number = refl;
}
