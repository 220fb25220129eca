use Rattle.std.proofs.Common.{refl}
use Rattle.jv_meaning_machine.proofs.row.instance_of_rows.Goals as goal

pub returns : goal.returns
returns c = record {
  superclass = refl;
  subclass = refl;
  superinterface = refl;
  other_interface = refl;
  array_to_serializable = refl;
  array_covariant = refl;
  more_dimensions = refl;
  fewer_dimensions = refl;
  arrays_to_cloneables = refl;
  same_base = refl;
  other_base = refl;
  null = refl;
  null_of_text = refl;
  not_there = refl;
  hidden = refl;
}
