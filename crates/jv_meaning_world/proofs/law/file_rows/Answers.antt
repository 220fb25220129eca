use Rattle.std.proofs.Common.{refl}
use Rattle.jv_meaning_world.proofs.law.file_rows.Goals as goal

pub returns : goal.returns
returns c = record {
  version = refl;
  format = refl;
  unsupported = refl;
  reserved = refl;
  first_of_two = refl;
  second_of_two = refl;
  reserved_twice = refl;
  circular = refl;
  below_circle = refl;
  missing = refl;
  interface_above = refl;
  class_as_interface = refl;
  other_package = refl;
  same_package = refl;
  final_above = refl;
  final_method = refl;
  private_final = refl;
  static_final = refl;
  other_package_final = refl;
  across = refl;
  third = refl;
  final_of_system = refl;
  below_broken = refl;
  kind_first = refl;
  specific = refl;
  unrelated = refl;
  concrete = refl;
  own_circle = refl;
  class_first = refl;
  own_interface = refl;
  own_superclass = refl;
  circle = refl;
  circle_order = refl;
}
