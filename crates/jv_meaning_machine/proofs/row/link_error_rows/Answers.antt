use Rattle.std.proofs.Common.{refl}
use Rattle.jv_meaning_machine.proofs.row.link_error_rows.Goals as goal

pub returns : goal.returns
returns c = record {
  not_there = refl;
  circular = refl;
  no_super = refl;
  wrong_kind = refl;
  no_access_to_super = refl;
  other_package = refl;
  new_not_there = refl;
  new_abstract = refl;
  new_interface = refl;
  new_array = refl;
  new_array_not_there = refl;
  no_such_field = refl;
  private_field = refl;
  get_static_of_instance = refl;
  put_static_of_instance = refl;
  get_field_of_static = refl;
  put_field_of_static = refl;
  final_static = refl;
  final_instance = refl;
  no_such_method = refl;
  no_such_interface_method = refl;
  private_method = refl;
  class_for_interface = refl;
  interface_for_class = refl;
  static_of_instance = refl;
  virtual_of_static = refl;
  special_of_static = refl;
  abstract_virtual = refl;
  abstract_special = refl;
  not_implemented = refl;
  inherited_constructor = refl;
}
