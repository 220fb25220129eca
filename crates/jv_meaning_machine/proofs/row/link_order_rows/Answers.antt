use Rattle.std.proofs.Common.{refl}
use Rattle.jv_meaning_machine.proofs.row.link_order_rows.Goals as goal

pub returns : goal.returns
returns c = record {
  get_begins = refl;
  put_begins = refl;
  final_read = refl;
  call_begins = refl;
  new_begins = refl;
  put_operand = refl;
  call_begun = refl;
  call_initialized = refl;
  call_erroneous = refl;
  field_of_null = refl;
  no_field_of_null = refl;
  put_to_null = refl;
  static_of_null = refl;
  virtual_of_null = refl;
  special_of_null = refl;
  interface_of_null = refl;
  inherited = refl;
  not_constructed = refl;
  of_array = refl;
}
