use Rattle.std.proofs.Common.{refl}
use Rattle.jv_meaning_machine.proofs.row.fault_rows.Goals as goal

pub returns : goal.returns
returns c = record {
  behind_code = refl;
  constant_of_class = refl;
  virtual_of_interface = refl;
  interface_of_class = refl;
  virtual_of_init = refl;
  old_static_of_interface = refl;
  old_special_of_interface = refl;
  static_of_interface = refl;
  special_of_interface = refl;
  static_of_init = refl;
  below_empty = refl;
  above_max_stack = refl;
  outside_locals = refl;
  other_kind = refl;
  cut_long = refl;
  no_throwable = refl;
  string_thrown = refl;
  not_constructed = refl;
  not_accepted = refl;
  no_words_for_it = refl;
  other_return = refl;
}
