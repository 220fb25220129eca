use Rattle.std.proofs.Common.{refl}
use Rattle.jv_meaning_machine.proofs.row.output_rows.Goals as goal

pub returns : goal.returns
returns c = record {
  writes = refl;
  running = refl;
  over = refl;
  one_byte_of_output = refl;
  input_ends = refl;
  read_goes_on = refl;
  byte_goes_on = refl;
  write_goes_on = refl;
  stored = refl;
  null_is_one_word = refl;
  no_main = refl;
  unverified_main = refl;
}
