use Rattle.std.proofs.Common.{refl}
use Rattle.jv_beyond.specs.Mnemonics.{mnemonic}
use Rattle.jv_beyond.specs.Rows.{WorkedRows}
use Rattle.jv_beyond.proofs.law.worked_rows.Goals as goal

rows : WorkedRows
unfolding mnemonic
rows = record {
  code_first = refl;
  opcode_first = refl;
  lower_first = refl;
  method_first = refl;
  field_first = refl;
  plain = refl;
  array = refl;
  wide = refl;
  of_profile = refl;
  dynamic = refl;
  monitor = refl;
  floating = refl;
  native = refl;
  synchronized = refl;
  member = refl;
  named = refl;
  alone = refl;
  loaded = refl;
  made = refl;
  none = refl;
}

pub returns : goal.returns
returns c = rows
