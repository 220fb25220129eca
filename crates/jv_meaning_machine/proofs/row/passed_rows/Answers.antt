use Rattle.std.proofs.Common.{refl}
use Rattle.jv_meaning_machine.proofs.row.passed_rows.Goals as goal

pub returns : goal.returns
returns c = record {
  replaced = refl;
  replaced_once = refl;
  error = refl;
  superclass = refl;
  class = refl;
  erroneous_superclass = refl;
  unaccepted = refl;
  no_words = refl;
  last_words = refl;
  no_last_word = refl;
  no_words_for_clinit = refl;
  interfaces = refl;
  narrowed = refl;
  long = refl;
  literal = refl;
  no_cells = refl;
}
