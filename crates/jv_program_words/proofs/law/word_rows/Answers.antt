use Rattle.std.proofs.Common.{refl}
use Rattle.clap.proofs.OnLiterals.{clap_on_literals}
use Rattle.jv_program_words.specs.Rows.Words.{WordRows}
use Rattle.jv_program_words.proofs.law.word_rows.Goals as goal

rows : WordRows
unfolding clap_on_literals
rows = record {
  folders = refl;
  cells = refl;
  behind = refl;
  fed = refl;
  told = refl;
  judged = refl;
  timed = refl;
  files = refl;
  explained = refl;
  lines = refl;
  checked_lines = refl;
  explained_lines = refl;
  linked = refl;
  behind_a_library = refl;
  checked_behind = refl;
  with_frames = refl;
  explained_behind = refl;
  nothing = refl;
  no_command = refl;
  no_folder = refl;
  no_steps = refl;
  guest_65 = refl;
  twice = refl;
  two_libraries = refl;
  unknown = refl;
  version = refl;
}

pub returns : goal.returns
returns c = rows
