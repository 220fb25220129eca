-- Worked rows of the command line: what words ask for, and in which kind others are refused.
use Rattle.std.specs.Prelude.{◌≡◌, ℕ, true, false, List, [], ◌∷◌, Some, None, codes}
use Rattle.clap.specs.Words.{fault_of}
use Rattle.clap.specs.declared.error.kind.ErrorKind.TheVariants as kinds
use Rattle.jv_program_words.specs.CommandLine.{command_line}
use Rattle.jv_program_words.specs.Settings.{asked_in, check, explain, run, usual_options}

-- the words behind the program's own
abbrev words : List (List ℕ) → List (List ℕ)
words more = codes "jvhost" ∷ more

pub record WordRows : Type 0 where
  pub folders : asked_in (words (codes "run" ∷ codes "a" ∷ codes "b" ∷ []))
      ≡ Some (run usual_options None (codes "a" ∷ codes "b" ∷ []))
  pub cells : asked_in (words (codes "run" ∷ codes "--cells" ∷ codes "64" ∷ codes "a" ∷ []))
      ≡ Some (run (record usual_options { cells = 64 }) None (codes "a" ∷ []))
  pub behind : asked_in (words (codes "run" ∷ codes "a" ∷ codes "--quantum=3" ∷ codes "--rounds" ∷ codes "1" ∷ []))
      ≡ Some (run (record usual_options { quantum = 3; rounds = 1 }) None (codes "a" ∷ []))
  pub fed : asked_in (words (codes "run" ∷ codes "--stdin" ∷ codes "2" ∷ codes "a" ∷ codes "b" ∷ []))
      ≡ Some (run (record usual_options { stdin = Some 2 }) None (codes "a" ∷ codes "b" ∷ []))
  pub told : asked_in (words (codes "run" ∷ codes "--progress" ∷ codes "a" ∷ []))
      ≡ Some (run (record usual_options { progress = true }) None (codes "a" ∷ []))
  pub judged : asked_in (words (codes "run" ∷ codes "--raw" ∷ codes "1" ∷ codes "--stdin" ∷ codes "1" ∷ codes "a" ∷ []))
      ≡ Some (run (record usual_options { stdin = Some 1; raw = Some 1 }) None (codes "a" ∷ []))
  pub timed : asked_in (words (codes "run" ∷ codes "--time" ∷ codes "a" ∷ []))
      ≡ Some (run (record usual_options { time = true }) None (codes "a" ∷ []))
  pub files : asked_in (words (codes "check" ∷ codes "A.class" ∷ codes "B.class" ∷ []))
      ≡ Some (check false None (codes "A.class" ∷ codes "B.class" ∷ []))
  pub explained : asked_in (words (codes "explain" ∷ codes "A.class" ∷ codes "B.class" ∷ []))
      ≡ Some (explain (record { json = false; links = false; frames = false }) None (codes "A.class" ∷ codes "B.class" ∷ []))
  pub lines : asked_in (words (codes "run" ∷ codes "a" ∷ codes "--json" ∷ []))
      ≡ Some (run (record usual_options { json = true }) None (codes "a" ∷ []))
  pub checked_lines : asked_in (words (codes "check" ∷ codes "--json" ∷ codes "A.class" ∷ []))
      ≡ Some (check true None (codes "A.class" ∷ []))
  pub explained_lines : asked_in (words (codes "explain" ∷ codes "A.class" ∷ codes "--json" ∷ []))
      ≡ Some (explain (record { json = true; links = false; frames = false }) None (codes "A.class" ∷ []))
  pub linked : asked_in (words (codes "explain" ∷ codes "--links" ∷ codes "A.class" ∷ []))
      ≡ Some (explain (record { json = false; links = true; frames = false }) None (codes "A.class" ∷ []))
  pub with_frames : asked_in (words (codes "explain" ∷ codes "--frames" ∷ codes "A.class" ∷ []))
      ≡ Some (explain (record { json = false; links = false; frames = true }) None (codes "A.class" ∷ []))
  pub behind_a_library : asked_in (words (codes "run" ∷ codes "--library" ∷ codes "lib" ∷ codes "a" ∷ codes "b" ∷ []))
      ≡ Some (run usual_options (Some (codes "lib")) (codes "a" ∷ codes "b" ∷ []))
  pub checked_behind : asked_in (words (codes "check" ∷ codes "A.class" ∷ codes "--library=lib" ∷ []))
      ≡ Some (check false (Some (codes "lib")) (codes "A.class" ∷ []))
  pub explained_behind : asked_in (words (codes "explain" ∷ codes "--library" ∷ codes "lib" ∷ codes "A.class" ∷ []))
      ≡ Some (explain (record { json = false; links = false; frames = false }) (Some (codes "lib")) (codes "A.class" ∷ []))
  pub nothing : asked_in (words []) ≡ None
  pub no_command : fault_of command_line (words []) ≡ kinds.MissingSubcommand ∷ []
  pub no_folder : fault_of command_line (words (codes "run" ∷ [])) ≡ kinds.MissingRequiredArgument ∷ []
  pub no_steps : fault_of command_line (words (codes "run" ∷ codes "--quantum" ∷ codes "0" ∷ codes "a" ∷ []))
      ≡ kinds.ValueValidation ∷ []
  pub guest_65 : fault_of command_line (words (codes "run" ∷ codes "--stdin" ∷ codes "65" ∷ codes "a" ∷ []))
      ≡ kinds.ValueValidation ∷ []
  pub twice : fault_of command_line (words (codes "run" ∷ codes "--cells" ∷ codes "64" ∷ codes "--cells" ∷ codes "65" ∷ codes "a" ∷ []))
      ≡ kinds.ArgumentConflict ∷ []
  pub two_libraries :
      fault_of command_line (words (codes "run" ∷ codes "--library" ∷ codes "l" ∷ codes "--library" ∷ codes "m" ∷ codes "a" ∷ []))
      ≡ kinds.ArgumentConflict ∷ []
  pub unknown : fault_of command_line (words (codes "run" ∷ codes "--fast" ∷ codes "a" ∷ [])) ≡ kinds.UnknownArgument ∷ []
  pub version : fault_of command_line (words (codes "--version" ∷ [])) ≡ kinds.DisplayVersion ∷ []
