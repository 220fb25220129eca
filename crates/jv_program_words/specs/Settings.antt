-- What the words of the command line ask for (own).
use Rattle.std.specs.Prelude.{◌≡◌, ◌⊎◌, ℕ, Bool, false, if◌then◌else◌, List, [], map, Option, Some, None, option_and_then, option_map, slice_get, codes}
use Rattle.std.specs.Borrow.{Bor}
use Rattle.std.specs.Global.{Vec}
use Rattle.std.specs.Str.{bytes_eq}
use Rattle.std.specs.Str.Parse.{digits_value, without_leading_plus}
use Rattle.clap.specs.ValueTests.{is_unsigned_in}
use Rattle.clap.specs.Words.{HasKind, IsAmong, fault_of, kind_of}
use Rattle.clap.specs.declared.error.kind.ErrorKind.TheVariants as kinds
use Rattle.clap.specs.declared.error.Error.{Error}
use Rattle.clap.specs.Walk.{Row, all_of, one_of}
use Rattle.clap.specs.Simple.{subcommand_of}
use Rattle.jv_program_words.specs.CommandLine.{command_line, most_of_32_bits}
use Rattle.jv_program_words.specs.declared.asked.ExplainOptions.{ExplainOptions}
use Rattle.jv_program_words.specs.declared.asked.RunOptions.{RunOptions}
use Rattle.jv_program_words.specs.declared.asked.Settings.{Settings}
use Rattle.jv_program_words.specs.declared.asked.Settings.TheVariants as settings

-- 65,536 cells, words and bytes of output, and 10,000 rounds of turns of 1,000 steps; no guest is fed, no output written as it is, the
-- report is no JSON and has no places, and nothing told besides
abbrev pub usual_options : RunOptions
usual_options = record {
  cells = 65536;
  words = 65536;
  output = 65536;
  quantum = 1000;
  rounds = 10000;
  stdin = None;
  raw = None;
  json = false;
  places = false;
  progress = false;
  time = false;
}

-- what is found with the one, where there is one
infixl 10 ◌>>=◌
abbrev pub ◌>>=◌ : {A B : Type 0} → Option A → (A → Option B) → Option B
found >>= next = option_and_then next found

-- ---- numbers

-- the number that a text spells, with or without a plus before it, where that is from `least` to `most`
abbrev pub number_of : (least most : ℕ) → (text : List ℕ) → Option ℕ
number_of least most text =
    if is_unsigned_in least most text then Some (digits_value 10 (without_leading_plus text)) else None

-- the number of an option: what its text spells, and the usual one where it isn't used
abbrev pub number_or : (usual least most : ℕ) → Option (List ℕ) → Option ℕ
number_or usual least most None = Some usual
number_or usual least most (Some text) = number_of least most text

abbrev pub number_in : List Row → (name : List ℕ) → (usual least : ℕ) → Option ℕ
number_in rows name usual least = number_or usual least most_of_32_bits (one_of name rows)

-- the number of a guest, where an option names one
abbrev pub guest_or_none : Option (List ℕ) → Option (Option ℕ)
guest_or_none None = Some None
guest_or_none (Some text) = option_map Some (number_of 1 64 text)

abbrev pub guest_in : List Row → (name : List ℕ) → Option (Option ℕ)
guest_in rows name = guest_or_none (one_of name rows)

-- a flag is there where its text is so
abbrev pub is_set : Option (List ℕ) → Bool
is_set None = false
is_set (Some text) = bytes_eq text (codes "true")

abbrev pub is_flag_in : List Row → (name : List ℕ) → Bool
is_flag_in rows name = is_set (one_of name rows)

-- what each guest may use, how many steps it gets, which is fed, which one's output is written as it is, whether the report is JSON or
-- has places, and what is told besides, as the rows of a command's arguments have it
abbrev pub options_in : List Row → Option RunOptions
options_in rows =
    number_in rows (codes "cells") usual_options.cells 0 >>= λ cells.
    number_in rows (codes "words") usual_options.words 0 >>= λ words.
    number_in rows (codes "output") usual_options.output 0 >>= λ output.
    number_in rows (codes "quantum") usual_options.quantum 1 >>= λ quantum.
    number_in rows (codes "rounds") usual_options.rounds 1 >>= λ rounds.
    guest_in rows (codes "stdin") >>= λ stdin.
    guest_in rows (codes "raw") >>= λ raw.
    Some (record {
      cells = cells;
      words = words;
      output = output;
      quantum = quantum;
      rounds = rounds;
      stdin = stdin;
      raw = raw;
      json = is_flag_in rows (codes "json");
      places = is_flag_in rows (codes "where");
      progress = is_flag_in rows (codes "progress");
      time = is_flag_in rows (codes "time");
    })

-- whether the report is JSON, whether references that don't resolve are told, and whether methods are listed with their frames
abbrev pub explain_options_in : List Row → ExplainOptions
explain_options_in rows =
    record { json = is_flag_in rows (codes "json"); links = is_flag_in rows (codes "links"); frames = is_flag_in rows (codes "frames") }

-- the word of an option, where it is used
abbrev pub word_in : List Row → (name : List ℕ) → Option (List ℕ)
word_in rows name = option_and_then (λ words. slice_get words 0) (all_of name rows)

-- ---- what is asked for

-- to run the guests in folders, to check files, with a report in JSON or not, or to explain the verdicts on files, each with the library
-- in a folder where one is named
pub data Asked : Type 0 where
  run : RunOptions → (library : Option (List ℕ)) → (folders : List (List ℕ)) → Asked
  check : (json : Bool) → (library : Option (List ℕ)) → (files : List (List ℕ)) → Asked
  explain : ExplainOptions → (library : Option (List ℕ)) → (files : List (List ℕ)) → Asked

-- what a command asks for, by its name and the rows of its arguments
abbrev pub asked_by : List ℕ × List Row → Option Asked
asked_by (name, rows) =
    if bytes_eq name (codes "run")
    then option_and_then (λ options. option_map (run options (word_in rows (codes "library"))) (all_of (codes "folder") rows))
    (options_in rows)
    else if bytes_eq name (codes "check")
    then option_map (check (is_flag_in rows (codes "json")) (word_in rows (codes "library"))) (all_of (codes "file") rows)
    else if bytes_eq name (codes "explain")
    then option_map (explain (explain_options_in rows) (word_in rows (codes "library"))) (all_of (codes "file") rows)
    else None

-- What words that the library takes ask for, of which the first is the program's own name; none where they name no command with its names
-- and options.
abbrev pub asked_in : (words : List (List ℕ)) → Option Asked
asked_in words = option_and_then asked_by (subcommand_of command_line words)

-- the text of a name, where there is one
abbrev pub text_of : Option (Bor (List ℕ)) → Option (List ℕ)
text_of name = option_map (λ n. n.now) name

-- the texts of these names
abbrev pub texts_of : Vec (Bor (List ℕ)) → List (List ℕ)
texts_of names = map (λ name. name.now) names.items

-- there are names where there are texts, and they have these
abbrev pub AreNames : Option (List (List ℕ)) → Option (Vec (Bor (List ℕ))) → Type 0
AreNames texts names = option_map texts_of names ≡ texts

-- what settings ask for
abbrev pub asked_of : Settings → Asked
asked_of (settings.Run options library folders) = run options (text_of library) (texts_of folders)
asked_of (settings.Check json library files) = check json (text_of library) (texts_of files)
asked_of (settings.Explain options library files) = explain options (text_of library) (texts_of files)

-- the settings are what is asked for
abbrev pub IsAskedBy : Option Asked → Option Settings → Type 0
IsAskedBy asked settings = option_map asked_of settings ≡ asked

-- the library takes the words, and they ask for this
abbrev pub AskFor : (words : List (List ℕ)) → Asked → Type 0
AskFor words asked = (fault_of command_line words ≡ []) × (asked_in words ≡ Some asked)

-- they ask for the settings
abbrev pub IsAskedIn : (words : List (List ℕ)) → Settings → Type 0
IsAskedIn words settings = AskFor words (asked_of settings)

-- The words are refused: by the library, in one of the kinds that its definition gives for them, or of want of memory; or the library
-- takes them, and they ask for nothing, and are called out of range.
abbrev pub AreRefused : (words : List (List ℕ)) → Error → Type 0
AreRefused words error =
    HasKind (fault_of command_line words) error
    ⊎ ((fault_of command_line words ≡ []) × (asked_in words ≡ None) × (kind_of error ≡ kinds.ValueValidation))

-- the words ask for help, or for the version
abbrev pub AskForHelp : (words : List (List ℕ)) → Type 0
AskForHelp words =
    IsAmong kinds.DisplayHelp (fault_of command_line words) ⊎ IsAmong kinds.DisplayVersion (fault_of command_line words)
