-- How the program ends, and what it has written then (own).
use Rattle.std.specs.Prelude.{◌≡◌, ◌≢◌, ◌⊎◌, ◌++◌, ℕ, Bool, true, false, IsTrue, List, Option, None}
use Rattle.std.specs.Io.KnownBytes.{Appends}
use Rattle.clap.specs.Values.{kind_of}
use Rattle.clap.specs.declared.error.Error.{Error}
use Rattle.clap.specs.declared.error.kind.ErrorKind.TheVariants as kinds
use Rattle.jv_program_base.specs.Disk.{Disk}
use Rattle.jv_program_check.specs.Named.{IsCheckedAs, IsNamedFailure}
use Rattle.jv_program_explain.specs.Named.{IsExplainedAs}
use Rattle.jv_program_explain.specs.declared.settings.ExplainSettings.{ExplainSettings}
use Rattle.jv_program_base.specs.declared.failure.Failure.{Failure}
use Rattle.jv_program_base.specs.declared.failure.Failure.TheVariants.{OutOfMemory}
use Rattle.jv_program_base.specs.declared.outcome.Outcome.{Outcome}
use Rattle.jv_program_run.specs.declared.settings.RunSettings.{RunSettings}
use Rattle.jv_program_base.specs.Failure.{failure_line, failure_status}
use Rattle.jv_program_run.specs.Named.{AreTaken, IsRunAs, IsRunFailure}
use Rattle.jv_program_words.specs.declared.asked.ExplainOptions.{ExplainOptions}
use Rattle.jv_program_words.specs.declared.asked.RunOptions.{RunOptions}
use Rattle.jv_program_words.specs.Settings.{AskFor, AskForHelp, AreRefused}
use Rattle.jv_program_words.specs.Settings.Asked.{run, check, explain}
use Rattle.jv_program.specs.Status.{output_line}
use Rattle.jv_program.specs.Written.{WritesCut, WritesFront, beside_of, shown_of}

-- the settings with these options
abbrev pub settings_of : RunOptions → RunSettings
settings_of options = record {
  budget = record { cells = options.cells; words = options.words; output = options.output };
  quantum = options.quantum;
  rounds = options.rounds;
  stdin = options.stdin;
  raw = options.raw;
  json = options.json;
  places = options.places;
}

abbrev pub explain_settings_of : ExplainOptions → ExplainSettings
explain_settings_of options = record { json = options.json; links = options.links; frames = options.frames }

-- ---- what there is to read

-- The words ask for a check, for explanations, or to run folders that are taken: at most 64, the guests that the options name among them.
-- Else nothing is opened.
abbrev pub IsBegun : (line : List (List ℕ)) → Type 0
IsBegun line =
    ((options : RunOptions) × (library : Option (List ℕ)) × (folders : List (List ℕ)) × AskFor line (run options library folders)
    × AreTaken (settings_of options) folders)
    ⊎ (((json : Bool) × (library : Option (List ℕ)) × (names : List (List ℕ)) × AskFor line (check json library names))
    ⊎ ((options : ExplainOptions) × (library : Option (List ℕ)) × (names : List (List ℕ)) × AskFor line (explain options library names)))

-- the words ask to run the guests of folders, and to be told besides how far the run is, or how long the processor took
abbrev pub AskForCompany : (line : List (List ℕ)) → Type 0
AskForCompany line =
    (options : RunOptions) × (library : Option (List ℕ)) × (folders : List (List ℕ)) × AskFor line (run options library folders)
    × ((options.progress ≡ true) ⊎ (options.time ≡ true))

-- ---- reports

-- The words ask to run the guests of folders, and the report is on these. Of input with these bytes before and after, what was read was fed
-- to the one guest that is fed.
pub record IsRunReport (disk : Option Disk) (line : List (List ℕ)) (before after : Option (List ℕ)) (outcome : Outcome) : Type 0 where
  pub options : RunOptions
  pub library : Option (List ℕ)
  pub folders : List (List ℕ)
  pub asked : AskFor line (run options library folders)
  pub ran : IsRunAs disk (settings_of options) library folders before after outcome

-- The words ask to check class files, and the report is on these. Nothing is read of the input.
pub record IsCheckReport (disk : Option Disk) (line : List (List ℕ)) (before after : Option (List ℕ)) (outcome : Outcome) : Type 0 where
  pub json : Bool
  pub library : Option (List ℕ)
  pub names : List (List ℕ)
  pub asked : AskFor line (check json library names)
  pub checked : IsCheckedAs disk json library names outcome
  pub unread : after ≡ before

-- The words ask to explain the verdicts on class files, and the report is on these. Nothing is read of the input.
pub record IsExplainReport (disk : Option Disk) (line : List (List ℕ)) (before after : Option (List ℕ)) (outcome : Outcome) : Type 0 where
  pub options : ExplainOptions
  pub library : Option (List ℕ)
  pub names : List (List ℕ)
  pub asked : AskFor line (explain options library names)
  pub explained : IsExplainedAs disk (explain_settings_of options) library names outcome
  pub unread : after ≡ before

-- the report is what the words ask for
abbrev pub IsReport : (disk : Option Disk) → (line : List (List ℕ)) → (before after : Option (List ℕ)) → Outcome → Type 0
IsReport disk line before after outcome =
    IsRunReport disk line before after outcome
    ⊎ (IsCheckReport disk line before after outcome ⊎ IsExplainReport disk line before after outcome)

-- ---- no report

-- the words ask to run the guests of folders, and this is why there is no report on them
pub record IsRunFailed (disk : Option Disk) (line : List (List ℕ)) (before after : Option (List ℕ)) (failure : Failure) : Type 0 where
  pub options : RunOptions
  pub library : Option (List ℕ)
  pub folders : List (List ℕ)
  pub asked : AskFor line (run options library folders)
  pub failed : IsRunFailure disk (settings_of options) library folders before after failure

-- The words ask to check class files, or to explain the verdicts on them, with the library in a folder where one is named.
abbrev pub AskForVerdicts : (line : List (List ℕ)) → (library : Option (List ℕ)) → (names : List (List ℕ)) → Type 0
AskForVerdicts line library names =
    ((json : Bool) × AskFor line (check json library names))
    ⊎ ((options : ExplainOptions) × AskFor line (explain options library names))

-- the words ask for verdicts on class files, and this is why there is no report on them
pub record IsCheckFailed (disk : Option Disk) (line : List (List ℕ)) (before after : Option (List ℕ)) (failure : Failure) : Type 0 where
  pub library : Option (List ℕ)
  pub names : List (List ℕ)
  pub asked : AskForVerdicts line library names
  pub failed : IsNamedFailure disk library names failure
  pub unread : after ≡ before

-- Why there is no report on what the words ask for; or the program's memory was refused while the words were read.
abbrev pub IsFailure : (disk : Option Disk) → (line : List (List ℕ)) → (before after : Option (List ℕ)) → Failure → Type 0
IsFailure disk line before after failure =
    IsRunFailed disk line before after failure
    ⊎ (IsCheckFailed disk line before after failure ⊎ ((failure ≡ OutOfMemory) × (after ≡ before)))

-- The words are refused, and do not ask for help or the version.
pub record AreWrong (line : List (List ℕ)) (before after : Option (List ℕ)) : Type 0 where
  pub error : Error
  pub refused : AreRefused line error
  pub no_help : kind_of error ≢ kinds.DisplayHelp
  pub no_version : kind_of error ≢ kinds.DisplayVersion
  pub had_memory : kind_of error ≢ kinds.OutOfMemory
  pub unread : after ≡ before

-- ---- ends

-- what is known of the standard streams: what the input still has, and what was written with the output and with the errors
pub record Streams : Type 0 where
  pub input : Option (List ℕ)
  pub output : Option (List ℕ)
  pub errors : Option (List ℕ)

abbrev pub streams : (input output errors : Option (List ℕ)) → Streams
streams input output errors = record { input = input; output = output; errors = errors }

-- a line is told with the errors, where no write to them fails
abbrev pub IsTold : (sure : Bool) → (before after : Streams) → (line : List ℕ) → Type 0
IsTold sure before after line = IsTrue sure → Appends before.errors after.errors line

-- a report is told with the errors where what a guest wrote takes its place on the output, whole or, where a write fails, its front; else
-- nothing is told
pub record IsToldBeside (sure : Bool) (before after : Streams) (outcome : Outcome) : Type 0 where
  pub told : IsTold sure before after (beside_of outcome)
  pub front : WritesFront before.errors after.errors (beside_of outcome)
  pub quiet : outcome.raw ≡ None → after.errors ≡ before.errors

-- what goes to the output was written whole, behind what was on it
pub record IsReported (disk : Option Disk) (sure_errors : Bool) (line : List (List ℕ)) (before after : Streams) (status : ℕ) : Type 0 where
  pub outcome : Outcome
  pub report : IsReport disk line before.input after.input outcome
  pub written : Appends before.output after.output (shown_of outcome)
  pub beside : IsToldBeside sure_errors before after outcome
  pub ends : status ≡ outcome.status

-- what goes to the output was cut, where a write may fail: its front was written, and nothing else, and that is told, behind the report
-- where what a guest wrote takes its place, each whole or its front
pub record IsCut (disk : Option Disk) (sure_output sure_errors : Bool) (line : List (List ℕ)) (before after : Streams) (status : ℕ)
    : Type 0 where
  pub outcome : Outcome
  pub report : IsReport disk line before.input after.input outcome
  pub front : WritesCut before.output after.output (shown_of outcome)
  pub unsure : sure_output ≡ false
  pub told : IsTold sure_errors before after (beside_of outcome ++ output_line)
  pub between : Option (List ℕ)
  pub fronts : WritesFront before.errors between (beside_of outcome) × WritesFront between after.errors output_line
  pub ends : status ≡ 6

-- there is a failure, which is told, whole or, where a write fails, its line's front, and its status
pub record HasFailed (disk : Option Disk) (sure_errors : Bool) (line : List (List ℕ)) (before after : Streams) (status : ℕ) : Type 0 where
  pub failure : Failure
  pub why : IsFailure disk line before.input after.input failure
  pub told : IsTold sure_errors before after (failure_line failure)
  pub front : WritesFront before.errors after.errors (failure_line failure)
  pub ends : status ≡ failure_status failure

-- no report, and nothing on the output: the words are wrong, with status 2, or there is a failure
pub record IsFailed (disk : Option Disk) (sure_errors : Bool) (line : List (List ℕ)) (before after : Streams) (status : ℕ) : Type 0 where
  pub nothing : after.output ≡ before.output
  pub why : (AreWrong line before.input after.input × (status ≡ 2)) ⊎ HasFailed disk sure_errors line before after status

-- help, or the version, and nothing is read or told with the errors
pub record IsHelped (line : List (List ℕ)) (before after : Streams) (status : ℕ) : Type 0 where
  pub asked : AskForHelp line
  pub unread : after.input ≡ before.input
  pub quiet : after.errors ≡ before.errors
  pub ends : status ≡ 0

-- How the program ends on the words of a line, with these files and folders, and streams that were so before and are so after: with the
-- report that the words ask for, and its status, on the output or, where what a guest wrote goes there, with the errors; with 6, and the
-- front of what goes to the output; with nothing on the output, and 2 to 4 by the reason; or with 0, where the words ask for help or for
-- the version. Of the output and of the errors it is said whether no write fails.
abbrev pub HasEnded :
    (disk : Option Disk) → (sure_output sure_errors : Bool) → (line : List (List ℕ)) → (before after : Streams) → (status : ℕ) → Type 0
HasEnded disk sure_output sure_errors line before after status =
    IsReported disk sure_errors line before after status
    ⊎ (IsCut disk sure_output sure_errors line before after status
    ⊎ (IsFailed disk sure_errors line before after status ⊎ IsHelped line before after status))
