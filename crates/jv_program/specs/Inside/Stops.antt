-- On the way to the program's end.
use Rattle.std.specs.Prelude.{◌≡◌, ◌≢◌, ℕ, Bool, false, List, Option, Result, Ok, Err}
use Rattle.std.specs.Io.KnownBytes.{Appends}
use Rattle.clap.specs.Values.{kind_of}
use Rattle.clap.specs.declared.error.kind.ErrorKind.TheVariants as kinds
use Rattle.jv_program_base.specs.Disk.{Disk}
use Rattle.jv_program_base.specs.declared.outcome.Outcome.{Outcome}
use Rattle.jv_program_words.specs.Settings.{AreRefused}
use Rattle.jv_program.specs.declared.stop.Stop.{Stop}
use Rattle.jv_program.specs.declared.stop.Stop.TheVariants.{CommandLine, Run, Output}
use Rattle.jv_program.specs.Command.{IsFailure, IsReport, IsToldBeside, Streams}
use Rattle.jv_program.specs.Written.{WritesCut, shown_of}

-- What ends the program before anything is written: the words are refused, or there is no report.
abbrev pub IsEarly : (disk : Option Disk) → (line : List (List ℕ)) → (before after : Option (List ℕ)) → Stop → Type 0
IsEarly disk line before after (CommandLine error) = AreRefused line error × (kind_of error ≢ kinds.OutOfMemory) × (after ≡ before)
IsEarly disk line before after (Run failure) = IsFailure disk line before after failure
IsEarly disk line before after Output = ⊥

-- What goes to the output was written, or there is something in its place; only where a write may fail is it cut.
abbrev pub IsCarriedOut :
    (disk : Option Disk) → (sure_output sure_errors : Bool) → (line : List (List ℕ)) → (before after : Streams) → Result Outcome Stop
    → Type 0
IsCarriedOut disk sure_output sure_errors line before after (Ok outcome) =
    IsReport disk line before.input after.input outcome × Appends before.output after.output (shown_of outcome)
    × IsToldBeside sure_errors before after outcome
IsCarriedOut disk sure_output sure_errors line before after (Err Output) =
    (outcome : Outcome) × IsReport disk line before.input after.input outcome × WritesCut before.output after.output (shown_of outcome)
    × (sure_output ≡ false) × IsToldBeside sure_errors before after outcome
IsCarriedOut disk sure_output sure_errors line before after (Err stop) =
    IsEarly disk line before.input after.input stop × (after.output ≡ before.output) × (after.errors ≡ before.errors)
