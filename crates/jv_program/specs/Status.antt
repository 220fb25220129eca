-- The status of the program.
use Rattle.std.specs.Prelude.{◌≡◌, ◌≢◌, ◌⊎◌, ℕ, List, [], ◌∷◌, ◌++◌, Result, Ok, Err, codes}
use Rattle.clap.specs.Values.{kind_of}
use Rattle.clap.specs.declared.error.kind.ErrorKind.{ErrorKind}
use Rattle.clap.specs.declared.error.kind.ErrorKind.TheVariants as kinds
use Rattle.jv_program_base.specs.Failure.{failure_status}
use Rattle.jv_program_base.specs.declared.outcome.Outcome.{Outcome}
use Rattle.jv_program.specs.declared.stop.Stop.{Stop}
use Rattle.jv_program.specs.declared.stop.Stop.TheVariants.{CommandLine, Run, Output}

-- words that ask for help or the version have the status 0, and those of a wrong command line 2
pub record HasWordStatus (kind : ErrorKind) (status : ℕ) : Type 0 where
  pub wrong : kind ≢ kinds.DisplayHelp → kind ≢ kinds.DisplayVersion → status ≡ 2
  pub asked : (kind ≡ kinds.DisplayHelp) ⊎ (kind ≡ kinds.DisplayVersion) → status ≡ 0

-- the line on standard error where standard output failed
abbrev pub output_line : List ℕ
output_line = codes "jvhost: output" ++ 10 ∷ []

-- words that ask for help or the version
abbrev pub IsAsked : Stop → Type 0
IsAsked (CommandLine error) = (kind_of error ≡ kinds.DisplayHelp) ⊎ (kind_of error ≡ kinds.DisplayVersion)
IsAsked (Run failure) = ⊥
IsAsked Output = ⊥

-- that of a wrong command line or of a failure, and 6 where what goes to the output was not written whole
abbrev pub HasStatus : Stop → ℕ → Type 0
HasStatus (CommandLine error) status = HasWordStatus (kind_of error) status
HasStatus (Run failure) status = status ≡ failure_status failure
HasStatus Output status = status ≡ 6

-- the status of the program: that of its report, where there is one
abbrev pub IsStatusOf : Result Outcome Stop → ℕ → Type 0
IsStatusOf (Ok outcome) status = status ≡ outcome.status
IsStatusOf (Err stop) status = HasStatus stop status
