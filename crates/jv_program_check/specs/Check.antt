-- What the program says of the files of a guest (JVMS 4.10, 5.3.5).
use Rattle.std.specs.Prelude.{◌≡◌, ℕ, ⊤, Bool, List, None, Some, string_bytes}
use Rattle.jv_meaning_typing.specs.declared.verdict.Verdict.{Verdict}
use Rattle.jv_meaning_world.specs.Numbers.{HoldsAtNumber}
use Rattle.jv_limits.specs.FileLimits.{first_file_refusal}
use Rattle.jv_verify.specs.Files.{AreFilesOf, HostStands, IsBroken, Verified}
use Rattle.jv_program_base.specs.declared.failure.Failure.{Failure}
use Rattle.jv_program_base.specs.declared.failure.Failure.TheVariants.{LibraryRefused, Refused, HostMemory, OutOfMemory}
use Rattle.jv_program_base.specs.declared.outcome.Outcome.{Outcome}
use Rattle.jv_program_base.specs.Verdict.{verdict_text}
use Rattle.jv_program_check.specs.Text.{check_report, check_status}

-- The files are within the limits, and the library, of which these are the files, stands beside them; the text has a line for each file of
-- the guest, in JSON or not, nothing takes its place, and the status goes with the verdicts.
pub record IsChecked (json : Bool) (library names files : List (List ℕ)) (outcome : Outcome) : Type 0 where
  pub allowed : first_file_refusal files ≡ None
  pub found : Verified
  pub right : AreFilesOf library files found
  pub stands : HostStands found
  pub report : string_bytes outcome.report ≡ check_report json names found.verdicts
  pub alone : outcome.raw ≡ None
  pub status : outcome.status ≡ check_status found.verdicts

-- ---- files that are not checked

-- Some class of the library, or one that it lends to, is not accepted beside what was found of a guest's files: the first, which is named,
-- with its verdict as text.
pub record IsBrokenIn (found : Verified) (name reason : List ℕ) : Type 0 where
  pub number : ℕ
  pub verdict : Verdict
  pub broken : IsBroken found number verdict
  pub named : HoldsAtNumber found.world number (λ l. name ≡ l.class.name)
  pub told : reason ≡ verdict_text verdict

-- it is not accepted, or memory was refused
abbrev pub IsNotStanding : Verified → Failure → Type 0
IsNotStanding found (LibraryRefused name reason) = IsBrokenIn found name.items (string_bytes reason)
IsNotStanding found HostMemory = ⊤
IsNotStanding found OutOfMemory = ⊤
IsNotStanding found failure = ⊥

-- it is not accepted beside these files
abbrev pub IsBrokenBeside : (library files : List (List ℕ)) → (name reason : List ℕ) → Type 0
IsBrokenBeside library files name reason = (found : Verified) × AreFilesOf library files found × IsBrokenIn found name reason

-- why files within the limits were not checked: the library doesn't stand beside them; or the host's memory was refused, or the program's
abbrev pub IsHostFailure : (library files : List (List ℕ)) → Failure → Type 0
IsHostFailure library files (LibraryRefused name reason) = IsBrokenBeside library files name.items (string_bytes reason)
IsHostFailure library files HostMemory = ⊤
IsHostFailure library files OutOfMemory = ⊤
IsHostFailure library files failure = ⊥

-- why files were not checked: they are refused, for the first reason that applies; or they are within the limits
abbrev pub IsCheckFailure : (library files : List (List ℕ)) → Failure → Type 0
IsCheckFailure library files (Refused fault) = first_file_refusal files ≡ Some fault
IsCheckFailure library files failure = (first_file_refusal files ≡ None) × IsHostFailure library files failure
