-- What a host comes to that runs the guests of folders.
use Rattle.std.specs.Prelude.{◌≡◌, ◌≢◌, ℕ, ◌+◌, ◌<◌, ◌≤◌, Bool, IsTrue, List, [], Option, Some, None, map, option_map, length, slice_get, string_bytes}
use Rattle.jv_meaning_machine.specs.Start.{Budget}
use Rattle.jv_meaning_machine.specs.Alone.{Feed}
use Rattle.jv_host.specs.Started.{budget_of}
use Rattle.jv_host.specs.Showing.{observed_of}
use Rattle.jv_host.specs.Host.{Admission, input_bytes}
use Rattle.jv_host.specs.Calls.{IsShown, NoneRuns, admission}
use Rattle.jv_program_base.specs.declared.failure.Failure.{Failure}
use Rattle.jv_program_base.specs.declared.failure.Failure.TheVariants.{Refused, StandardInput, FeedTooLong, HostMemory}
use Rattle.jv_program_run.specs.declared.report.PlaceInFile.{PlaceInFile}
use Rattle.jv_program_run.specs.declared.report.Report.{Report}
use Rattle.jv_program_run.specs.declared.settings.RunSettings.{RunSettings}
use Rattle.jv_limits.specs.Bytes.{bytes_of}
use Rattle.jv_program_run.specs.Feeding.{AreFeedsFrom, feeds_to}
use Rattle.jv_program_run.specs.Guests.{NamedGuest}
use Rattle.jv_program_run.specs.Outcome.{IsFirstWithin, IsOverfed, IsRefusedAmong, IsUnreadPiece}
use Rattle.jv_program_run.specs.Instruction.{IsInstructionOfThrow}
use Rattle.jv_program_run.specs.Report.{PlaceInFile as SaidInFile, Told}
use Rattle.jv_program_run.specs.Inside.Turns.{PlayedSince, SomeWent}

-- a guest at its start
abbrev pub at_start : Budget → NamedGuest → Admission
at_start b named = admission named.guest b

-- Guests were admitted, and had their turns, as many as the settings say or as there were until none ran; what was read came to the guest
-- that is fed.
pub record HasRun (s : RunSettings) (guests : List NamedGuest) (before after : Option (List ℕ)) (host : List Admission) : Type 0 where
  pub start : List Admission
  pub started : start ≡ map (at_start (budget_of s.budget)) guests
  pub rounds : ℕ
  pub most : rounds ≤ s.rounds
  pub played : PlayedSince s.quantum rounds start host
  pub feeds : List Feed
  pub input : AreFeedsFrom s.stdin rounds feeds before after
  pub fed : (place : ℕ) (a : Admission) → slice_get host place ≡ Some a → a.feeds ≡ feeds_to s.stdin feeds place
  pub fits : (place : ℕ) (a : Admission) → slice_get host place ≡ Some a → a.feeds ≢ [] → input_bytes a ≤ 16777216
  pub full : rounds < s.rounds → NoneRuns host
  pub needed : 1 ≤ s.quantum → SomeWent s.quantum rounds host

-- why a guest is not admitted: the host refuses it; or it had no memory, where the first guest is within its limits
abbrev pub IsAdmitFailure : Budget → List NamedGuest → Failure → Type 0
IsAdmitFailure b guests (Refused fault) = IsRefusedAmong b guests fault
IsAdmitFailure b guests HostMemory = IsFirstWithin b guests
IsAdmitFailure b guests failure = ⊥

-- why the turns of admitted guests ended early
abbrev pub IsFeedingFailure : RunSettings → List NamedGuest → (before after : Option (List ℕ)) → Failure → Type 0
IsFeedingFailure s guests before after StandardInput = IsUnreadPiece s guests before after
IsFeedingFailure s guests before after FeedTooLong = IsOverfed s guests before after
IsFeedingFailure s guests before after HostMemory = s.stdin ≢ None
IsFeedingFailure s guests before after failure = ⊥

-- ---- reports

abbrev pub in_file_of : PlaceInFile → SaidInFile
in_file_of found = record { line = found.line; instruction = option_map string_bytes found.instruction }

abbrev pub told_of : Report → Told
told_of report = record {
  number = report.number;
  word = report.word.now;
  names = map bytes_of report.names.now;
  seen = observed_of report.seen;
  in_file = in_file_of report.in_file;
}

-- the report is on what this guest shows, which is the one at a place, with the instruction of its last throw or without
pub record IsReportOf (places : Bool) (named : NamedGuest) (host : List Admission) (place : ℕ) (told : Told) : Type 0 where
  pub number : told.number ≡ place + 1
  pub word : told.word ≡ named.word
  pub names : told.names ≡ named.names
  pub shown : IsShown host place told.seen
  pub instruction : IsTrue places → IsInstructionOfThrow named.guest.files told.seen told.in_file.instruction

-- on what the guest at a place shows
pub record IsReportOn (places : Bool) (guests : List NamedGuest) (host : List Admission) (place : ℕ) (told : Told) : Type 0 where
  pub named : NamedGuest
  pub found : slice_get guests place ≡ Some named
  pub is : IsReportOf places named host place told

-- there are so many reports, on the first guests
pub record AreReportsOn (places : Bool) (guests : List NamedGuest) (host : List Admission) (count : ℕ) (told : List Told) : Type 0 where
  pub many : length told ≡ count
  pub each : (place : ℕ) (t : Told) → slice_get told place ≡ Some t → IsReportOn places guests host place t
