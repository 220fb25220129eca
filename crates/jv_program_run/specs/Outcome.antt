-- What the program says of the guests of folders (own).
use Rattle.std.specs.Prelude.{◌≡◌, ◌≢◌, ⊤, Bool, ◌||◌, IsTrue, Option, Some, None, ℕ, zero, suc, ◌+◌, ◌-◌, ◌*◌, ◌<◌, ◌≤◌, List, [], length, slice_get, string_bytes}
use Rattle.std.specs.Io.KnownBytes.{Consumes, Keeps}
use Rattle.jv_meaning_machine.specs.State.End.{Running}
use Rattle.jv_meaning_machine.specs.Start.{Budget}
use Rattle.jv_meaning_machine.specs.Alone.{GuestFiles, Feed}
use Rattle.jv_meaning_machine.specs.Observation.{Observed, Shows}
use Rattle.jv_host.specs.Started.{budget_of}
use Rattle.jv_limits.specs.declared.fault.AdmitFault.{AdmitFault}
use Rattle.jv_limits.specs.declared.fault.AdmitFault.TheVariants as refusals
use Rattle.jv_host.specs.Limits.{IsRefused, LibraryStands, first_refusal}
use Rattle.jv_program_base.specs.declared.failure.Failure.{Failure}
use Rattle.jv_program_base.specs.declared.failure.Failure.TheVariants.{StandardInput, Refused, FeedTooLong, HostMemory, OutOfMemory}
use Rattle.jv_program_base.specs.declared.outcome.Outcome.{Outcome}
use Rattle.jv_program_base.specs.Outcome.{raw_bytes}
use Rattle.jv_program_run.specs.declared.settings.RunSettings.{RunSettings}
use Rattle.jv_program_run.specs.Feeding.{AreFeedsFrom, AreRead, CameInTime, IsRunningAlone, bytes_of_feeds, feeds_to}
use Rattle.jv_program_run.specs.Guests.{NamedGuest}
use Rattle.jv_program_run.specs.Instruction.{IsInstructionOfThrow}
use Rattle.jv_program_run.specs.Json.{run_report}
use Rattle.jv_program_run.specs.Report.{Told, raw_output, run_status}

-- each of the first guests is within the limits of a host that holds those before it, and its library stands beside its files
abbrev pub AreAllowed : Budget → List NamedGuest → ℕ → Type 0
AreAllowed b guests count =
    (place : ℕ) (named : NamedGuest) → place < count → slice_get guests place ≡ Some named
    → (first_refusal named.guest b place ≡ None) × LibraryStands named.guest

-- the first of the guests is within the limits of a host
abbrev pub IsFirstWithin : Budget → List NamedGuest → Type 0
IsFirstWithin b guests = (named : NamedGuest) → slice_get guests 0 ≡ Some named → first_refusal named.guest b 0 ≡ None

-- What a guest that is fed so shows alone after some number of its own steps, each of which it took while it ran: as many as so many turns
-- of at most n steps could have, or as there were to its end.
pub record IsRunAlone (g : GuestFiles) (b : Budget) (feeds : List Feed) (n turns : ℕ) (o : Observed) : Type 0 where
  pub steps : ℕ
  pub alone : Shows g b feeds steps o
  pub running : (k : ℕ) → k < steps → IsRunningAlone g b feeds k
  pub few : steps ≤ n * turns
  pub over : steps < n * turns → o.end ≢ Running
  pub fed : CameInTime g b n feeds

-- There were no more rounds than it took: in the last of so many, of turns of at most n steps, some guest took a step.
abbrev pub WereNeeded : (n rounds : ℕ) → List Told → Type 0
WereNeeded n zero told = ⊤
WereNeeded n (suc before) told = (place : ℕ) × (t : Told) × (slice_get told place ≡ Some t) × (n * before < t.seen.steps)

-- what was fed keeps, with the input that the guest brought, the limit of 16,777,216 bytes
abbrev pub FitsInput : GuestFiles → List Feed → Type 0
FitsInput g feeds = feeds ≢ [] → length g.input + length (bytes_of_feeds feeds) ≤ 16777216

-- the report has places
abbrev pub tells_places : RunSettings → Bool
tells_places s = s.json || s.places

-- What is told of the guest at a place: its number, its folder's word, its files' names, and what that guest shows alone; and the
-- instruction of its last throw, where places are told.
pub record IsToldOf (s : RunSettings) (feeds : List Feed) (rounds place : ℕ) (named : NamedGuest) (told : Told) : Type 0 where
  pub number : told.number ≡ place + 1
  pub word : told.word ≡ named.word
  pub names : told.names ≡ named.names
  pub fits : FitsInput named.guest (feeds_to s.stdin feeds place)
  pub seen : IsRunAlone named.guest (budget_of s.budget) (feeds_to s.stdin feeds place) s.quantum rounds told.seen
  pub instruction : IsTrue (tells_places s) → IsInstructionOfThrow named.guest.files told.seen told.in_file.instruction

-- Guests that are allowed had rounds of turns: all of them, or as many as there were until none ran, and no more. Of input with these
-- bytes before and after, what was read was fed to the one guest that is fed. The report tells so of each guest, in JSON or not; in its
-- place goes the output of the guest that is wanted as it is, where one is; and the status goes with what is told.
pub record IsRunOutcome (s : RunSettings) (guests : List NamedGuest) (before after : Option (List ℕ)) (outcome : Outcome) : Type 0 where
  pub allowed : AreAllowed (budget_of s.budget) guests (length guests)
  pub rounds : ℕ
  pub most : rounds ≤ s.rounds
  pub feeds : List Feed
  pub input : AreFeedsFrom s.stdin rounds feeds before after
  pub told : List Told
  pub count : length told ≡ length guests
  pub each :
      (place : ℕ) (named : NamedGuest) (t : Told) → slice_get guests place ≡ Some named → slice_get told place ≡ Some t
      → IsToldOf s feeds rounds place named t
  pub full : rounds < s.rounds → run_status told ≡ 0
  pub needed : 1 ≤ s.quantum → WereNeeded s.quantum rounds told
  pub report : string_bytes outcome.report ≡ run_report s.json s.places told
  pub raw : raw_bytes outcome ≡ raw_output s.raw told
  pub status : outcome.status ≡ run_status told

-- ---- guests of which there is no report

-- a guest is refused, for the first reason that applies, the last of which is that its library doesn't stand, and none before it is
pub record IsRefusedAmong (b : Budget) (guests : List NamedGuest) (fault : AdmitFault) : Type 0 where
  pub place : ℕ
  pub named : NamedGuest
  pub found : slice_get guests place ≡ Some named
  pub before : AreAllowed b guests place
  pub first : IsRefused named.guest b place fault
  pub why : fault ≢ refusals.HostMemory

-- after so many turns, fed so, some guest still takes steps
abbrev pub IsOneRunning : RunSettings → List NamedGuest → List Feed → (rounds : ℕ) → Type 0
IsOneRunning s guests feeds rounds =
    (place : ℕ) × (named : NamedGuest) × (slice_get guests place ≡ Some named) × (o : Observed)
    × IsRunAlone named.guest (budget_of s.budget) (feeds_to s.stdin feeds place) s.quantum rounds o × (o.end ≡ Running)

-- A piece is due for the guest that is fed: so many rounds are over, before each of which one came, and some guest still takes steps.
pub record IsPieceDue (s : RunSettings) (guests : List NamedGuest) (feeds : List Feed) (before now : Option (List ℕ)) : Type 0 where
  pub few : length feeds < s.rounds
  pub read : AreRead (length feeds) feeds before now
  pub running : IsOneRunning s guests feeds (length feeds)

-- it could not be read
pub record IsUnreadPiece (s : RunSettings) (guests : List NamedGuest) (before after : Option (List ℕ)) : Type 0 where
  pub is_fed : s.stdin ≢ None
  pub feeds : List Feed
  pub now : Option (List ℕ)
  pub due : IsPieceDue s guests feeds before now
  pub kept : Keeps now after

-- with it the guest would have more than the 16,777,216 bytes of input that it may have
pub record IsOverfed (s : RunSettings) (guests : List NamedGuest) (before after : Option (List ℕ)) : Type 0 where
  pub number : ℕ
  pub is_fed : s.stdin ≡ Some number
  pub named : NamedGuest
  pub found : slice_get guests (number - 1) ≡ Some named
  pub feeds : List Feed
  pub fits : FitsInput named.guest feeds
  pub now : Option (List ℕ)
  pub due : IsPieceDue s guests feeds before now
  pub last : List ℕ
  pub piece : length last ≤ 4096
  pub came : Consumes now after last
  pub more : 16777216 < length named.guest.input + length (bytes_of_feeds feeds) + length last

-- Why there is no report on guests: the host refused one, before anything was read; or, with all of them admitted, a piece could not be
-- read for one, or was too much; or the host had no memory, where the first of them is within its limits; or the program had none. Where
-- none is fed nothing was read.
abbrev pub IsGuestsFailure : RunSettings → List NamedGuest → (before after : Option (List ℕ)) → Failure → Type 0
IsGuestsFailure s guests before after (Refused fault) = IsRefusedAmong (budget_of s.budget) guests fault × (after ≡ before)
IsGuestsFailure s guests before after StandardInput =
    AreAllowed (budget_of s.budget) guests (length guests) × IsUnreadPiece s guests before after
IsGuestsFailure s guests before after FeedTooLong =
    AreAllowed (budget_of s.budget) guests (length guests) × IsOverfed s guests before after
IsGuestsFailure s guests before after HostMemory =
    IsFirstWithin (budget_of s.budget) guests × (s.stdin ≡ None → after ≡ before)
IsGuestsFailure s guests before after OutOfMemory = s.stdin ≡ None → after ≡ before
IsGuestsFailure s guests before after failure = ⊥
