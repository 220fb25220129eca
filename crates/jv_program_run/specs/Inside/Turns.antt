-- Turns of guests, and what is fed to one of them in between.
use Rattle.std.specs.Prelude.{◌≡◌, ◌≢◌, ℕ, zero, suc, ◌*◌, ◌<◌, ◌≤◌, ⊤, Bool, true, false, IsTrue, List, [], All, Option, Some, None, length, slice_get}
use Rattle.std.specs.Io.KnownBytes.{Consumes, IsAtEnd, Keeps}
use Rattle.jv_meaning_machine.specs.Alone.{Feed}
use Rattle.jv_limits.specs.declared.fault.FeedFault.TheVariants as feeds
use Rattle.jv_host.specs.Host.{Admission, IsRunningAfter, IsOverAfter, after_feed, input_bytes}
use Rattle.jv_host.specs.Calls.{NoneRuns, SomeRuns}
use Rattle.jv_host.specs.Limits.{feed_refusal}
use Rattle.jv_program_base.specs.declared.failure.Failure.{Failure}
use Rattle.jv_program_base.specs.declared.failure.Failure.TheVariants.{StandardInput, FeedTooLong, HostMemory}
use Rattle.jv_program_run.specs.Feeding.{CameInTime, IsPiece, bytes_of_feeds}

-- ---- turns

-- each guest is at its start
abbrev pub AreAtStart : List Admission → Type 0
AreAtStart host = (place : ℕ) (a : Admission) → slice_get host place ≡ Some a → (a.steps ≡ 0) × (a.feeds ≡ [])

-- A guest had, since its start, so many turns of at most n steps, or as many as there were to its end; and all that came to it came
-- before a turn, the first feed before the first.
pub record HasPlayed (n turns : ℕ) (a : Admission) : Type 0 where
  pub few : a.steps ≤ n * turns
  pub running : (k : ℕ) → k < a.steps → IsRunningAfter a k
  pub over : a.steps < n * turns → IsOverAfter a a.steps
  pub early : (place : ℕ) (feed : Feed) → slice_get a.feeds place ≡ Some feed → feed.own_step ≤ a.steps
  pub fed : CameInTime a.guest a.budget n a.feeds

-- the same guest had so many turns
pub record IsSamePlayed (n turns : ℕ) (before after : Admission) : Type 0 where
  pub guest : after.guest ≡ before.guest
  pub budget : after.budget ≡ before.budget
  pub played : HasPlayed n turns after

-- so many rounds of turns, since the guests' start
pub record PlayedSince (n rounds : ℕ) (old new : List Admission) : Type 0 where
  pub count : length new ≡ length old
  pub each :
      (place : ℕ) (a : Admission) → slice_get old place ≡ Some a
      → (b : Admission) × (slice_get new place ≡ Some b) × IsSamePlayed n rounds a b

-- in the last of so many rounds some guest took a step
abbrev pub SomeWent : (n rounds : ℕ) → List Admission → Type 0
SomeWent n zero host = ⊤
SomeWent n (suc before) host = (place : ℕ) × (a : Admission) × (slice_get host place ≡ Some a) × (n * before < a.steps)

-- ---- feeds

-- none but the guest at a place was fed
abbrev pub OnlyFed : (id : ℕ) → List Admission → Type 0
OnlyFed id host = (place : ℕ) (a : Admission) → slice_get host place ≡ Some a → place ≢ id → a.feeds ≡ []

-- no guest was
abbrev pub NoneFed : List Admission → Type 0
NoneFed host = (place : ℕ) (a : Admission) → slice_get host place ≡ Some a → a.feeds ≡ []

-- At most 4,096 bytes were read, and came to the guest at a place; where there are no more, none did.
pub record IsFedNext (id : ℕ) (old new : List Admission) (before after : Option (List ℕ)) (more : Bool) : Type 0 where
  pub bytes : List ℕ
  pub most : length bytes ≤ 4096
  pub read : Consumes before after bytes
  pub fed : new ≡ after_feed old id bytes
  pub allowed : feed_refusal old id bytes ≡ None
  pub some : IsTrue more → 1 ≤ length bytes
  pub end : more ≡ false → (bytes ≡ []) × IsAtEnd after

-- What was read is what came to the guest at a place, and a piece came before each of so many rounds as long as there are more.
pub record ReadSoFar (id rounds : ℕ) (host : List Admission) (before after : Option (List ℕ)) (more : Bool) : Type 0 where
  pub a : Admission
  pub found : slice_get host id ≡ Some a
  pub few : length a.feeds ≤ rounds
  pub pieces : All IsPiece a.feeds
  pub bytes : Consumes before after (bytes_of_feeds a.feeds)
  pub each : IsTrue more → length a.feeds ≡ rounds
  pub end : more ≡ false → IsAtEnd after
  pub unread : rounds ≡ 0 → after ≡ before
  pub fits : a.feeds ≢ [] → input_bytes a ≤ 16777216

-- Guests had rounds of turns, at most so many, and fewer only where none runs any more; one was fed what was read.
pub record IsFedRun (n most id : ℕ) (old new : List Admission) (before after : Option (List ℕ)) (rounds : ℕ) : Type 0 where
  pub few : rounds ≤ most
  pub played : PlayedSince n rounds old new
  pub only : OnlyFed id new
  pub more : Bool
  pub read : ReadSoFar id rounds new before after more
  pub full : rounds < most → NoneRuns new
  pub needed : 1 ≤ n → SomeWent n rounds new

-- ---- what can't be fed

-- why what was read did not come to a guest
abbrev pub IsNextFailure : (id : ℕ) → List Admission → (before after : Option (List ℕ)) → Failure → Type 0
IsNextFailure id host before after StandardInput = Keeps before after
IsNextFailure id host before after FeedTooLong =
    (bytes : List ℕ) × (length bytes ≤ 4096) × Consumes before after bytes × (feed_refusal host id bytes ≡ Some feeds.InputTooLong)
IsNextFailure id host before after HostMemory = ⊤
IsNextFailure id host before after failure = ⊥

-- A piece is due for the guest at a place: a piece came before each of the rounds that guests had, and some still takes steps.
pub record IsNextDue (n most id : ℕ) (old host : List Admission) (before now : Option (List ℕ)) : Type 0 where
  pub rounds : ℕ
  pub few : rounds < most
  pub played : PlayedSince n rounds old host
  pub only : OnlyFed id host
  pub read : ReadSoFar id rounds host before now true
  pub runs : SomeRuns host

-- with it the guest would have more than it may have
pub record IsFedTooMuch (n most id : ℕ) (old : List Admission) (before after : Option (List ℕ)) : Type 0 where
  pub host : List Admission
  pub now : Option (List ℕ)
  pub due : IsNextDue n most id old host before now
  pub last : List ℕ
  pub piece : length last ≤ 4096
  pub came : Consumes now after last
  pub refused : feed_refusal host id last ≡ Some feeds.InputTooLong

-- why the rounds ended early: the input can't be read, the guest has more of it than it may have, or the host had no memory for it
abbrev pub IsFeedFailure : (n most id : ℕ) → List Admission → (before after : Option (List ℕ)) → Failure → Type 0
IsFeedFailure n most id old before after StandardInput =
    (host : List Admission) × (now : Option (List ℕ)) × IsNextDue n most id old host before now × Keeps now after
IsFeedFailure n most id old before after FeedTooLong = IsFedTooMuch n most id old before after
IsFeedFailure n most id old before after HostMemory = ⊤
IsFeedFailure n most id old before after failure = ⊥
