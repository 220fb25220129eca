-- What comes to a guest from the standard input while guests run (own).
use Rattle.std.specs.Prelude.{◌≡◌, ◌≢◌, ℕ, ◌+◌, ◌*◌, ◌<◌, ◌≤◌, Bool, false, nat_lt, ◌==◌, ◌||◌, if◌then◌else◌, List, [], ◌∷◌, ◌++◌, All, length, Option, Some, None, slice_get}
use Rattle.std.specs.Io.KnownBytes.{Consumes, IsAtEnd}
use Rattle.jv_meaning_machine.specs.State.End.{Running}
use Rattle.jv_meaning_machine.specs.Start.{Budget}
use Rattle.jv_meaning_machine.specs.Alone.{GuestFiles, Feed}
use Rattle.jv_meaning_machine.specs.Observation.{Observed, Shows}

-- ---- whom it comes to

-- a number is given, and none of so many guests, numbered from 1, has it
abbrev pub is_no_guest : Option ℕ → (guests : ℕ) → Bool
is_no_guest None guests = false
is_no_guest (Some number) guests = number == 0 || nat_lt guests number

-- All feeds are those of the guest with this number, and no other guest has any.
abbrev pub feeds_to : Option ℕ → List Feed → (place : ℕ) → List Feed
feeds_to None feeds place = []
feeds_to (Some number) feeds place = if number == place + 1 then feeds else []

-- ---- what was read

-- all bytes of feeds, in order of coming
abbrev pub bytes_of_feeds : List Feed → List ℕ
bytes_of_feeds [] = []
bytes_of_feeds (feed ∷ more) = feed.bytes ++ bytes_of_feeds more

-- 1 to 4,096 bytes
abbrev pub IsPiece : Feed → Type 0
IsPiece feed = (1 ≤ length feed.bytes) × (length feed.bytes ≤ 4096)

-- Before each of the first rounds one piece was read, and before the others none was left; the pieces are all that was read, in order, and
-- none is lost. Without a round nothing was read.
pub record AreRead (rounds : ℕ) (feeds : List Feed) (before after : Option (List ℕ)) : Type 0 where
  pub few : length feeds ≤ rounds
  pub pieces : All IsPiece feeds
  pub bytes : Consumes before after (bytes_of_feeds feeds)
  pub end : length feeds < rounds → IsAtEnd after
  pub unread : rounds ≡ 0 → after ≡ before

-- What was read for the guest that is fed, of input with these bytes before and after; where none is fed, nothing was.
abbrev pub AreFeedsFrom : Option ℕ → (rounds : ℕ) → List Feed → (before after : Option (List ℕ)) → Type 0
AreFeedsFrom None rounds feeds before after = (feeds ≡ []) × (after ≡ before)
AreFeedsFrom (Some number) rounds feeds before after = AreRead rounds feeds before after

-- ---- when it came

-- after n of its own steps a guest that is fed so shows, alone, that it takes steps, or that it has ended
abbrev pub IsRunningAlone : GuestFiles → Budget → List Feed → ℕ → Type 0
IsRunningAlone g b feeds n = (o : Observed) × Shows g b feeds n o × (o.end ≡ Running)

abbrev pub IsOverAlone : GuestFiles → Budget → List Feed → ℕ → Type 0
IsOverAlone g b feeds n = (o : Observed) × Shows g b feeds n o × (o.end ≢ Running)

-- The first feed came before the first round, and so on: after as many of the guest's steps as its turns so far could have, or where it
-- had ended before.
abbrev pub CameInTime : GuestFiles → Budget → (quantum : ℕ) → List Feed → Type 0
CameInTime g b quantum feeds =
    (round : ℕ) (feed : Feed) → slice_get feeds round ≡ Some feed
    → (feed.own_step ≤ quantum * round) × (feed.own_step < quantum * round → IsOverAlone g b feeds feed.own_step)
