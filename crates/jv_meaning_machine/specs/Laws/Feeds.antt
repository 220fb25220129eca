-- Laws of feeds (own): what came at which of a guest's own steps decides what it does, and a feed is not seen before its step.
use Rattle.std.specs.Prelude.{◌≡◌, ◌↔◌, ℕ, suc, zero, ◌+◌, ◌≤◌, ◌<◌, List, [], ◌∷◌, ◌++◌, Ok}
use Rattle.jv_meaning_machine.specs.State.{State}
use Rattle.jv_meaning_machine.specs.Start.{Budget}
use Rattle.jv_meaning_machine.specs.Alone.{GuestFiles, Judged, Feed, came_at, fed, alone}
use Rattle.jv_meaning_machine.specs.Observation.{Observed, Shows, FaultsWithin}

-- ---- what comes in some steps

-- all that comes in so many steps behind an own step
abbrev pub came_behind : ℕ → ℕ → List Feed → List ℕ
came_behind n zero feeds = []
came_behind n (suc more) feeds = came_behind n more feeds ++ came_at (suc (n + more)) feeds

-- nothing does
abbrev pub NothingComes : ℕ → ℕ → List Feed → Type 0
NothingComes n more feeds = (k : ℕ) → n < k → k ≤ n + more → came_at k feeds ≡ []

-- ---- a state

-- The same bytes at the same own steps, in whatever feeds, lead to the same state; what comes later makes no difference.
abbrev pub SameBytesDoTheSame : Type 0
SameBytesDoTheSame =
    (judged : Judged) (g : GuestFiles) (b : Budget) (one other : List Feed) (n : ℕ)
    → ((k : ℕ) → k ≤ n → came_at k one ≡ came_at k other) → alone judged g b one n ≡ alone judged g b other n

-- A feed that comes now joins behind the input that waits, and changes nothing else.
abbrev pub FeedJoins : Type 0
FeedJoins =
    (judged : Judged) (g : GuestFiles) (b : Budget) (feeds : List Feed) (bytes : List ℕ) (n : ℕ) (s : State)
    → alone judged g b feeds n ≡ Ok s
    → alone judged g b (feeds ++ record { own_step = n; bytes = bytes } ∷ []) n ≡ Ok (fed bytes s)

-- ---- what is shown

-- What is shown after some steps is decided by what came before the last of them was taken.
abbrev pub SameBytesShowTheSame : Type 0
SameBytesShowTheSame =
    (g : GuestFiles) (b : Budget) (one other : List Feed) (n : ℕ) (o : Observed)
    → ((k : ℕ) → k < n → came_at k one ≡ came_at k other) → Shows g b one n o → Shows g b other n o

-- So are faults.
abbrev pub SameBytesFaultTheSame : Type 0
SameBytesFaultTheSame =
    (g : GuestFiles) (b : Budget) (one other : List Feed) (n : ℕ)
    → ((k : ℕ) → k < n → came_at k one ≡ came_at k other) → FaultsWithin g b one n → FaultsWithin g b other n

-- A feed changes nothing of what is shown at its own step, or earlier.
abbrev pub FeedShowsLater : Type 0
FeedShowsLater =
    (g : GuestFiles) (b : Budget) (feeds : List Feed) (feed : Feed) (n : ℕ) (o : Observed) → n ≤ feed.own_step
    → Shows g b feeds n o ↔ Shows g b (feeds ++ feed ∷ []) n o
