-- Frames by words as they are kept: each as what it shares with the one before, and what is new.
use Rattle.std.specs.Prelude.{ℕ, ◌+◌, ◌-◌, ◌≤◌, ◌<◌, Bool, nat_lt, List, [], ◌∷◌, ◌++◌, drop, get_or, length, reverse, take}
use Rattle.jv_stackmap.specs.declared.entry.FrameEntry.{FrameEntry}
use Rattle.jv_verify_maps.specs.declared.frames.WordsOf.{WordsOf}

-- a stretch of so many words from one on
abbrev pub stretch : List FrameEntry → ℕ → ℕ → List FrameEntry
stretch words start count = take count (drop start words)

-- the words of a frame: some of those of the frame before, and its own, which are kept with the last first
abbrev pub words_behind : List FrameEntry → List FrameEntry → WordsOf → List FrameEntry
words_behind words before f = take f.shared before ++ reverse (stretch words f.start (f.count - f.shared))

-- frames, one behind another
abbrev pub words_from : List FrameEntry → List FrameEntry → List WordsOf → List (List FrameEntry)
words_from words before [] = []
words_from words before (f ∷ more) = words_behind words before f ∷ words_from words (words_behind words before f) more

-- what is kept of a frame fits what is kept of the words, and the words of the frame before
pub record Fits (words before : List FrameEntry) (f : WordsOf) : Type 0 where
  pub within : f.start + (f.count - f.shared) ≤ length words
  pub below : f.shared ≤ f.count
  pub shared : f.shared ≤ length before

abbrev pub FitFrom : List FrameEntry → List FrameEntry → List WordsOf → Type 0
FitFrom words before [] = Unit {0}
FitFrom words before (f ∷ more) = Fits words before f × FitFrom words (words_behind words before f) more

abbrev pub has_this : WordsOf → Bool
has_this f = nat_lt f.this f.count

abbrev pub count_of : WordsOf → ℕ
count_of f = f.count

abbrev pub apart_of : WordsOf → ℕ
apart_of f = 65535 - f.shared

abbrev pub blank : WordsOf
blank = record { start = 0; count = 0; shared = 0; this = 65535 }

-- The last frame up to one at a place that has a word of its own, or the first: those behind it share that word.
pub record IsOwner (frames : List WordsOf) (place index owner : ℕ) : Type 0 where
  pub least : owner ≤ place
  pub own : (get_or frames owner blank).shared ≤ index
  pub shared : (k : ℕ) → owner < k → k ≤ place → index < (get_or frames k blank).shared
