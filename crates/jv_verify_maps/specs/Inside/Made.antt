-- Frames by words while they are made.
use Rattle.std.specs.Prelude.{◌≡◌, ℕ, ◌+◌, ◌≤◌, ◌<◌, ◌⊎◌, Bool, nat_eq, nat_lt, List, [], ◌∷◌, ◌++◌, drop, get_or, if◌then◌else◌, length, map, reverse, slice_get, take, Some}
use Rattle.std.specs.List.{list_any}
use Rattle.jv_stackmap.specs.declared.entry.FrameEntry.{FrameEntry}
use Rattle.jv_stackmap.specs.declared.entry.FrameEntry.TheVariants as entries
use Rattle.jv_stackmap.specs.Entries.{ReadFrame}
use Rattle.jv_stackmap.specs.Frames.{is_uninitialized_this}
use Rattle.jv_verify_types.specs.Mapped.{EntryTypes, type_of_entry}
use Rattle.jv_verify_maps.specs.declared.making.Laid.{Laid}
use Rattle.jv_verify_maps.specs.declared.frames.WordsOf.{WordsOf}
use Rattle.jv_verify_maps.specs.Words.{frame_by_words, locals_by_words}
use Rattle.jv_verify_maps.specs.Inside.Kept.{blank, words_from, FitFrom}

-- an entry is `this`, not initialized
abbrev pub is_this : EntryTypes → FrameEntry → Bool
is_this types entry = is_uninitialized_this (type_of_entry types entry)

-- the words of an entry that has so many, the last first
abbrev pub pushed_words : FrameEntry → ℕ → List FrameEntry
pushed_words entry count = if nat_eq count 2 then entries.Top ∷ entry ∷ [] else entry ∷ []

-- a number is the place of the first of some words that is `this`, counted from another on, or one behind them all
abbrev pub IsFirstThis : EntryTypes → ℕ → List FrameEntry → ℕ → Type 0
IsFirstThis types from words this =
    (from ≤ this) × ((count : ℕ) → count ≤ length words → list_any (is_this types) (take count words) ≡ nat_lt this (from + count))

-- Words of some of the last local entries of a frame stand behind others, the last first, and these are left.
pub record Lays (types : EntryTypes) (locals left : List FrameEntry) (old new : List FrameEntry) (laid : Laid) : Type 0 where
  pub taken : List FrameEntry
  pub whole : locals ≡ taken ++ left
  pub words : new ≡ old ++ reverse (locals_by_words types taken)
  pub at : laid.at ≡ length (locals_by_words types left)
  pub this : IsFirstThis types laid.at (locals_by_words types taken) laid.this

-- So many of the last local entries of a frame are to be laid, and so many of them are left.
pub record IsLaying (types : EntryTypes) (locals : List FrameEntry) (above left : ℕ) (entries old new : List FrameEntry)
    (laid : Laid) : Type 0 where
  pub behind : drop left entries ≡ drop above locals
  pub lays : Lays types locals entries old new laid

-- Frames are kept by their words.
pub record AreMade (types : EntryTypes) (map_frames : List ReadFrame) (words : List FrameEntry) (made : List WordsOf) : Type 0 where
  pub fit : FitFrom words [] made
  pub by_words : words_from words [] made ≡ map (frame_by_words types) map_frames
  pub this : (k : ℕ) → k < length made → IsFirstThis types 0 (get_or (words_from words [] made) k []) (get_or made k blank).this

-- The frame at a place has, below so many of its last local entries, none, or what the frame before it has below some.
abbrev pub SharesBefore : List ReadFrame → ℕ → ℕ → Type 0
SharesBefore frames place above =
    (f : ReadFrame) → slice_get frames place ≡ Some f → length f.locals < 18446744073709551616
    → (drop above f.locals ≡ []) ⊎ ((g : ReadFrame) × (before : ℕ) × (below : ℕ) × (place ≡ before + 1) × (slice_get frames before ≡ Some g)
    × (drop above f.locals ≡ drop below g.locals))

-- the first word that is `this`, behind the frames that are kept
abbrev pub first_this_behind : List WordsOf → Laid → ℕ
first_this_behind [] laid = laid.this
first_this_behind (f ∷ more) laid =
    let last = get_or (f ∷ more) (length more) blank in if nat_lt last.this laid.at then last.this else laid.this
