-- Local variables that are made those of a frame of the stack map, one stretch after another (JVMS 4.10.1.6).
use Rattle.std.specs.Prelude.{◌≡◌, ◌⊎◌, ℕ, ◌-◌, ◌<◌, ◌≤◌, List, get_or, length}
use Rattle.jv_stackmap.specs.declared.entry.FrameEntry.{FrameEntry}
use Rattle.jv_stackmap.specs.declared.entry.FrameEntry.TheVariants as entries
use Rattle.jv_stackmap.specs.Types.{FrameType}
use Rattle.jv_verify_types.specs.Numbered.{Item}
use Rattle.jv_verify_types.specs.Mapped.{EntryTypes, type_of_entry}
use Rattle.jv_verify_maps.specs.Words.{MapWords}
use Rattle.jv_verify_known.specs.Known.{Writes, number_at, local_at, word_at, AreNoted}

-- what stays and what is noted, whatever is set: the number of the next write, how many blocks and local variables there are
pub record Stay (types : EntryTypes) (old new : Writes) (before behind : List Item) : Type 0 where
  pub next : new.next ≡ old.next
  pub blocks : length new.numbers ≡ length old.numbers
  pub many : length behind ≡ length before
  pub noted : AreNoted types old new before behind

-- Local variables from one on, before another, have the types that they are to have, and the others those that they had.
pub record AreSet (types : EntryTypes) (old new : Writes) (before behind : List Item) (type_at : ℕ → FrameType) (from to : ℕ)
    : Type 0 where
  pub stay : Stay types old new before behind
  pub set : (k : ℕ) → from ≤ k → k < to → k < length before → local_at types behind k ≡ type_at k
  pub kept : (k : ℕ) → (k < from) ⊎ (to ≤ k) → local_at types behind k ≡ local_at types before k

-- the type of an entry of a stretch of words before one, which has the last first
abbrev pub type_in : EntryTypes → List FrameEntry → ℕ → ℕ → FrameType
type_in types stretch to k = type_of_entry types (get_or stretch (to - 1 - k) entries.Top)

-- Each local variable before one has the type of its word of the frame at a place, or it was not written since a number, and has the
-- type that it had.
pub record AreSetWhereWritten (types : EntryTypes) (old new : Writes) (before behind : List Item) (words : MapWords) (place since to : ℕ)
    : Type 0 where
  pub stay : Stay types old new before behind
  pub set : (k : ℕ) → k < to
      → (local_at types behind k ≡ word_at types words place k)
      ⊎ ((number_at old k ≤ since) × (local_at types behind k ≡ local_at types before k))
