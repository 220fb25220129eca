-- What is known of the local variables before an instruction: into which frames of the stack map they flow, which of them they were
-- made, and what of them was written since (JVMS 4.10.1.4, 4.10.1.6).
use Rattle.std.specs.Prelude.{◌≡◌, ℕ, ◌*◌, ◌/◌, ◌<◌, ◌≤◌, true, List, get_or, length, set, slice_get, Option, Some, None}
use Rattle.jv_stackmap.specs.declared.entry.FrameEntry.TheVariants as entries
use Rattle.jv_stackmap.specs.declared.verification.VerificationTypeOf.TheVariants as variants
use Rattle.jv_stackmap.specs.Entries.{ReadFrame}
use Rattle.jv_stackmap.specs.Types.{FrameType}
use Rattle.jv_meaning_world.specs.Flow.{flows}
use Rattle.jv_verify_types.specs.Typed.{typed}
use Rattle.jv_verify_types.specs.Numbered.{Item}
use Rattle.jv_verify_types.specs.Mapped.{EntryTypes, names_of_types, type_of_entry, world_of_types}
use Rattle.jv_verify_maps.specs.Words.{MapWords, map_by_words, words_at}

-- for each 16 local variables that stand beside each other the number of the last write to one of them, and the number of the next write
pub record Writes : Type 0 where
  pub numbers : List ℕ
  pub next : ℕ

-- the number of the last write to a local variable, or to one beside it
abbrev pub number_at : Writes → ℕ → ℕ
number_at writes k = get_or writes.numbers (k / 16) 0

-- the frames of the stack map by words; for each of them the number of the last write before local variables flowed into it, 0 where they
-- did not; the frame that they were made last, and the number of the last write before that
pub record KnownLocals : Type 0 where
  pub words : MapWords
  pub writes : Writes
  pub stamps : List ℕ
  pub origin : Option ℕ
  pub merged : ℕ

-- it holds of each local variable that was not written since the write with a number
abbrev pub HoldsSince : Writes → ℕ → (ℕ → Type 0) → Type 0
HoldsSince writes since P = (k : ℕ) → number_at writes k ≤ since → P k

-- the type of a local variable, and that of a word of the frame at a place: top behind the last
abbrev pub local_at : EntryTypes → List Item → ℕ → FrameType
local_at types locals k = typed (names_of_types types) (get_or locals k variants.Top)

abbrev pub word_at : EntryTypes → MapWords → ℕ → ℕ → FrameType
word_at types words place k = type_of_entry types (get_or (words_at words place) k entries.Top)

-- a local variable flows to its word of the frame at a place
abbrev pub FlowsAt : EntryTypes → MapWords → List Item → ℕ → ℕ → Type 0
FlowsAt types words locals place k = flows (world_of_types types) (local_at types locals k) (word_at types words place k) ≡ true

-- a local variable has the type of its word of the frame that they were made, and top where they were made none
abbrev pub IsMade : EntryTypes → MapWords → List Item → Option ℕ → ℕ → Type 0
IsMade types words locals (Some place) k = local_at types locals k ≡ word_at types words place k
IsMade types words locals None k = local_at types locals k ≡ variants.Top

-- Each local variable has a number for its last write. Where it was not written since local variables flowed into a frame, it flows to its
-- word there; and where it was not since they were made a frame, it has the type of its word there.
pub record IsKnown (types : EntryTypes) (known : KnownLocals) (locals : List Item) : Type 0 where
  pub blocks : length locals ≤ length known.writes.numbers * 16
  pub flowed : (place : ℕ) → 0 < get_or known.stamps place 0
      → HoldsSince known.writes (get_or known.stamps place 0) (FlowsAt types known.words locals place)
  pub origin : HoldsSince known.writes known.merged (IsMade types known.words locals known.origin)

-- one is known as before whatever the local variables are
abbrev pub StaysKnown : KnownLocals → KnownLocals → Type 0
StaysKnown old new = (types : EntryTypes) (locals : List Item) → IsKnown types old locals → IsKnown types new locals

-- ---- writes

-- the next write may be to a block of local variables, or to one of them
abbrev pub block_written : ℕ → Writes → Writes
block_written block writes = record writes { numbers = set writes.numbers block writes.next }

abbrev pub written_at : ℕ → Writes → Writes
written_at k writes = block_written (k / 16) writes

abbrev pub with_next : ℕ → Writes → Writes
with_next next writes = record writes { next = next }

abbrev pub with_writes : Writes → KnownLocals → KnownLocals
with_writes writes known = record known { writes = writes }

-- Local variables differ only where the next write may have been.
abbrev pub DifferAtWrites : EntryTypes → Writes → List Item → List Item → Type 0
DifferAtWrites types writes old new =
    (length new ≡ length old) × ((k : ℕ) → number_at writes k < writes.next → local_at types new k ≡ local_at types old k)

-- What is known stays so of others that differ only there.
abbrev pub StaysBesideWrites : KnownLocals → Type 0
StaysBesideWrites known =
    (types : EntryTypes) (old new : List Item) → DifferAtWrites types known.writes old new → IsKnown types known old
    → IsKnown types known new

-- Each local variable that differs has the number of the write that was next, or a later one; where it has an earlier one, that is the
-- number that it had.
abbrev pub AreNoted : EntryTypes → Writes → Writes → List Item → List Item → Type 0
AreNoted types old new before behind =
    (k : ℕ) → number_at new k < old.next → (number_at new k ≡ number_at old k) × (local_at types behind k ≡ local_at types before k)

-- ---- frames of the stack map

-- the frame at a place of a stack map that is kept by words
pub record IsFrameAt (types : EntryTypes) (words : MapWords) (place : ℕ) (map : ReadFrame) : Type 0 where
  pub frames : List ReadFrame
  pub by_words : words ≡ map_by_words types frames
  pub there : slice_get frames place ≡ Some map

-- local variables are tops but for so many, the first ones
abbrev pub AreTopsFrom : EntryTypes → ℕ → List Item → Type 0
AreTopsFrom types initial locals = (k : ℕ) → initial ≤ k → local_at types locals k ≡ variants.Top
