-- What frames of a stack map want of local variables, while it is found.
use Rattle.std.specs.Prelude.{◌≡◌, ◌⊎◌, ℕ, ◌+◌, ◌/◌, ◌<◌, ◌≤◌, List, get_or, length}
use Rattle.jv_verify_types.specs.Typed.{typed}
use Rattle.jv_verify_types.specs.Numbered.{Item}
use Rattle.jv_verify_types.specs.Mapped.{EntryTypes, names_of_types}
use Rattle.jv_verify_maps.specs.Words.{MapWords}
use Rattle.jv_verify_known.specs.Known.{local_at, word_at}
use Rattle.jv_verify_wants.specs.Wanted.{IsWanted, Wants}
use Rattle.jv_verify_wants.specs.Inside.Allowed.{AreAllowed}
use Rattle.jv_verify_open.specs.declared.wanting.Stretch.{Stretch}
use Rattle.jv_verify_open.specs.Open.{end_of, FlowsToOpen, IsTopOrWanted, OpenFrames}

-- Words of a stretch come to be wanted, from one on: from an offset on what was wanted still is, these are, and nothing else comes to be.
pub record AreMoreWanted (types : EntryTypes) (map : MapWords) (offset : ℕ) (words : Stretch) (from : ℕ) (old new : Wants) : Type 0 where
  pub kept : (k later : ℕ) (item : Item) → offset ≤ later → IsWanted old k item later → IsWanted new k item later
  pub there : (k later : ℕ) → from ≤ k → k < words.to → offset ≤ later → later < words.until
      → IsTopOrWanted types new k (word_at types map words.place k) later
  pub only : (k later : ℕ) (item : Item) → offset ≤ later → IsWanted new k item later
      → IsWanted old k item later ⊎ ((k < words.to) × (later < words.until)
      × (word_at types map words.place k ≡ typed (names_of_types types) item))
  pub allowed : AreAllowed types.constants.types offset old → AreAllowed types.constants.types offset new

-- What frames have at a block of local variables is wanted, from the one at a place on before another.
pub record AreFoundOf (types : EntryTypes) (map : MapWords) (offset place behind block : ℕ) (old : OpenFrames) (new : Wants) : Type 0 where
  pub more : place < behind
  pub within : behind ≤ length map.frames
  pub kept : (k later : ℕ) (item : Item) → offset ≤ later → IsWanted old.wants k item later → IsWanted new k item later
  pub there : (at k later : ℕ) → place ≤ at → at < behind → k / 16 ≡ block → k < 65535 → offset ≤ later → later < end_of old at
      → IsTopOrWanted types new k (word_at types map at k) later
  pub only : (k later : ℕ) (item : Item) → offset ≤ later → IsWanted new k item later
      → IsWanted old.wants k item later
      ⊎ ((at : ℕ) × (later < end_of old at) × (word_at types map at k ≡ typed (names_of_types types) item))
  pub allowed : AreAllowed types.constants.types offset old.wants → AreAllowed types.constants.types offset new

-- The same of all frames before a place that were opened since so many had been.
pub record AreFoundBelow (types : EntryTypes) (map : MapWords) (offset place block since : ℕ) (old : OpenFrames) (new : Wants)
    : Type 0 where
  pub kept : (k later : ℕ) (item : Item) → offset ≤ later → IsWanted old.wants k item later → IsWanted new k item later
  pub there : (at k later : ℕ) → at < place → since < get_or old.opened at 0 → k / 16 ≡ block → k < 65535 → offset ≤ later
      → later < end_of old at → IsTopOrWanted types new k (word_at types map at k) later
  pub only : (k later : ℕ) (item : Item) → offset ≤ later → IsWanted new k item later
      → IsWanted old.wants k item later
      ⊎ ((at : ℕ) × (later < end_of old at) × (word_at types map at k ≡ typed (names_of_types types) item))
  pub allowed : AreAllowed types.constants.types offset old.wants → AreAllowed types.constants.types offset new

-- each local variable of a block flows to its word in each frame that is open
abbrev pub BlockFlows : EntryTypes → MapWords → OpenFrames → ℕ → List Item → ℕ → Type 0
BlockFlows types map frames offset locals block =
    (k : ℕ) → k / 16 ≡ block → k < length locals → FlowsToOpen types map frames offset k (local_at types locals k)
