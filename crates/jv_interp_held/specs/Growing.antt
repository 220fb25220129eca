-- What a step of a guest does to the blocks of a store that it shares with others (JVMS 2.5.3; own).
use Rattle.std.specs.Prelude.{ℕ, ◌≡◌, ◌+◌, ◌<◌, ◌≤◌, List, [], ◌∷◌, Contains, length}
use Rattle.jv_store.specs.Content.{words_at, words_held, greatest}
use Rattle.jv_meaning_machine.specs.State.{Memory}
use Rattle.jv_meaning_machine.specs.Effects.{Effect as EffectOfNames, Context}
use Rattle.jv_interp_heap.specs.ObjectsInBlocks.{Blocks}
use Rattle.jv_interp_held.specs.declared.effect.Effect.{Effect}
use Rattle.jv_interp_held.specs.Executing.{Place, Did}

-- how many words stand under these addresses
abbrev pub words_under : List ℕ → Blocks → ℕ
words_under [] blocks = 0
words_under (address ∷ more) blocks = length (words_at blocks address) + words_under more blocks

-- A guest has objects under these addresses, and then under more: all that stood under other addresses stands as it did, and the new
-- ones are above all that there were. So where no two guests have one address, no block of another guest was written, and none is the
-- guest's own now. No block has more words than it had, or fewer, and the store has those of the new ones more.
pub record Grows (addresses more : List ℕ) (before after : Blocks) : Type 0 where
  pub others : (other : ℕ) → other ≤ greatest before → (Contains addresses other → ⊥) → words_at after other ≡ words_at before other
  pub above : (address : ℕ) → Contains more address → greatest before < address
  pub no_lower : greatest before ≤ greatest after
  pub there : (address : ℕ) → Contains more address → address ≤ greatest after
  pub lengths : (other : ℕ) → other ≤ greatest before → length (words_at after other) ≡ length (words_at before other)
  pub words : words_held after ≡ words_held before + words_under more after

-- What the machine did stands, and the blocks grew so.
pub record DidIn (before : Blocks) (texts : List (List ℕ)) (here : Place) (effect : Effect) (c : Context) (addresses : List ℕ)
    (done : Memory × EffectOfNames) (below : List ℕ) : Type 0 where
  pub did : Did texts here effect c addresses done below
  pub grows : Grows addresses did.more before here.blocks
