-- References that are stored in arrays, in words (JVMS 6.5, aastore): of null, of an index outside and of an object that cannot stand in
-- the array, the first one is thrown.
use Rattle.std.specs.Prelude.{◌≡◌, ℕ, List}
use Rattle.jv_code.specs.declared.insn.Insn.TheVariants as insns
use Rattle.jv_meaning_world.specs.World.{World}
use Rattle.jv_meaning_machine.specs.State.{Memory}
use Rattle.jv_meaning_machine.specs.Effects.{Effect as EffectOfNames, Context}
use Rattle.jv_meaning_machine.specs.Instructions.{execute}
use Rattle.jv_interp_words.specs.declared.registers.Registers.{Registers}
use Rattle.jv_interp_heap.specs.ObjectsInBlocks.{Blocks}
use Rattle.jv_interp_held.specs.declared.held.Held.{Held}
use Rattle.jv_interp_held.specs.declared.effect.Effect.{Effect}
use Rattle.jv_interp_held.specs.Executing.{Place, place, Executes}
use Rattle.jv_interp_held.specs.Growing.{DidIn}
use Rattle.jv_interp_heap.specs.SystemNumbers.{IsGuestsWorld}

-- The machine stores a reference in an array, in a guest with these classes.
pub record Storing (world : World) (next : ℕ) (here : Place) (texts : List (List ℕ)) (c : Context) (addresses : List ℕ)
    (done : Memory × EffectOfNames) (below : List ℕ) : Type 0 where
  pub executes : Executes (λ c. execute c insns.ReferenceArrayStore) texts next here c addresses done below
  pub world_is : c.program.world ≡ world
  pub guests : IsGuestsWorld world

pub record CanStore (world : World) (next : ℕ) (at : Registers) (words : List ℕ) (held : Held) (blocks : Blocks) : Type 0 where
  pub texts : List (List ℕ)
  pub c : Context
  pub addresses : List ℕ
  pub done : Memory × EffectOfNames
  pub below : List ℕ
  pub stores : Storing world next (place at words held blocks) texts c addresses done below

abbrev pub Stores : World → ℕ → List ℕ → Held → Registers → Blocks → Registers → Blocks → Effect → Type 0
Stores world next words held at blocks at_after blocks_after effect =
    (texts : List (List ℕ)) (c : Context) (addresses : List ℕ) (done : Memory × EffectOfNames) (below : List ℕ)
    → Storing world next (place at words held blocks) texts c addresses done below
    → DidIn blocks texts (place at_after words held blocks_after) effect c addresses done below
