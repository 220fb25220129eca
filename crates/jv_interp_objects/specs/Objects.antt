-- New objects in words (JVMS 6.5, new), once the class is known and initialized or being initialized.
use Rattle.std.specs.Prelude.{◌≡◌, ℕ, List, Some, length, slice_get}
use Rattle.jv_meaning_world.specs.World.{Loaded, class_named}
use Rattle.jv_meaning_typing.specs.Layout.{object_words, object_cells}
use Rattle.jv_meaning_machine.specs.State.{Memory}
use Rattle.jv_meaning_machine.specs.Costs.{paid}
use Rattle.jv_meaning_machine.specs.Effects.{Effect as EffectOfNames, Context, Outcome, world_at}
use Rattle.jv_meaning_machine.specs.Instructions.{push_object}
use Rattle.jv_interp_words.specs.declared.registers.Registers.{Registers}
use Rattle.jv_interp_heap.specs.ObjectsInBlocks.{Blocks}
use Rattle.jv_interp_held.specs.declared.held.Held.{Held}
use Rattle.jv_interp_held.specs.declared.effect.Effect.{Effect}
use Rattle.jv_interp_held.specs.Executing.{Place, place, Executes, HasRoom}
use Rattle.jv_interp_held.specs.Growing.{DidIn}

-- what is left of `new`
abbrev pub object_of : Loaded → Context → Outcome
object_of l c = push_object c l (paid (object_cells (world_at c) l) c.memory)

-- The machine makes an object of the class with a number, whose objects have so many words.
pub record Creating (class size next : ℕ) (here : Place) (texts : List (List ℕ)) (c : Context) (l : Loaded) (addresses : List ℕ)
    (done : Memory × EffectOfNames) (below : List ℕ) : Type 0 where
  pub executes : Executes (object_of l) texts next here c addresses done below
  pub named : class_named c.program.world l.class.name ≡ Some l
  pub has_number : slice_get c.program.world class ≡ Some l
  pub size_is : object_words c.program.world l ≡ size

pub record CanCreate (class size next : ℕ) (at : Registers) (words : List ℕ) (held : Held) (blocks : Blocks) : Type 0 where
  pub texts : List (List ℕ)
  pub c : Context
  pub l : Loaded
  pub addresses : List ℕ
  pub done : Memory × EffectOfNames
  pub below : List ℕ
  pub creates : Creating class size next (place at words held blocks) texts c l addresses done below
  pub room : HasRoom c below (length words) done

abbrev pub Creates : ℕ → ℕ → ℕ → Registers → List ℕ → Held → Blocks → Registers → List ℕ → Held → Blocks → Effect → Type 0
Creates class size next at words held blocks at_after words_after held_after blocks_after effect =
    (texts : List (List ℕ)) (c : Context) (l : Loaded) (addresses : List ℕ) (done : Memory × EffectOfNames) (below : List ℕ)
    → Creating class size next (place at words held blocks) texts c l addresses done below
    → DidIn blocks texts (place at_after words_after held_after blocks_after) effect c addresses done below
