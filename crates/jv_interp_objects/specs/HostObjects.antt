-- What the methods of host/Io that are given objects do in words (own), once they are called: `className` and `arrayLike`, whose two
-- arguments are on top.
use Rattle.std.specs.Prelude.{◌≡◌, ℕ, ℤ, List}
use Rattle.jv_meaning_world.specs.World.{World}
use Rattle.jv_meaning_machine.specs.Values.{Value}
use Rattle.jv_meaning_machine.specs.State.{Memory}
use Rattle.jv_meaning_machine.specs.Effects.{Effect as EffectOfNames, Context, Outcome}
use Rattle.jv_meaning_machine.specs.Calls.{array_like, class_name}
use Rattle.jv_interp_words.specs.declared.registers.Registers.{Registers}
use Rattle.jv_interp_heap.specs.ObjectsInBlocks.{Blocks}
use Rattle.jv_interp_held.specs.declared.held.Held.{Held}
use Rattle.jv_interp_held.specs.declared.effect.Effect.{Effect}
use Rattle.jv_interp_held.specs.Executing.{place, Did}
use Rattle.jv_interp_held.specs.Growing.{DidIn}
use Rattle.jv_interp_held.specs.Host.{RunningOnTwo}

-- The machine runs such a method in this world, which is a guest's.
pub record CanRunOnTwo (part : Context → ℤ → List Value → Value → Outcome) (world : World) (next : ℕ) (at : Registers)
    (words : List ℕ) (held : Held) (blocks : Blocks) : Type 0 where
  pub texts : List (List ℕ)
  pub c : Context
  pub number : ℤ
  pub value : Value
  pub rest : List Value
  pub addresses : List ℕ
  pub done : Memory × EffectOfNames
  pub below : List ℕ
  pub runs : RunningOnTwo part next (place at words held blocks) texts c number value rest addresses done below
  pub world_is : c.program.world ≡ world

abbrev pub NamesClass : World → ℕ → Registers → List ℕ → Held → Blocks → Registers → List ℕ → Effect → Type 0
NamesClass world next at words held blocks at_after words_after effect =
    (texts : List (List ℕ)) (c : Context) (number : ℤ) (value : Value) (rest : List Value) (addresses : List ℕ)
    (done : Memory × EffectOfNames) (below : List ℕ)
    → RunningOnTwo class_name next (place at words held blocks) texts c number value rest addresses done below
    → c.program.world ≡ world → Did texts (place at_after words_after held blocks) effect c addresses done below

abbrev pub MakesLike : ℕ → Registers → List ℕ → Held → Blocks → Registers → List ℕ → Held → Blocks → Effect → Type 0
MakesLike next at words held blocks at_after words_after held_after blocks_after effect =
    (texts : List (List ℕ)) (c : Context) (number : ℤ) (value : Value) (rest : List Value) (addresses : List ℕ)
    (done : Memory × EffectOfNames) (below : List ℕ)
    → RunningOnTwo array_like next (place at words held blocks) texts c number value rest addresses done below
    → DidIn blocks texts (place at_after words_after held_after blocks_after) effect c addresses done below
