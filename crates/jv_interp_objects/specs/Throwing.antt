-- An object that is thrown, in words (JVMS 6.5, athrow).
use Rattle.std.specs.Prelude.{ℕ, List}
use Rattle.jv_code.specs.declared.insn.Insn.TheVariants as insns
use Rattle.jv_meaning_machine.specs.State.{Memory}
use Rattle.jv_meaning_machine.specs.Effects.{Effect as EffectOfNames, Context}
use Rattle.jv_meaning_machine.specs.Instructions.{execute}
use Rattle.jv_interp_words.specs.declared.registers.Registers.{Registers}
use Rattle.jv_interp_heap.specs.ObjectsInBlocks.{Blocks}
use Rattle.jv_interp_held.specs.declared.held.Held.{Held}
use Rattle.jv_interp_held.specs.declared.effect.Effect.{Effect}
use Rattle.jv_interp_held.specs.Executing.{Place, place, Executes, Did}
use Rattle.jv_interp_heap.specs.SystemNumbers.{IsGuestsWorld}

-- The machine throws the object on top, or an exception in the place of null.
pub record Throwing (next : ℕ) (here : Place) (texts : List (List ℕ)) (c : Context) (addresses : List ℕ)
    (done : Memory × EffectOfNames) (below : List ℕ) : Type 0 where
  pub executes : Executes (λ c. execute c insns.Throw) texts next here c addresses done below
  pub guests : IsGuestsWorld c.program.world

pub record CanThrow (at : Registers) (words : List ℕ) : Type 0 where
  pub next : ℕ
  pub held : Held
  pub blocks : Blocks
  pub texts : List (List ℕ)
  pub c : Context
  pub addresses : List ℕ
  pub done : Memory × EffectOfNames
  pub below : List ℕ
  pub throws : Throwing next (place at words held blocks) texts c addresses done below

abbrev pub Throws : Registers → List ℕ → Effect → Type 0
Throws at words effect =
    (next : ℕ) (held : Held) (blocks : Blocks) (texts : List (List ℕ)) (c : Context) (addresses : List ℕ)
    (done : Memory × EffectOfNames) (below : List ℕ) → Throwing next (place at words held blocks) texts c addresses done below
    → Did texts (place at words held blocks) effect c addresses done below
