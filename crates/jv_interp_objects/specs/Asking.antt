-- Instructions that ask whether an object is of the type that a constant names, in words (JVMS 6.5: instanceof, checkcast).
use Rattle.std.specs.Prelude.{ℕ, List}
use Rattle.jv_meaning_machine.specs.State.{Memory}
use Rattle.jv_meaning_machine.specs.Effects.{Effect as EffectOfNames, Context, Outcome}
use Rattle.jv_interp_words.specs.declared.registers.Registers.{Registers}
use Rattle.jv_interp_heap.specs.ObjectsInBlocks.{Blocks}
use Rattle.jv_interp_held.specs.declared.held.Held.{Held}
use Rattle.jv_interp_held.specs.declared.effect.Effect.{Effect}
use Rattle.jv_interp_held.specs.Executing.{Place, place, Executes, Did}
use Rattle.jv_interp_members.specs.Known.{Known, IsKnown}

-- The machine executes such an instruction in a method that is known.
pub record Asking (part : Context → Outcome) (next : ℕ) (k : Known) (here : Place) (texts : List (List ℕ)) (c : Context)
    (addresses : List ℕ) (done : Memory × EffectOfNames) (below : List ℕ) : Type 0 where
  pub executes : Executes part texts next here c addresses done below
  pub known : IsKnown k c

pub record CanAsk (part : Context → Outcome) (next : ℕ) (k : Known) (at : Registers) (words : List ℕ) (held : Held)
    (blocks : Blocks) : Type 0 where
  pub texts : List (List ℕ)
  pub c : Context
  pub addresses : List ℕ
  pub done : Memory × EffectOfNames
  pub below : List ℕ
  pub asks : Asking part next k (place at words held blocks) texts c addresses done below

abbrev pub Asks : (Context → Outcome) → ℕ → Known → Held → Blocks → Registers → List ℕ → Registers → List ℕ → Effect → Type 0
Asks part next k held blocks at words at_after words_after effect =
    (texts : List (List ℕ)) (c : Context) (addresses : List ℕ) (done : Memory × EffectOfNames) (below : List ℕ)
    → Asking part next k (place at words held blocks) texts c addresses done below
    → Did texts (place at_after words_after held blocks) effect c addresses done below
