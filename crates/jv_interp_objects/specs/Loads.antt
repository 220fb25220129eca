-- Lengths and components of arrays in words (JVMS 6.5, arraylength, iaload and its kin).
use Rattle.std.specs.Prelude.{◌≡◌, ℕ, Bool, true, List}
use Rattle.jv_text.specs.declared.descriptor.FieldTypeOf.{FieldTypeOf}
use Rattle.jv_stackmap.specs.Types.{value_type, width}
use Rattle.jv_meaning_machine.specs.State.{Memory}
use Rattle.jv_meaning_machine.specs.Effects.{Effect as EffectOfNames, Context}
use Rattle.jv_meaning_machine.specs.Arrays.{array_length, load_component}
use Rattle.jv_interp_words.specs.declared.registers.Registers.{Registers}
use Rattle.jv_interp_heap.specs.ObjectsInBlocks.{Blocks}
use Rattle.jv_interp_held.specs.declared.held.Held.{Held}
use Rattle.jv_interp_held.specs.declared.effect.Effect.{Effect}
use Rattle.jv_interp_held.specs.Executing.{Place, place, Executes, Did}
use Rattle.jv_interp_heap.specs.SystemNumbers.{IsGuestsWorld}

-- ---- arraylength

pub record Measuring (next : ℕ) (here : Place) (texts : List (List ℕ)) (c : Context) (addresses : List ℕ)
    (done : Memory × EffectOfNames) (below : List ℕ) : Type 0 where
  pub executes : Executes array_length texts next here c addresses done below
  pub guests : IsGuestsWorld c.program.world

pub record CanMeasure (next : ℕ) (at : Registers) (words : List ℕ) (held : Held) (blocks : Blocks) : Type 0 where
  pub texts : List (List ℕ)
  pub c : Context
  pub addresses : List ℕ
  pub done : Memory × EffectOfNames
  pub below : List ℕ
  pub measures : Measuring next (place at words held blocks) texts c addresses done below

abbrev pub Measures : ℕ → Registers → List ℕ → Held → Blocks → Registers → List ℕ → Effect → Type 0
Measures next at words held blocks at_after words_after effect =
    (texts : List (List ℕ)) (c : Context) (addresses : List ℕ) (done : Memory × EffectOfNames) (below : List ℕ)
    → Measuring next (place at words held blocks) texts c addresses done below
    → Did texts (place at_after words_after held blocks) effect c addresses done below

-- ---- iaload and its kin: the machine loads a component of an array whose components pass a test, so that each has so many words

pub record Loading (slots next : ℕ) (here : Place) (texts : List (List ℕ)) (c : Context) (test : FieldTypeOf (List ℕ) → Bool)
    (addresses : List ℕ) (done : Memory × EffectOfNames) (below : List ℕ) : Type 0 where
  pub executes : Executes (λ c. load_component c test) texts next here c addresses done below
  pub slots_are : (type : FieldTypeOf (List ℕ)) → test type ≡ true → width (value_type type) ≡ slots
  pub guests : IsGuestsWorld c.program.world

pub record CanLoad (slots next : ℕ) (at : Registers) (words : List ℕ) (held : Held) (blocks : Blocks) : Type 0 where
  pub texts : List (List ℕ)
  pub c : Context
  pub test : FieldTypeOf (List ℕ) → Bool
  pub addresses : List ℕ
  pub done : Memory × EffectOfNames
  pub below : List ℕ
  pub loads : Loading slots next (place at words held blocks) texts c test addresses done below

abbrev pub Loads : ℕ → ℕ → Registers → List ℕ → Held → Blocks → Registers → List ℕ → Effect → Type 0
Loads slots next at words held blocks at_after words_after effect =
    (texts : List (List ℕ)) (c : Context) (test : FieldTypeOf (List ℕ) → Bool) (addresses : List ℕ) (done : Memory × EffectOfNames)
    (below : List ℕ)
    → Loading slots next (place at words held blocks) texts c test addresses done below
    → Did texts (place at_after words_after held blocks) effect c addresses done below
