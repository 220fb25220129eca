-- Instructions that make an object of a class that a constant names, or arrays of it, in words (JVMS 6.5: new, anewarray, multianewarray).
use Rattle.std.specs.Prelude.{ℕ, List, length}
use Rattle.jv_meaning_machine.specs.State.{Memory}
use Rattle.jv_meaning_machine.specs.Effects.{Effect as EffectOfNames, Context}
use Rattle.jv_meaning_machine.specs.Arrays.{new_reference_array, new_multi_array}
use Rattle.jv_meaning_machine.specs.Instructions.{new}
use Rattle.jv_interp_words.specs.declared.registers.Registers.{Registers}
use Rattle.jv_interp_heap.specs.ObjectsInBlocks.{Blocks}
use Rattle.jv_interp_held.specs.declared.class_state.ClassState.{ClassState}
use Rattle.jv_interp_held.specs.ClassStates.{AreClassStates}
use Rattle.jv_interp_held.specs.declared.held.Held.{Held}
use Rattle.jv_interp_held.specs.declared.effect.Effect.{Effect}
use Rattle.jv_interp_held.specs.Executing.{Place, place, Executes, HasRoom}
use Rattle.jv_interp_held.specs.Growing.{DidIn}
use Rattle.jv_interp_members.specs.Known.{Known, IsKnown}

-- ---- new

-- The machine makes an object of the class that the constant at an index names, and of each class the state is known.
pub record MakingObject (index next : ℕ) (k : Known) (states : List ClassState) (here : Place) (texts : List (List ℕ))
    (c : Context) (addresses : List ℕ) (done : Memory × EffectOfNames) (below : List ℕ) : Type 0 where
  pub executes : Executes (λ c. new c index) texts next here c addresses done below
  pub known : IsKnown k c
  pub states_are : AreClassStates k.world c.states states

pub record CanMakeObject (index next : ℕ) (k : Known) (states : List ClassState) (at : Registers) (words : List ℕ) (held : Held)
    (blocks : Blocks) : Type 0 where
  pub texts : List (List ℕ)
  pub c : Context
  pub addresses : List ℕ
  pub done : Memory × EffectOfNames
  pub below : List ℕ
  pub makes : MakingObject index next k states (place at words held blocks) texts c addresses done below
  pub room : HasRoom c below (length words) done

abbrev pub MakesObject : ℕ → ℕ → Known → List ClassState → Place → Place → Effect → Type 0
MakesObject index next k states before after effect =
    (texts : List (List ℕ)) (c : Context) (addresses : List ℕ) (done : Memory × EffectOfNames) (below : List ℕ)
    → MakingObject index next k states before texts c addresses done below → DidIn before.blocks texts after effect c addresses done below

-- ---- anewarray

-- The machine makes an array of what the constant at an index names.
pub record MakingArray (index next : ℕ) (k : Known) (here : Place) (texts : List (List ℕ)) (c : Context) (addresses : List ℕ)
    (done : Memory × EffectOfNames) (below : List ℕ) : Type 0 where
  pub executes : Executes (λ c. new_reference_array c index) texts next here c addresses done below
  pub known : IsKnown k c

pub record CanMakeArray (index next : ℕ) (k : Known) (at : Registers) (words : List ℕ) (held : Held) (blocks : Blocks) : Type 0 where
  pub texts : List (List ℕ)
  pub c : Context
  pub addresses : List ℕ
  pub done : Memory × EffectOfNames
  pub below : List ℕ
  pub makes : MakingArray index next k (place at words held blocks) texts c addresses done below

abbrev pub MakesArray : ℕ → ℕ → Known → Place → Place → Effect → Type 0
MakesArray index next k before after effect =
    (texts : List (List ℕ)) (c : Context) (addresses : List ℕ) (done : Memory × EffectOfNames) (below : List ℕ)
    → MakingArray index next k before texts c addresses done below → DidIn before.blocks texts after effect c addresses done below

-- ---- multianewarray

-- The machine makes arrays of the type that the constant at an index names, in so many dimensions.
pub record MakingArrays (index dimensions next : ℕ) (k : Known) (here : Place) (texts : List (List ℕ)) (c : Context)
    (addresses : List ℕ) (done : Memory × EffectOfNames) (below : List ℕ) : Type 0 where
  pub executes : Executes (λ c. new_multi_array c index dimensions) texts next here c addresses done below
  pub known : IsKnown k c

pub record CanMakeArrays (index dimensions next : ℕ) (k : Known) (at : Registers) (words : List ℕ) (held : Held) (blocks : Blocks)
    : Type 0 where
  pub texts : List (List ℕ)
  pub c : Context
  pub addresses : List ℕ
  pub done : Memory × EffectOfNames
  pub below : List ℕ
  pub makes : MakingArrays index dimensions next k (place at words held blocks) texts c addresses done below

abbrev pub MakesArrays : ℕ → ℕ → ℕ → Known → Place → Place → Effect → Type 0
MakesArrays index dimensions next k before after effect =
    (texts : List (List ℕ)) (c : Context) (addresses : List ℕ) (done : Memory × EffectOfNames) (below : List ℕ)
    → MakingArrays index dimensions next k before texts c addresses done below
    → DidIn before.blocks texts after effect c addresses done below
