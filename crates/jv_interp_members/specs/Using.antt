-- Fields that constants name, in words (JVMS 6.5: getstatic, putstatic, getfield, putfield).
use Rattle.std.specs.Prelude.{ℕ, ◌-◌, List, length}
use Rattle.jv_code.specs.declared.kinds.FieldAccess.{FieldAccess}
use Rattle.jv_code.specs.declared.kinds.FieldAccess.TheVariants as access
use Rattle.jv_meaning_machine.specs.State.{Memory}
use Rattle.jv_meaning_machine.specs.Effects.{Effect as EffectOfNames, Context}
use Rattle.jv_meaning_machine.specs.Fields.{use_field}
use Rattle.jv_interp_words.specs.declared.registers.Registers.{Registers}
use Rattle.jv_interp_heap.specs.ObjectsInBlocks.{Blocks, AreLoadable}
use Rattle.jv_interp_held.specs.declared.class_state.ClassState.{ClassState}
use Rattle.jv_interp_held.specs.ClassStates.{AreClassStates}
use Rattle.jv_interp_held.specs.declared.held.Held.{Held}
use Rattle.jv_interp_held.specs.declared.effect.Effect.{Effect}
use Rattle.jv_interp_held.specs.Executing.{Place, place, Executes, HasRoom, Did}
use Rattle.jv_interp_held.specs.Growing.{DidIn}
use Rattle.jv_interp_members.specs.Known.{Known, IsKnown}

-- ---- the machine uses the field that the constant at an index names

pub record Using (how : FieldAccess) (index next : ℕ) (k : Known) (here : Place) (texts : List (List ℕ)) (c : Context)
    (addresses : List ℕ) (done : Memory × EffectOfNames) (below : List ℕ) : Type 0 where
  pub executes : Executes (λ c. use_field c how index) texts next here c addresses done below
  pub known : IsKnown k c
  pub loadable : AreLoadable k.world c.memory.objects

-- ---- fields of objects

pub record CanUseField (how : FieldAccess) (index next : ℕ) (k : Known) (at : Registers) (words : List ℕ) (held : Held)
    (blocks : Blocks) : Type 0 where
  pub texts : List (List ℕ)
  pub c : Context
  pub addresses : List ℕ
  pub done : Memory × EffectOfNames
  pub below : List ℕ
  pub uses : Using how index next k (place at words held blocks) texts c addresses done below
  pub room : HasRoom c below (length words) done

abbrev pub UsesField : FieldAccess → ℕ → ℕ → Known → Held → Registers → List ℕ → Blocks → Registers → List ℕ → Effect → Type 0
UsesField how index next k held at words blocks at_after words_after effect =
    (texts : List (List ℕ)) (c : Context) (addresses : List ℕ) (done : Memory × EffectOfNames) (below : List ℕ)
    → Using how index next k (place at words held blocks) texts c addresses done below
    → Did texts (place at_after words_after held blocks) effect c addresses done below

-- where a value is put into one, its object's block is written
abbrev pub PutsInField : ℕ → ℕ → Known → Held → List ℕ → Registers → Blocks → Registers → Blocks → Effect → Type 0
PutsInField index next k held words at blocks at_after blocks_after effect =
    (texts : List (List ℕ)) (c : Context) (addresses : List ℕ) (done : Memory × EffectOfNames) (below : List ℕ)
    → Using access.PutField index next k (place at words held blocks) texts c addresses done below
    → DidIn blocks texts (place at_after words held blocks_after) effect c addresses done below

-- ---- static fields, which need no store

pub record UsingStatic (how : FieldAccess) (index next : ℕ) (k : Known) (states : List ClassState) (here : Place)
    (texts : List (List ℕ)) (c : Context) (addresses : List ℕ) (done : Memory × EffectOfNames) (below : List ℕ) : Type 0 where
  pub uses : Using how index next k here texts c addresses done below
  pub states_are : AreClassStates k.world c.states states

pub record CanUseStatic (how : FieldAccess) (index next : ℕ) (k : Known) (states : List ClassState) (at : Registers)
    (words : List ℕ) (held : Held) : Type 0 where
  pub blocks : Blocks
  pub texts : List (List ℕ)
  pub c : Context
  pub addresses : List ℕ
  pub done : Memory × EffectOfNames
  pub below : List ℕ
  pub uses : UsingStatic how index next k states (place at words held blocks) texts c addresses done below
  pub room : HasRoom c below (length words) done

abbrev pub UsesStatic : FieldAccess → ℕ → ℕ → Known → List ClassState → Registers → List ℕ → Held → Registers → List ℕ → Held → Effect
    → Type 0
UsesStatic how index next k states at words held at_after words_after held_after effect =
    (blocks : Blocks) (texts : List (List ℕ)) (c : Context) (addresses : List ℕ) (done : Memory × EffectOfNames) (below : List ℕ)
    → UsingStatic how index next k states (place at words held blocks) texts c addresses done below
    → Did texts (place at_after words_after held_after blocks) effect c addresses done below
