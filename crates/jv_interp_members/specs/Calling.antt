-- Calls of methods in words (JVMS 6.5: invokestatic, invokevirtual, invokeinterface, invokespecial).
use Rattle.std.specs.Prelude.{◌≡◌, ◌⊎◌, ℕ, ℤ, List, length}
use Rattle.jv_meaning_machine.specs.Values.{Value}
use Rattle.jv_meaning_machine.specs.State.{Memory}
use Rattle.jv_meaning_machine.specs.Effects.{Effect as EffectOfNames, Context, Outcome}
use Rattle.jv_meaning_machine.specs.Calls.{array_like, call, class_name}
use Rattle.jv_link.specs.declared.site.Use.{Use}
use Rattle.jv_link.specs.declared.site.Use.TheVariants as uses
use Rattle.jv_link.specs.Seen.{seen_use}
use Rattle.jv_interp_words.specs.declared.registers.Registers.{Registers}
use Rattle.jv_interp_heap.specs.ObjectsInBlocks.{Blocks, AreLoadable}
use Rattle.jv_interp_held.specs.declared.class_state.ClassState.{ClassState}
use Rattle.jv_interp_held.specs.ClassStates.{AreClassStates}
use Rattle.jv_interp_held.specs.declared.held.Held.{Held}
use Rattle.jv_interp_held.specs.declared.effect.Effect.{Effect}
use Rattle.jv_interp_held.specs.Executing.{Place, place, Executes, HasRoom, Did, IsUnmoved}
use Rattle.jv_interp_held.specs.Host.{RunningOnTwo}
use Rattle.jv_interp_members.specs.declared.calls.StaticCall.{StaticCall}
use Rattle.jv_interp_members.specs.declared.calls.StaticCall.TheVariants as calls
use Rattle.jv_interp_members.specs.Known.{Known, IsKnown}

-- The machine calls the method that the constant at an index names.
pub record Calling (how : Use) (index next : ℕ) (k : Known) (here : Place) (texts : List (List ℕ)) (c : Context)
    (addresses : List ℕ) (done : Memory × EffectOfNames) (below : List ℕ) : Type 0 where
  pub executes : Executes (λ c. call c (seen_use how) index) texts next here c addresses done below
  pub known : IsKnown k c
  pub loadable : AreLoadable k.world c.memory.objects

-- ---- of an object's methods

-- an instruction that calls one as the object's class has it
abbrev pub IsVirtual : Use → Type 0
IsVirtual how = (how ≡ uses.Invokevirtual) ⊎ (how ≡ uses.Invokeinterface)

pub record CanCall (how : Use) (index : ℕ) (k : Known) (at : Registers) (words : List ℕ) (held : Held) (blocks : Blocks) : Type 0 where
  pub next : ℕ
  pub texts : List (List ℕ)
  pub c : Context
  pub addresses : List ℕ
  pub done : Memory × EffectOfNames
  pub below : List ℕ
  pub calls : Calling how index next k (place at words held blocks) texts c addresses done below

abbrev pub Calls : Use → ℕ → Known → Registers → List ℕ → Held → Blocks → Effect → Type 0
Calls how index k at words held blocks effect =
    (next : ℕ) (texts : List (List ℕ)) (c : Context) (addresses : List ℕ) (done : Memory × EffectOfNames) (below : List ℕ)
    → Calling how index next k (place at words held blocks) texts c addresses done below
    → Did texts (place at words held blocks) effect c addresses done below

-- ---- of a class's methods, which need no store

-- the machine calls such a method, and of each class the state is known
pub record CallingStatic (index next : ℕ) (k : Known) (states : List ClassState) (here : Place) (texts : List (List ℕ))
    (c : Context) (addresses : List ℕ) (done : Memory × EffectOfNames) (below : List ℕ) : Type 0 where
  pub calls : Calling uses.Invokestatic index next k here texts c addresses done below
  pub states_are : AreClassStates k.world c.states states

-- A method of host/Io with two arguments is run on what is on top.
pub record RunsOnTwo (part : Context → ℤ → List Value → Value → Outcome) (next : ℕ) (texts : List (List ℕ)) (here : Place)
    (c : Context) (addresses : List ℕ) (done : Memory × EffectOfNames) (below : List ℕ) : Type 0 where
  pub number : ℤ
  pub value : Value
  pub rest : List Value
  pub running : RunningOnTwo part next here texts c number value rest addresses done below

-- What a call comes to: an effect that stands, or a method of host/Io that is still to be run, where the call found all.
abbrev pub ComesTo : ℕ → List (List ℕ) → Place → Place → StaticCall → Context → List ℕ → Memory × EffectOfNames → List ℕ → Type 0
ComesTo next texts before after (calls.Has effect) c addresses done below = Did texts after effect c addresses done below
ComesTo next texts before after calls.ClassName c addresses done below = RunsOnTwo class_name next texts before c addresses done below
ComesTo next texts before after calls.ArrayLike c addresses done below = RunsOnTwo array_like next texts before c addresses done below

-- A method that is still to be run has changed nothing, as an effect that doesn't go on has.
abbrev pub IsUnmovedBy : StaticCall → Place → Place → Type 0
IsUnmovedBy (calls.Has effect) before after = IsUnmoved effect before after
IsUnmovedBy _ before after = after ≡ before

pub record CanCallStatic (index next : ℕ) (k : Known) (states : List ClassState) (at : Registers) (words : List ℕ) (held : Held)
    : Type 0 where
  pub blocks : Blocks
  pub texts : List (List ℕ)
  pub c : Context
  pub addresses : List ℕ
  pub done : Memory × EffectOfNames
  pub below : List ℕ
  pub calls : CallingStatic index next k states (place at words held blocks) texts c addresses done below
  pub room : HasRoom c below (length words) done

abbrev pub CallsStatic : ℕ → ℕ → Known → List ClassState → Registers → List ℕ → Held → Registers → List ℕ → Held → StaticCall → Type 0
CallsStatic index next k states at words held at_after words_after held_after comes =
    (blocks : Blocks) (texts : List (List ℕ)) (c : Context) (addresses : List ℕ) (done : Memory × EffectOfNames) (below : List ℕ)
    → CallingStatic index next k states (place at words held blocks) texts c addresses done below
    → ComesTo next texts (place at words held blocks) (place at_after words_after held_after blocks) comes c addresses done below
