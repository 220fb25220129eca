-- Instructions that are executed in a guest whose classes are known (JVMS 2.11, 6.5): where the machine meets no fault, what it does stands
-- afterwards, and the blocks of other guests stand as they did.
use Rattle.std.specs.Prelude.{◌≡◌, ◌≤◌, ℕ, ⊤, IsTrue, List, length}
use Rattle.jv_code.specs.Insns.{Instruction}
use Rattle.jv_code.specs.Switches.{pairs_in, keys_rise}
use Rattle.jv_code.specs.declared.insn.Insn.TheVariants as insns
use Rattle.jv_meaning_machine.specs.Alone.{AreUnits}
use Rattle.jv_meaning_machine.specs.State.{Memory}
use Rattle.jv_meaning_machine.specs.Effects.{Effect as EffectOfNames, Context}
use Rattle.jv_interp_words.specs.declared.registers.Registers.{Registers}
use Rattle.jv_interp_heap.specs.ObjectsInBlocks.{Blocks, AreLoadable}
use Rattle.jv_interp_held.specs.declared.class_state.ClassState.{ClassState}
use Rattle.jv_interp_held.specs.ClassStates.{AreClassStates}
use Rattle.jv_interp_held.specs.declared.held.Held.{Held}
use Rattle.jv_interp_held.specs.declared.effect.Effect.{Effect}
use Rattle.jv_interp_held.specs.Executing.{Place, place, Executes, HasRoom}
use Rattle.jv_interp_held.specs.Growing.{DidIn}
use Rattle.jv_interp_members.specs.Known.{Known, IsKnown}
use Rattle.jv_interp_instructions.specs.OnWords.{part_of}

-- An instruction is executed in a frame that stands in words, at a method that is known.
pub record ExecutesIn (insn : Instruction) (next : ℕ) (k : Known) (texts : List (List ℕ)) (here : Place) (c : Context)
    (addresses : List ℕ) (done : Memory × EffectOfNames) (below : List ℕ) : Type 0 where
  pub executes : Executes (part_of insn) texts next here c addresses done below
  pub known : IsKnown k c
  pub loadable : AreLoadable k.world c.memory.objects
  pub units : AreUnits c.program.units

-- There is such a frame, and what the instruction leaves on its stack has room.
pub record CanExecute (insn : Instruction) (next : ℕ) (k : Known) (texts : List (List ℕ)) (at : Registers) (words : List ℕ)
    (held : Held) (blocks : Blocks) : Type 0 where
  pub c : Context
  pub addresses : List ℕ
  pub done : Memory × EffectOfNames
  pub below : List ℕ
  pub executes : ExecutesIn insn next k texts (place at words held blocks) c addresses done below
  pub room : HasRoom c below (length words) done

-- For each such frame it was executed, with this effect.
abbrev pub Executed : Instruction → ℕ → Known → List (List ℕ) → Place → Place → Effect → Type 0
Executed insn next k texts before after effect =
    (c : Context) (addresses : List ℕ) (done : Memory × EffectOfNames) (below : List ℕ)
    → ExecutesIn insn next k texts before c addresses done below → DidIn before.blocks texts after effect c addresses done below

-- ---- where it is known how far the initialization of each class is

pub record CanExecuteAt (states : List ClassState) (insn : Instruction) (next : ℕ) (k : Known) (texts : List (List ℕ))
    (at : Registers) (words : List ℕ) (held : Held) (blocks : Blocks) : Type 0 where
  pub can : CanExecute insn next k texts at words held blocks
  pub states_are : AreClassStates k.world can.c.states states

abbrev pub ExecutedAt : List ClassState → Instruction → ℕ → Known → List (List ℕ) → Place → Place → Effect → Type 0
ExecutedAt states insn next k texts before after effect =
    (c : Context) (addresses : List ℕ) (done : Memory × EffectOfNames) (below : List ℕ)
    → ExecutesIn insn next k texts before c addresses done below → AreClassStates k.world c.states states
    → DidIn before.blocks texts after effect c addresses done below

-- ---- what code keeps (JVMS 4.9.1, 6.5): the keys of a lookupswitch rise, and multianewarray has a dimension

abbrev pub KeepsCodeRules : Instruction → Type 0
KeepsCodeRules (insns.LookupSwitch padding default pairs) = IsTrue (keys_rise (pairs_in pairs))
KeepsCodeRules (insns.NewMultiArray index dimensions) = 1 ≤ dimensions
KeepsCodeRules _ = ⊤
