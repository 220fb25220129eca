-- What is executed on words, on what is held and on the store (JVMS 2.11, 6.5): where the machine meets no fault, what it does stands
-- afterwards.
use Rattle.std.specs.Prelude.{◌≡◌, ℕ, ◌+◌, ◌≤◌, ⊤, List, ◌++◌, Ok, length}
use Rattle.jv_meaning_machine.specs.Values.{words_of_values}
use Rattle.jv_meaning_machine.specs.State.{Memory}
use Rattle.jv_meaning_machine.specs.Effects.{Effect as EffectOfNames, Context, Outcome}
use Rattle.jv_meaning_machine.specs.Effects.Effect.{Goes}
use Rattle.jv_interp_words.specs.declared.registers.Registers.{Registers}
use Rattle.jv_interp_words.specs.FramesInWords.{in_use, FrameStands}
use Rattle.jv_interp_heap.specs.ObjectsInBlocks.{Blocks}
use Rattle.jv_interp_held.specs.declared.held.Held.{Held}
use Rattle.jv_interp_held.specs.declared.effect.Effect.{Effect}
use Rattle.jv_interp_held.specs.declared.effect.Effect.TheVariants as effects
use Rattle.jv_interp_held.specs.HeldInWords.{MemoryStands}
use Rattle.jv_interp_held.specs.EffectsInWords.{OutcomeStands}

-- What words, registers, what is held and the store's blocks are, while a method runs.
pub record Place : Type 0 where
  pub at : Registers
  pub words : List ℕ
  pub held : Held
  pub blocks : Blocks

abbrev pub place : Registers → List ℕ → Held → Blocks → Place
place at words held blocks = record { at = at; words = words; held = held; blocks = blocks }

-- An instruction that doesn't go on has changed nothing (own): what its effect asks for comes after it, and the host may lack memory for
-- that.
abbrev pub IsUnmoved : Effect → Place → Place → Type 0
IsUnmoved effects.Goes before after = ⊤
IsUnmoved _ before after = after ≡ before

-- A part of the machine is executed in a frame that stands in words, on others, over a memory that stands: what it does, where the
-- registers tell its offset and the place of the frame's words, and the next instruction's offset is known.
pub record Executes (part : Context → Outcome) (texts : List (List ℕ)) (next : ℕ) (here : Place) (c : Context)
    (addresses : List ℕ) (done : Memory × EffectOfNames) (below : List ℕ) : Type 0 where
  pub does : part c ≡ Ok done
  pub frame : FrameStands addresses c.frame.locals c.frame.stack (in_use here.words here.at.top) below
  pub memory : MemoryStands c.program.world texts c.memory addresses here.held here.blocks
  pub base_is : here.at.base ≡ length below
  pub pc_is : here.at.pc ≡ c.frame.offset
  pub next_is : next ≡ c.next
  pub top_within : here.at.top ≤ length here.words

-- What it leaves on the stack has room.
abbrev pub HasRoom : Context → List ℕ → ℕ → Memory × EffectOfNames → Type 0
HasRoom c below size (memory, Goes offset locals stack) = length below + length c.frame.locals + words_of_values stack ≤ size
HasRoom c below size _ = ⊤

-- What it did stands, with the addresses of new objects behind the others.
pub record Did (texts : List (List ℕ)) (here : Place) (effect : Effect) (c : Context) (addresses : List ℕ)
    (done : Memory × EffectOfNames) (below : List ℕ) : Type 0 where
  pub more : List ℕ
  pub effect_stands :
      OutcomeStands c.program.world (addresses ++ more) c.frame done effect here.at (in_use here.words here.at.top) below
  pub memory : MemoryStands c.program.world texts done.0 (addresses ++ more) here.held here.blocks
