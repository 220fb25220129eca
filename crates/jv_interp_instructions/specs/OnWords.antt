-- Instructions that work on a frame's words alone (JVMS 6.5), as all instructions are executed: what the machine does where it meets no
-- fault stands afterwards, whatever is held and whatever stands in the store.
use Rattle.std.specs.Prelude.{◌≡◌, ℕ, Bool, true, false, List, Option, Some, None, ⊤, IsTrue}
use Rattle.jv_code.specs.Insns.{Instruction}
use Rattle.jv_code.specs.Switches.{pairs_in, keys_rise}
use Rattle.jv_code.specs.declared.insn.Insn.TheVariants as insns
use Rattle.jv_meaning_machine.specs.State.{Memory}
use Rattle.jv_meaning_machine.specs.Effects.{Effect as EffectOfNames, Context, Outcome}
use Rattle.jv_meaning_machine.specs.Instructions.{execute}
use Rattle.jv_interp_words.specs.declared.registers.Registers.{Registers}
use Rattle.jv_interp_heap.specs.ObjectsInBlocks.{Blocks}
use Rattle.jv_interp_held.specs.declared.held.Held.{Held}
use Rattle.jv_interp_held.specs.declared.effect.Effect.{Effect}
use Rattle.jv_interp_heap.specs.SystemNumbers.{IsGuestsWorld}
use Rattle.jv_interp_held.specs.Executing.{Place, place, Executes, Did}

abbrev pub part_of : Instruction → Context → Outcome
part_of insn c = execute c insn

-- It is executed in a guest, in a frame that stands in words.
pub record ExecutesInsn (insn : Instruction) (texts : List (List ℕ)) (next : ℕ) (here : Place) (c : Context) (addresses : List ℕ)
    (done : Memory × EffectOfNames) (below : List ℕ) : Type 0 where
  pub executes : Executes (part_of insn) texts next here c addresses done below
  pub guests : IsGuestsWorld c.program.world

-- So what it does stands, for each frame that stood there.
abbrev pub DoneOnWords : Instruction → ℕ → Registers → List ℕ → Registers → List ℕ → Effect → Type 0
DoneOnWords insn next at words at_after words_after effect =
    (texts : List (List ℕ)) (held : Held) (blocks : Blocks) (c : Context) (addresses : List ℕ) (done : Memory × EffectOfNames)
    (below : List ℕ)
    → ExecutesInsn insn texts next (place at words held blocks) c addresses done below
    → Did texts (place at_after words_after held blocks) effect c addresses done below

-- those that do
abbrev pub works_on_words : Instruction → Bool
works_on_words insns.Nop = true
works_on_words insns.NullConstant = true
works_on_words (insns.Compute what) = true
works_on_words (insns.Load kind index form) = true
works_on_words (insns.Store kind index form) = true
works_on_words (insns.StoreLong index form) = true
works_on_words (insns.Stack form) = true
works_on_words (insns.Division kind operator) = true
works_on_words (insns.Increment index by form) = true
works_on_words (insns.Branch test distance) = true
works_on_words (insns.Goto distance form) = true
works_on_words (insns.TableSwitch padding default low high distances) = true
works_on_words (insns.LookupSwitch padding default pairs) = true
works_on_words (insns.ReturnValue kind) = true
works_on_words insns.Return = true
works_on_words _ = false

-- It was one of these, and what it does stands; or it was another one, and nothing was done.
abbrev pub AnswersOnWords : Instruction → ℕ → Registers → List ℕ → Registers → List ℕ → Option Effect → Type 0
AnswersOnWords insn next at words at_after words_after (Some effect) =
    (works_on_words insn ≡ true) × DoneOnWords insn next at words at_after words_after effect
AnswersOnWords insn next at words at_after words_after None =
    (works_on_words insn ≡ false) × (at_after ≡ at) × (words_after ≡ words)

-- The keys of a lookupswitch rise, as they do in code (JVMS 4.9.1, 6.5).
abbrev pub KeysRise : Instruction → Type 0
KeysRise (insns.LookupSwitch padding default pairs) = IsTrue (keys_rise (pairs_in pairs))
KeysRise _ = ⊤
