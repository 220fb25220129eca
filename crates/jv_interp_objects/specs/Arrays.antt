-- New arrays in words (JVMS 6.5, newarray and anewarray), once the type of their components is known: a negative length comes before
-- anything is paid.
use Rattle.std.specs.Prelude.{◌≡◌, ℕ, List}
use Rattle.jv_text.specs.declared.descriptor.FieldTypeOf.{FieldTypeOf}
use Rattle.jv_text.specs.Descriptor.{field_slots}
use Rattle.jv_stackmap.specs.Types.{value_type, width}
use Rattle.jv_stackmap.specs.declared.verification.VerificationTypeOf.TheVariants as types
use Rattle.jv_code.specs.declared.kinds.ElementType.{ElementType}
use Rattle.jv_code.specs.declared.insn.Insn.TheVariants as insns
use Rattle.jv_meaning_machine.specs.Faults.{◌>>=◌}
use Rattle.jv_meaning_machine.specs.State.{Memory}
use Rattle.jv_meaning_machine.specs.Operands.{taken_as}
use Rattle.jv_meaning_machine.specs.Effects.{Effect as EffectOfNames, Context, Outcome}
use Rattle.jv_meaning_machine.specs.Arithmetic.{as_int}
use Rattle.jv_meaning_machine.specs.Arrays.{make_array, base_of, base_components}
use Rattle.jv_meaning_machine.specs.Instructions.{execute}
use Rattle.jv_interp_words.specs.declared.registers.Registers.{Registers}
use Rattle.jv_interp_heap.specs.ObjectsInBlocks.{Blocks, IsArrayWord}
use Rattle.jv_interp_held.specs.declared.held.Held.{Held}
use Rattle.jv_interp_held.specs.declared.effect.Effect.{Effect}
use Rattle.jv_interp_held.specs.Executing.{Place, place, Executes}
use Rattle.jv_interp_held.specs.Growing.{DidIn}
use Rattle.jv_interp_heap.specs.SystemNumbers.{IsGuestsWorld}

-- what is left of `anewarray`: the count is taken, and an array is made
abbrev pub array_of : FieldTypeOf (List ℕ) → Context → Outcome
array_of components c =
    taken_as c.memory.objects types.Int c.frame.stack >>= λ top. as_int top.0 >>= λ count. make_array c components count top.1

-- The machine makes an array of components whose type a word tells. Each has so many words, and costs as many cells.
pub record MakingArray (word slots next : ℕ) (here : Place) (texts : List (List ℕ)) (c : Context)
    (components : FieldTypeOf (List ℕ)) (addresses : List ℕ) (done : Memory × EffectOfNames) (below : List ℕ) : Type 0 where
  pub executes : Executes (array_of components) texts next here c addresses done below
  pub type : IsArrayWord c.program.world components word
  pub slots_are : width (value_type components) ≡ slots
  pub cells_are : field_slots components ≡ slots
  pub guests : IsGuestsWorld c.program.world

pub record CanMakeArray (word slots next : ℕ) (at : Registers) (words : List ℕ) (held : Held) (blocks : Blocks) : Type 0 where
  pub texts : List (List ℕ)
  pub c : Context
  pub components : FieldTypeOf (List ℕ)
  pub addresses : List ℕ
  pub done : Memory × EffectOfNames
  pub below : List ℕ
  pub makes : MakingArray word slots next (place at words held blocks) texts c components addresses done below

abbrev pub MakesArray : ℕ → ℕ → ℕ → Registers → List ℕ → Held → Blocks → Registers → List ℕ → Held → Blocks → Effect → Type 0
MakesArray word slots next at words held blocks at_after words_after held_after blocks_after effect =
    (texts : List (List ℕ)) (c : Context) (components : FieldTypeOf (List ℕ)) (addresses : List ℕ) (done : Memory × EffectOfNames)
    (below : List ℕ)
    → MakingArray word slots next (place at words held blocks) texts c components addresses done below
    → DidIn blocks texts (place at_after words_after held_after blocks_after) effect c addresses done below

-- ---- newarray, whose components are of a base type

pub record MakingBaseArray (word slots next : ℕ) (here : Place) (texts : List (List ℕ)) (c : Context) (element : ElementType)
    (addresses : List ℕ) (done : Memory × EffectOfNames) (below : List ℕ) : Type 0 where
  pub executes : Executes (λ c. execute c (insns.NewArray element)) texts next here c addresses done below
  pub type : IsArrayWord c.program.world (base_components (base_of element)) word
  pub slots_are : width (value_type (base_components (base_of element))) ≡ slots
  pub guests : IsGuestsWorld c.program.world

pub record CanMakeBaseArray (word slots next : ℕ) (at : Registers) (words : List ℕ) (held : Held) (blocks : Blocks) : Type 0 where
  pub texts : List (List ℕ)
  pub c : Context
  pub element : ElementType
  pub addresses : List ℕ
  pub done : Memory × EffectOfNames
  pub below : List ℕ
  pub makes : MakingBaseArray word slots next (place at words held blocks) texts c element addresses done below

abbrev pub MakesBaseArray : ℕ → ℕ → ℕ → Registers → List ℕ → Held → Blocks → Registers → List ℕ → Held → Blocks → Effect → Type 0
MakesBaseArray word slots next at words held blocks at_after words_after held_after blocks_after effect =
    (texts : List (List ℕ)) (c : Context) (element : ElementType) (addresses : List ℕ) (done : Memory × EffectOfNames) (below : List ℕ)
    → MakingBaseArray word slots next (place at words held blocks) texts c element addresses done below
    → DidIn blocks texts (place at_after words_after held_after blocks_after) effect c addresses done below
