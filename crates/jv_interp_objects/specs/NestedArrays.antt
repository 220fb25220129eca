-- Arrays of arrays in words (JVMS 6.5, multianewarray), once the type is known: every count is tested for a negative one first, and all
-- arrays are paid at once.
use Rattle.std.specs.Prelude.{◌≡◌, ℕ, zero, suc, ◌+◌, ◌<◌, ◌≤◌, ⊤, Bool, nat_lt, List, [], ◌∷◌, Option, Some, None, replicate}
use Rattle.jv_text.specs.declared.descriptor.FieldTypeOf.{FieldTypeOf}
use Rattle.jv_text.specs.Descriptor.{field_slots}
use Rattle.jv_stackmap.specs.Types.{value_type, width, component}
use Rattle.jv_stackmap.specs.declared.verification.VerificationTypeOf.TheVariants as types
use Rattle.jv_meaning_machine.specs.Faults.{◌>>=◌}
use Rattle.jv_meaning_machine.specs.State.{Memory}
use Rattle.jv_meaning_machine.specs.Operands.{taken}
use Rattle.jv_meaning_machine.specs.Effects.{Effect as EffectOfNames, Context, Outcome}
use Rattle.jv_meaning_machine.specs.Arrays.{make_arrays}
use Rattle.jv_interp_words.specs.declared.registers.Registers.{Registers}
use Rattle.jv_interp_heap.specs.ObjectsInBlocks.{Blocks, IsArrayWord}
use Rattle.jv_interp_held.specs.declared.held.Held.{Held}
use Rattle.jv_interp_held.specs.declared.effect.Effect.{Effect}
use Rattle.jv_interp_held.specs.Executing.{Place, place, Executes}
use Rattle.jv_interp_held.specs.Growing.{DidIn}
use Rattle.jv_interp_heap.specs.SystemNumbers.{IsGuestsWorld}
use Rattle.jv_interp_objects.specs.Payments.{IsLacking}
use Rattle.jv_interp_objects.specs.NestedBlocks.{nested_cost, NestedJoin}

-- counts that are not negative
abbrev pub AreCounts : List ℕ → Type 0
AreCounts [] = ⊤
AreCounts (count ∷ more) = (count < 2147483648) × AreCounts more

-- words of 32 bits
abbrev pub AreWords : List ℕ → Type 0
AreWords [] = ⊤
AreWords (word ∷ more) = (word < 4294967296) × AreWords more

abbrev pub is_negative_word : ℕ → Bool
is_negative_word word = nat_lt 2147483647 word

-- ---- arrays of arrays that are paid

pub record NestedPaid (slots : ℕ) (counts : List ℕ) (word cells cells_after : ℕ) (before after : Blocks) (address : ℕ) : Type 0 where
  pub paid : cells_after + nested_cost slots counts ≡ cells
  pub joins : NestedJoin slots counts word before after address

abbrev pub PaysNested : ℕ → List ℕ → ℕ → ℕ → ℕ → Blocks → Blocks → Option ℕ → Type 0
PaysNested slots counts word cells cells_after before after None =
    IsLacking (nested_cost slots counts) cells cells_after before after
PaysNested slots counts word cells cells_after before after (Some address) =
    NestedPaid slots counts word cells cells_after before after address

-- ---- what the machine makes

-- what is left of `multianewarray`: so many counts are taken, and arrays are made whose outer one has components of a type
abbrev pub arrays_of : ℕ → FieldTypeOf (List ℕ) → Context → Outcome
arrays_of dimensions components c =
    taken c.memory.objects (replicate dimensions types.Int) c.frame.stack >>= λ counts. make_arrays c components counts.0 counts.1

-- Components of a type have dimensions for so many arrays in one another, and those of the innermost have so many words and cost as many
-- cells.
abbrev pub HoldsArrays : ℕ → ℕ → FieldTypeOf (List ℕ) → Type 0
HoldsArrays slots zero components = ⊥
HoldsArrays slots (suc zero) components = (width (value_type components) ≡ slots) × (field_slots components ≡ slots)
HoldsArrays slots (suc more) components = (1 ≤ components.dimensions) × HoldsArrays slots more (component components)

-- The machine makes arrays of arrays: the first word of the outer one tells the type of its components.
pub record MakingArrays (word slots dimensions next : ℕ) (here : Place) (texts : List (List ℕ)) (c : Context)
    (components : FieldTypeOf (List ℕ)) (addresses : List ℕ) (done : Memory × EffectOfNames) (below : List ℕ) : Type 0 where
  pub executes : Executes (arrays_of dimensions components) texts next here c addresses done below
  pub type : IsArrayWord c.program.world components word
  pub holds : HoldsArrays slots dimensions components
  pub guests : IsGuestsWorld c.program.world

pub record CanMakeArrays (word slots dimensions next : ℕ) (at : Registers) (words : List ℕ) (held : Held) (blocks : Blocks) : Type 0 where
  pub texts : List (List ℕ)
  pub c : Context
  pub components : FieldTypeOf (List ℕ)
  pub addresses : List ℕ
  pub done : Memory × EffectOfNames
  pub below : List ℕ
  pub makes : MakingArrays word slots dimensions next (place at words held blocks) texts c components addresses done below

abbrev pub MakesArrays : ℕ → ℕ → ℕ → ℕ → Registers → List ℕ → Held → Blocks → Registers → List ℕ → Held → Blocks → Effect → Type 0
MakesArrays word slots dimensions next at words held blocks at_after words_after held_after blocks_after effect =
    (texts : List (List ℕ)) (c : Context) (components : FieldTypeOf (List ℕ)) (addresses : List ℕ) (done : Memory × EffectOfNames)
    (below : List ℕ)
    → MakingArrays word slots dimensions next (place at words held blocks) texts c components addresses done below
    → DidIn blocks texts (place at_after words_after held_after blocks_after) effect c addresses done below
