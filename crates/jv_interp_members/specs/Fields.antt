-- Fields of objects in words (JVMS 6.5, getfield and putfield), once it is known which field an instruction names.
use Rattle.std.specs.Prelude.{◌≡◌, ℕ, List, Some, length}
use Rattle.jv_text.specs.declared.descriptor.FieldTypeOf.{FieldTypeOf}
use Rattle.jv_text.specs.Types.{field_type_of}
use Rattle.jv_pool.specs.Constants.{MemberReference}
use Rattle.jv_meaning_world.specs.LookUps.{DeclaredField}
use Rattle.jv_meaning_typing.specs.Layout.{field_words}
use Rattle.jv_meaning_machine.specs.State.{Memory}
use Rattle.jv_meaning_machine.specs.Effects.{Effect as EffectOfNames, Context}
use Rattle.jv_meaning_machine.specs.Fields.{get_field, put_field}
use Rattle.jv_interp_words.specs.declared.registers.Registers.{Registers}
use Rattle.jv_interp_heap.specs.ObjectsInBlocks.{Blocks, BeginsAt, AreLoadable}
use Rattle.jv_interp_heap.specs.declared.narrowing.Narrowing.{Narrowing}
use Rattle.jv_interp_heap.specs.Narrowing.{narrowing_of}
use Rattle.jv_interp_held.specs.declared.held.Held.{Held}
use Rattle.jv_interp_held.specs.declared.effect.Effect.{Effect}
use Rattle.jv_interp_held.specs.Executing.{Place, place, Executes, HasRoom, Did}
use Rattle.jv_interp_held.specs.Growing.{DidIn}
use Rattle.jv_interp_heap.specs.SystemNumbers.{IsGuestsWorld}

-- The machine gets the value of a field, whose values begin at this word of an object's fields and have so many words.
pub record GettingField (word width : ℕ) (next : ℕ) (here : Place) (texts : List (List ℕ)) (c : Context) (d : DeclaredField)
    (addresses : List ℕ) (done : Memory × EffectOfNames) (below : List ℕ) : Type 0 where
  pub executes : Executes (λ c. get_field c d) texts next here c addresses done below
  pub begins : BeginsAt c.program.world d word
  pub loadable : AreLoadable c.program.world c.memory.objects
  pub width_is : field_words d ≡ width
  pub guests : IsGuestsWorld c.program.world

pub record CanGetField (word width : ℕ) (next : ℕ) (at : Registers) (words : List ℕ) (held : Held) (blocks : Blocks) : Type 0 where
  pub texts : List (List ℕ)
  pub c : Context
  pub d : DeclaredField
  pub addresses : List ℕ
  pub done : Memory × EffectOfNames
  pub below : List ℕ
  pub gets : GettingField word width next (place at words held blocks) texts c d addresses done below
  pub room : HasRoom c below (length words) done

abbrev pub GetsField : ℕ → ℕ → ℕ → Registers → List ℕ → Held → Blocks → Registers → List ℕ → Effect → Type 0
GetsField word width next at words held blocks at_after words_after effect =
    (texts : List (List ℕ)) (c : Context) (d : DeclaredField) (addresses : List ℕ) (done : Memory × EffectOfNames) (below : List ℕ)
    → GettingField word width next (place at words held blocks) texts c d addresses done below
    → Did texts (place at_after words_after held blocks) effect c addresses done below

-- ---- putfield

-- The machine puts a value into a field, whose values begin at this word of an object's fields, have so many words and are narrowed so.
pub record PuttingField (word width : ℕ) (how : Narrowing) (next : ℕ) (here : Place) (texts : List (List ℕ)) (c : Context)
    (reference : MemberReference) (d : DeclaredField) (addresses : List ℕ) (done : Memory × EffectOfNames) (below : List ℕ) : Type 0 where
  pub executes : Executes (λ c. put_field c reference d) texts next here c addresses done below
  pub begins : BeginsAt c.program.world d word
  pub loadable : AreLoadable c.program.world c.memory.objects
  pub width_is : field_words d ≡ width
  pub narrows : (type : FieldTypeOf (List ℕ)) → field_type_of d.field.descriptor ≡ Some type → narrowing_of type ≡ how
  pub guests : IsGuestsWorld c.program.world

pub record CanPutField (word width : ℕ) (how : Narrowing) (next : ℕ) (at : Registers) (words : List ℕ) (held : Held)
    (blocks : Blocks) : Type 0 where
  pub texts : List (List ℕ)
  pub c : Context
  pub reference : MemberReference
  pub d : DeclaredField
  pub addresses : List ℕ
  pub done : Memory × EffectOfNames
  pub below : List ℕ
  pub puts : PuttingField word width how next (place at words held blocks) texts c reference d addresses done below

abbrev pub PutsField : ℕ → ℕ → Narrowing → ℕ → List ℕ → Held → Registers → Blocks → Registers → Blocks → Effect → Type 0
PutsField word width how next words held at blocks at_after blocks_after effect =
    (texts : List (List ℕ)) (c : Context) (reference : MemberReference) (d : DeclaredField) (addresses : List ℕ)
    (done : Memory × EffectOfNames) (below : List ℕ)
    → PuttingField word width how next (place at words held blocks) texts c reference d addresses done below
    → DidIn blocks texts (place at_after words held blocks_after) effect c addresses done below
