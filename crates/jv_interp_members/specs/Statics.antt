-- Static fields in words (JVMS 6.5, getstatic and putstatic), once it is known which field an instruction names and its class is
-- initialized or being initialized.
use Rattle.std.specs.Prelude.{◌≡◌, ℕ, List, Some, length}
use Rattle.jv_text.specs.declared.descriptor.FieldTypeOf.{FieldTypeOf}
use Rattle.jv_text.specs.Types.{field_type_of}
use Rattle.jv_meaning_world.specs.World.{World}
use Rattle.jv_meaning_world.specs.LookUps.{DeclaredField}
use Rattle.jv_meaning_typing.specs.Layout.{field_words}
use Rattle.jv_meaning_machine.specs.Objects.{key_of}
use Rattle.jv_meaning_machine.specs.State.{Memory}
use Rattle.jv_meaning_machine.specs.Effects.{Effect as EffectOfNames, Context}
use Rattle.jv_meaning_machine.specs.Fields.{get_static, put_static}
use Rattle.jv_interp_words.specs.declared.registers.Registers.{Registers}
use Rattle.jv_interp_heap.specs.declared.narrowing.Narrowing.{Narrowing}
use Rattle.jv_interp_heap.specs.Narrowing.{narrowing_of}
use Rattle.jv_interp_heap.specs.ObjectsInBlocks.{Blocks, place_among}
use Rattle.jv_interp_held.specs.declared.held.Held.{Held}
use Rattle.jv_interp_held.specs.declared.effect.Effect.{Effect}
use Rattle.jv_interp_held.specs.HeldInWords.{static_fields}
use Rattle.jv_interp_held.specs.Executing.{Place, place, Executes, HasRoom, Did}

-- the value of a static field stands at a word of all of them, and has so many words
pub record StandsAtWord (world : World) (d : DeclaredField) (word width : ℕ) : Type 0 where
  pub begins : place_among (key_of d) (static_fields world) ≡ Some word
  pub width_is : field_words d ≡ width

-- ---- getstatic

pub record GettingStatic (word width next : ℕ) (here : Place) (texts : List (List ℕ)) (c : Context) (d : DeclaredField)
    (addresses : List ℕ) (done : Memory × EffectOfNames) (below : List ℕ) : Type 0 where
  pub executes : Executes (λ c. get_static c d) texts next here c addresses done below
  pub stands : StandsAtWord c.program.world d word width

pub record CanGetStatic (word width next : ℕ) (at : Registers) (words : List ℕ) (held : Held) : Type 0 where
  pub blocks : Blocks
  pub texts : List (List ℕ)
  pub c : Context
  pub d : DeclaredField
  pub addresses : List ℕ
  pub done : Memory × EffectOfNames
  pub below : List ℕ
  pub gets : GettingStatic word width next (place at words held blocks) texts c d addresses done below
  pub room : HasRoom c below (length words) done

abbrev pub GetsStatic : ℕ → ℕ → ℕ → Registers → List ℕ → Held → Registers → List ℕ → Effect → Type 0
GetsStatic word width next at words held at_after words_after effect =
    (blocks : Blocks) (texts : List (List ℕ)) (c : Context) (d : DeclaredField) (addresses : List ℕ) (done : Memory × EffectOfNames)
    (below : List ℕ)
    → GettingStatic word width next (place at words held blocks) texts c d addresses done below
    → Did texts (place at_after words_after held blocks) effect c addresses done below

-- ---- putstatic

pub record PuttingStatic (word width : ℕ) (how : Narrowing) (next : ℕ) (here : Place) (texts : List (List ℕ)) (c : Context)
    (d : DeclaredField) (addresses : List ℕ) (done : Memory × EffectOfNames) (below : List ℕ) : Type 0 where
  pub executes : Executes (λ c. put_static c d) texts next here c addresses done below
  pub stands : StandsAtWord c.program.world d word width
  pub narrows : (type : FieldTypeOf (List ℕ)) → field_type_of d.field.descriptor ≡ Some type → narrowing_of type ≡ how

pub record CanPutStatic (word width : ℕ) (how : Narrowing) (next : ℕ) (at : Registers) (words : List ℕ) (held : Held) : Type 0 where
  pub blocks : Blocks
  pub texts : List (List ℕ)
  pub c : Context
  pub d : DeclaredField
  pub addresses : List ℕ
  pub done : Memory × EffectOfNames
  pub below : List ℕ
  pub puts : PuttingStatic word width how next (place at words held blocks) texts c d addresses done below

abbrev pub PutsStatic : ℕ → ℕ → Narrowing → ℕ → List ℕ → Registers → Held → Registers → Held → Effect → Type 0
PutsStatic word width how next words at held at_after held_after effect =
    (blocks : Blocks) (texts : List (List ℕ)) (c : Context) (d : DeclaredField) (addresses : List ℕ) (done : Memory × EffectOfNames)
    (below : List ℕ)
    → PuttingStatic word width how next (place at words held blocks) texts c d addresses done below
    → Did texts (place at_after words held_after blocks) effect c addresses done below
