-- Stores of numbers into arrays in words (JVMS 6.5, iastore and its kin): what is stored is narrowed to what the components hold.
use Rattle.std.specs.Prelude.{◌≡◌, ℕ, ◌-◌, true, List, slice_index}
use Rattle.jv_text.specs.declared.descriptor.FieldTypeOf.{FieldTypeOf}
use Rattle.jv_stackmap.specs.Types.{width}
use Rattle.jv_code.specs.declared.kinds.NumberElement.{NumberElement}
use Rattle.jv_code.specs.declared.kinds.NumberElement.TheVariants as numbers
use Rattle.jv_store.specs.Content.{words_at}
use Rattle.jv_meaning_world.specs.World.{World}
use Rattle.jv_meaning_typing.specs.NumberRules.{element_number}
use Rattle.jv_meaning_machine.specs.State.{Memory}
use Rattle.jv_meaning_machine.specs.Effects.{Effect as EffectOfNames, Context}
use Rattle.jv_meaning_machine.specs.Arrays.{holds_numbers, store_component}
use Rattle.jv_interp_words.specs.declared.registers.Registers.{Registers}
use Rattle.jv_interp_heap.specs.ObjectsInBlocks.{Blocks, IsArrayWord}
use Rattle.jv_interp_heap.specs.declared.narrowing.Narrowing.{Narrowing}
use Rattle.jv_interp_heap.specs.Narrowing.{narrowing_of}
use Rattle.jv_interp_held.specs.declared.held.Held.{Held}
use Rattle.jv_interp_held.specs.declared.effect.Effect.{Effect}
use Rattle.jv_interp_held.specs.Executing.{Place, place, Executes}
use Rattle.jv_interp_held.specs.Growing.{DidIn}
use Rattle.jv_interp_heap.specs.SystemNumbers.{IsGuestsWorld}

-- The machine stores a number of a kind, of so many words, into an array.
pub record Storing (slots next : ℕ) (here : Place) (texts : List (List ℕ)) (c : Context) (kind : NumberElement)
    (addresses : List ℕ) (done : Memory × EffectOfNames) (below : List ℕ) : Type 0 where
  pub executes : Executes (λ c. store_component c kind) texts next here c addresses done below
  pub slots_are : width (element_number kind) ≡ slots
  pub guests : IsGuestsWorld c.program.world

-- An array with this first word, that holds numbers of the kind, narrows them so.
abbrev pub NarrowsBy : Narrowing → NumberElement → World → ℕ → Type 0
NarrowsBy how kind world word =
    (type : FieldTypeOf (List ℕ)) → IsArrayWord world type word → holds_numbers kind type ≡ true → narrowing_of type ≡ how

-- the address of the array that is below an index and a value of so many words, and the array's first word
abbrev pub array_address : ℕ → Registers → List ℕ → ℕ
array_address slots at words = slice_index words (at.top - slots - 2)

abbrev pub array_word : ℕ → Registers → List ℕ → Blocks → ℕ
array_word slots at words blocks = slice_index (words_at blocks (array_address slots at words)) 0

-- ---- a number that is narrowed so, by its kind or by the array

pub record CanStore (slots : ℕ) (how : Narrowing) (next : ℕ) (at : Registers) (words : List ℕ) (held : Held) (blocks : Blocks)
    : Type 0 where
  pub texts : List (List ℕ)
  pub c : Context
  pub kind : NumberElement
  pub addresses : List ℕ
  pub done : Memory × EffectOfNames
  pub below : List ℕ
  pub stores : Storing slots next (place at words held blocks) texts c kind addresses done below
  pub narrows : NarrowsBy how kind c.program.world (array_word slots at words blocks)

abbrev pub Stores : ℕ → Narrowing → ℕ → List ℕ → Held → Registers → Blocks → Registers → Blocks → Effect → Type 0
Stores slots how next words held at blocks at_after blocks_after effect =
    (texts : List (List ℕ)) (c : Context) (kind : NumberElement) (addresses : List ℕ) (done : Memory × EffectOfNames) (below : List ℕ)
    → Storing slots next (place at words held blocks) texts c kind addresses done below
    → NarrowsBy how kind c.program.world (array_word slots at words blocks)
    → DidIn blocks texts (place at_after words held blocks_after) effect c addresses done below

-- ---- bastore, of bytes or of booleans: which of both, the array tells

pub record CanStoreByte (next : ℕ) (at : Registers) (words : List ℕ) (held : Held) (blocks : Blocks) : Type 0 where
  pub texts : List (List ℕ)
  pub c : Context
  pub addresses : List ℕ
  pub done : Memory × EffectOfNames
  pub below : List ℕ
  pub stores : Storing 1 next (place at words held blocks) texts c numbers.ByteOrBoolean addresses done below

abbrev pub StoresByte : ℕ → List ℕ → Held → Registers → Blocks → Registers → Blocks → Effect → Type 0
StoresByte next words held at blocks at_after blocks_after effect =
    (texts : List (List ℕ)) (c : Context) (addresses : List ℕ) (done : Memory × EffectOfNames) (below : List ℕ)
    → Storing 1 next (place at words held blocks) texts c numbers.ByteOrBoolean addresses done below
    → DidIn blocks texts (place at_after words held blocks_after) effect c addresses done below

-- how such an array narrows, by its first word
abbrev pub NarrowsByte : ℕ → Narrowing → Type 0
NarrowsByte word how = (world : World) → NarrowsBy how numbers.ByteOrBoolean world word
