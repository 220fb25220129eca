-- How the objects of a guest stand in the blocks of a store (JVMS 2.4, 2.7): each in a block of its own, under an address of its own.
-- A block's first word tells the object's class, or what the components of an array are; an array's second one is its length. Behind
-- stand the values of the fields, or the components, one behind the other. Whether an object is constructed is told by no word.
use Rattle.std.specs.Prelude.{◌≡◌, ℕ, ◌+◌, ◌*◌, ◌<◌, ◌≤◌, List, [], ◌∷◌, ◌++◌, length, Option, Some, None, IsTrue, slice_get, if◌then◌else◌}
use Rattle.std.specs.Option.{option_map}
use Rattle.std.specs.Int.{w32, cast_signed}
use Rattle.jv_store.specs.Content.{words_at, greatest}
use Rattle.jv_text.specs.declared.descriptor.Base.{Base}
use Rattle.jv_text.specs.declared.descriptor.Base.TheVariants as bases
use Rattle.jv_text.specs.declared.descriptor.Element.{Element}
use Rattle.jv_text.specs.declared.descriptor.Element.TheVariants as elements
use Rattle.jv_text.specs.declared.descriptor.FieldTypeOf.{FieldTypeOf}
use Rattle.jv_stackmap.specs.Types.{value_type, width}
use Rattle.jv_meaning_world.specs.World.{Loaded, World, class_named}
use Rattle.jv_meaning_world.specs.LookUps.{DeclaredField}
use Rattle.jv_meaning_world.specs.Verdicts.{is_loadable}
use Rattle.jv_meaning_typing.specs.Layout.{instance_fields, field_words}
use Rattle.jv_meaning_machine.specs.Values.{Value, value_words}
use Rattle.jv_meaning_machine.specs.Values.Value.{Int, Long, Null, Reference, Half, Unset}
use Rattle.jv_meaning_machine.specs.Objects.{FieldKey, key_of, same_key, Content, Object, Instance}
use Rattle.jv_meaning_machine.specs.Objects.Object.{InstanceOf, ArrayWith}
use Rattle.jv_interp_words.specs.ValuesInWords.{long_of, AreAddresses}

-- the blocks of a store, each under its address
abbrev pub Blocks : Type 0
Blocks = List (ℕ × List ℕ)

-- ---- values, one behind the other

-- a value stands in words of its own, a long's lower half first
abbrev pub IsIn : List ℕ → Value → List ℕ → Type 0
IsIn addresses (Int value) words = (word : ℕ) × (words ≡ word ∷ []) × (value ≡ cast_signed w32 word)
IsIn addresses (Long value) words = (low : ℕ) × (high : ℕ) × (words ≡ low ∷ high ∷ []) × (value ≡ long_of low high)
IsIn addresses Null words = words ≡ 0 ∷ []
IsIn addresses (Reference id) words = (address : ℕ) × (words ≡ address ∷ []) × (slice_get addresses id ≡ Some address)
IsIn addresses Half words = ⊥
IsIn addresses Unset words = ⊥

-- what fields hold, each in as many words as its field has
abbrev pub AreFields : List ℕ → List DeclaredField → Content → List ℕ → Type 0
AreFields addresses [] [] words = words ≡ []
AreFields addresses (d ∷ fields) (entry ∷ content) words =
    (own : List ℕ) × (rest : List ℕ) × (words ≡ own ++ rest) × (entry.0 ≡ key_of d) × (value_words entry.1 ≡ field_words d)
    × IsIn addresses entry.1 own × AreFields addresses fields content rest
AreFields addresses _ _ words = ⊥

-- the components of an array, each in as many words as one of its type has
abbrev pub AreComponents : List ℕ → FieldTypeOf (List ℕ) → List Value → List ℕ → Type 0
AreComponents addresses type [] words = words ≡ []
AreComponents addresses type (value ∷ more) words =
    (own : List ℕ) × (rest : List ℕ) × (words ≡ own ++ rest) × (value_words value ≡ width (value_type type))
    × IsIn addresses value own × AreComponents addresses type more rest

-- the place of a field among others: how many words those before it have
abbrev pub place_among : FieldKey → List DeclaredField → Option ℕ
place_among key [] = None
place_among key (d ∷ fields) = if same_key key (key_of d) then Some 0 else option_map (λ n. field_words d + n) (place_among key fields)

-- The values of a field begin at a word of the objects that have it, whatever their class, which is one that can be loaded (5.3.5).
abbrev pub BeginsAt : World → DeclaredField → ℕ → Type 0
BeginsAt world d word =
    (name : List ℕ) (l : Loaded) (place : ℕ) → class_named world name ≡ Some l → IsTrue (is_loadable world l)
    → place_among (key_of d) (instance_fields world l) ≡ Some place → place ≡ word

-- Each object is of a class that can be loaded: only such a class is resolved, and the machine makes objects of no others.
abbrev pub AreLoadable : World → List Object → Type 0
AreLoadable world objects =
    (id : ℕ) (instance : Instance) (l : Loaded) → slice_get objects id ≡ Some (InstanceOf instance)
    → class_named world instance.class ≡ Some l
    → IsTrue (is_loadable world l)

-- ---- the first word of a block

-- a class's number is its place in the world
pub record HasNumber (world : World) (name : List ℕ) (number : ℕ) : Type 0 where
  pub l : Loaded
  pub named : class_named world name ≡ Some l
  pub at : slice_get world number ≡ Some l

abbrev pub base_number : Base → ℕ
base_number bases.Byte = 0
base_number bases.Char = 1
base_number bases.Double = 2
base_number bases.Float = 3
base_number bases.Int = 4
base_number bases.Long = 5
base_number bases.Short = 6
base_number bases.Boolean = 7

-- an element's: a base type's, or eight and its class's
abbrev pub IsElement : World → Element (List ℕ) → ℕ → Type 0
IsElement world (elements.Base base) number = number ≡ base_number base
IsElement world (elements.Class name) number = (class : ℕ) × HasNumber world name class × (number ≡ 8 + class)

-- An object's first word is the number of its class, which is below 2^31. An array's is 2^31 at least: how many dimensions its
-- components have, and their element.
pub record IsArrayWord (world : World) (components : FieldTypeOf (List ℕ)) (word : ℕ) : Type 0 where
  pub element : ℕ
  pub element_is : IsElement world components.element element
  pub few_elements : element < 65536
  pub few_dimensions : components.dimensions < 32768
  pub is : word ≡ 2147483648 + (components.dimensions * 65536 + element)

-- ---- objects

-- the fields of an object stand in their order, those of the highest superclass first
pub record InstanceStands (world : World) (addresses : List ℕ) (instance : Instance) (words : List ℕ) : Type 0 where
  pub number : ℕ
  pub class : HasNumber world instance.class number
  pub few : number < 2147483648
  pub fields : List ℕ
  pub words_are : words ≡ number ∷ fields
  pub stand : AreFields addresses (instance_fields world class.l) instance.fields fields

pub record ArrayStands (world : World) (addresses : List ℕ) (components : FieldTypeOf (List ℕ)) (values : List Value)
    (words : List ℕ) : Type 0 where
  pub word : ℕ
  pub type : IsArrayWord world components word
  pub few : length values < 2147483648
  pub inside : List ℕ
  pub words_are : words ≡ word ∷ length values ∷ inside
  pub stand : AreComponents addresses components values inside

abbrev pub ObjectStands : World → List ℕ → Object → List ℕ → Type 0
ObjectStands world addresses (InstanceOf instance) words = InstanceStands world addresses instance words
ObjectStands world addresses (ArrayWith components values) words = ArrayStands world addresses components values words

-- ---- all of them: the object with a number under the address with that number

pub record ObjectsStand (world : World) (objects : List Object) (addresses : List ℕ) (blocks : Blocks) : Type 0 where
  pub count : length addresses ≡ length objects
  pub are : AreAddresses addresses
  pub held : (id address : ℕ) → slice_get addresses id ≡ Some address → address ≤ greatest blocks
  pub each :
      (id address : ℕ) (object : Object) → slice_get addresses id ≡ Some address → slice_get objects id ≡ Some object
      → ObjectStands world addresses object (words_at blocks address)
