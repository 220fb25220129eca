-- Constants that come to stand at the words of static fields (JVMS 4.7.2, 5.5).
use Rattle.std.specs.Prelude.{◌≡◌, ℕ, ℤ, ⊤, true, List, Some, slice_get}
use Rattle.jv_class.specs.Class.{InitialValue}
use Rattle.jv_class.specs.Class.InitialValue.{IntValue, LongValue, StringValue}
use Rattle.jv_interp_objects.specs.Texts.{HasText}
use Rattle.jv_interp_control.specs.declared.constants.Constant.{Constant}
use Rattle.jv_interp_control.specs.declared.constants.Constant.TheVariants as constants
use Rattle.jv_text.specs.declared.descriptor.FieldTypeOf.{FieldTypeOf}
use Rattle.jv_text.specs.Types.{field_type_of}
use Rattle.jv_stackmap.specs.Types.{value_type}
use Rattle.jv_meaning_world.specs.World.{World}
use Rattle.jv_meaning_world.specs.LookUps.{DeclaredField}
use Rattle.jv_meaning_machine.specs.Values.{Value, value_words, has_type, narrowed}
use Rattle.jv_meaning_machine.specs.Values.Value.{Int, Long, Reference}
use Rattle.jv_meaning_machine.specs.Objects.{key_of}
use Rattle.jv_meaning_machine.specs.State.{Memory}
use Rattle.jv_meaning_machine.specs.Fields.{with_static}
use Rattle.jv_interp_heap.specs.declared.narrowing.Narrowing.{Narrowing}
use Rattle.jv_interp_heap.specs.Narrowing.{narrowing_of}
use Rattle.jv_interp_heap.specs.ObjectsInBlocks.{Blocks, place_among}
use Rattle.jv_interp_held.specs.declared.held.Held.{Held}
use Rattle.jv_interp_held.specs.HeldInWords.{static_fields, MemoryStands}

-- ---- what it is

abbrev pub seen_constant : Constant → InitialValue
seen_constant (constants.Int number) = IntValue number
seen_constant (constants.Long number) = LongValue number
seen_constant (constants.Text number text) = StringValue text.now

-- the number of its text is among these, where it is one
abbrev pub HasItsText : List (List ℕ) → Constant → Type 0
HasItsText texts (constants.Text number text) = HasText texts text.now number
HasItsText texts _ = ⊤

-- ---- how it is stored

-- In a memory that stands a value of a static field's type is to be stored there, whose words begin at one among those of all.
pub record Putting (word : ℕ) (value : Value) (world : World) (texts : List (List ℕ)) (memory : Memory) (addresses : List ℕ)
    (held : Held) (blocks : Blocks) (d : DeclaredField) (type : FieldTypeOf (List ℕ)) : Type 0 where
  pub stands : MemoryStands world texts memory addresses held blocks
  pub typed : field_type_of d.field.descriptor ≡ Some type
  pub begins : place_among (key_of d) (static_fields world) ≡ Some word
  pub kind : has_type (value_type type) value ≡ true

pub record CanPut (word width : ℕ) (held : Held) : Type 0 where
  pub value : Value
  pub world : World
  pub texts : List (List ℕ)
  pub memory : Memory
  pub addresses : List ℕ
  pub blocks : Blocks
  pub d : DeclaredField
  pub type : FieldTypeOf (List ℕ)
  pub putting : Putting word value world texts memory addresses held blocks d type
  pub width_is : value_words value ≡ width

-- the memory with the value there stands
abbrev pub HasPut : Value → World → List (List ℕ) → Memory → List ℕ → Held → Blocks → DeclaredField → FieldTypeOf (List ℕ) → Type 0
HasPut value world texts memory addresses held blocks d type =
    MemoryStands world texts (with_static (key_of d) (narrowed type value) memory) addresses held blocks

abbrev pub PutsInt : ℕ → ℤ → Narrowing → Held → Held → Type 0
PutsInt word number how held held_after =
    (world : World) (texts : List (List ℕ)) (memory : Memory) (addresses : List ℕ) (blocks : Blocks) (d : DeclaredField)
    (type : FieldTypeOf (List ℕ))
    → Putting word (Int number) world texts memory addresses held blocks d type → narrowing_of type ≡ how
    → HasPut (Int number) world texts memory addresses held_after blocks d type

abbrev pub PutsLong : ℕ → ℤ → Held → Held → Type 0
PutsLong word number held held_after =
    (world : World) (texts : List (List ℕ)) (memory : Memory) (addresses : List ℕ) (blocks : Blocks) (d : DeclaredField)
    (type : FieldTypeOf (List ℕ))
    → Putting word (Long number) world texts memory addresses held blocks d type
    → HasPut (Long number) world texts memory addresses held_after blocks d type

abbrev pub PutsReference : ℕ → ℕ → Held → Held → Type 0
PutsReference word address held held_after =
    (world : World) (texts : List (List ℕ)) (memory : Memory) (addresses : List ℕ) (blocks : Blocks) (d : DeclaredField)
    (type : FieldTypeOf (List ℕ)) (object : ℕ)
    → Putting word (Reference object) world texts memory addresses held blocks d type → slice_get addresses object ≡ Some address
    → HasPut (Reference object) world texts memory addresses held_after blocks d type
