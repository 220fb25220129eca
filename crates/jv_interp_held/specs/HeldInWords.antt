-- How a guest's memory stands in the blocks of the store and in what is held beside them (JVMS 2.5.3 to 2.5.5).
use Rattle.std.specs.Prelude.{◌≡◌, ℕ, ◌+◌, ◌≤◌, List, Option, Some, None, drop, length, slice_get, vec_capacity}
use Rattle.std.specs.List.{flat_map}
use Rattle.jv_meaning_world.specs.World.{Loaded, World}
use Rattle.jv_meaning_world.specs.LookUps.{DeclaredField, field_by}
use Rattle.jv_meaning_typing.specs.Kind.{is_static_field}
use Rattle.jv_meaning_machine.specs.Effects.{out_of_memory}
use Rattle.jv_meaning_machine.specs.Initialization.{main_arguments}
use Rattle.jv_meaning_machine.specs.Literals.{literal_in}
use Rattle.jv_meaning_machine.specs.State.{Memory}
use Rattle.jv_interp_heap.specs.ObjectsInBlocks.{Blocks, AreFields, ObjectsStand}
use Rattle.jv_interp_held.specs.declared.held.Held.{Held}
use Rattle.std.specs.Prelude.{filter, map}

-- ---- static fields, those of each class behind those of the classes before it in the world

abbrev pub own_static_fields : Loaded → List DeclaredField
own_static_fields l = map (field_by l) (filter is_static_field l.class.fields)

abbrev pub static_fields : World → List DeclaredField
static_fields world = flat_map own_static_fields world

-- ---- string literals: the address of each text's object, by the text's number, and 0 where the text has none yet. Texts differ, and
-- each that has an object is among them.

abbrev pub IsLiteral : List ℕ → Option ℕ → ℕ → Type 0
IsLiteral addresses None address = address ≡ 0
IsLiteral addresses (Some object) address = slice_get addresses object ≡ Some address

pub record AreLiterals (texts : List (List ℕ)) (addresses : List ℕ) (literals : List (List ℕ × ℕ)) (kept : List ℕ) : Type 0 where
  pub count : length kept ≡ length texts
  pub each :
      (number : ℕ) (text : List ℕ) (address : ℕ) → slice_get texts number ≡ Some text → slice_get kept number ≡ Some address
      → IsLiteral addresses (literal_in text literals) address
  pub differ : (number other : ℕ) (text : List ℕ) → slice_get texts number ≡ Some text → slice_get texts other ≡ Some text → other ≡ number
  pub among : (text : List ℕ) (object : ℕ) → literal_in text literals ≡ Some object → (number : ℕ) × (slice_get texts number ≡ Some text)

-- ---- all of it: and there is room for all output that may still be written, so that none of it is ever refused

pub record MemoryStands (world : World) (texts : List (List ℕ)) (memory : Memory) (addresses : List ℕ) (held : Held)
    (blocks : Blocks) : Type 0 where
  pub objects : ObjectsStand world memory.objects addresses blocks
  pub statics : AreFields addresses (static_fields world) memory.statics held.statics.items
  pub literals : AreLiterals texts addresses memory.literals held.literals.items
  pub error_stands : slice_get addresses out_of_memory ≡ Some held.out_of_memory
  pub arguments_stand : slice_get addresses main_arguments ≡ Some held.arguments
  pub cells : memory.cells ≡ held.cells
  pub output_left : memory.output_left ≡ held.output_left
  pub output : memory.output ≡ held.output.items
  pub output_room : length held.output.items + held.output_left ≤ vec_capacity held.output
  pub read_within : held.read ≤ length held.input.items
  pub input : memory.input ≡ drop held.read held.input.items
