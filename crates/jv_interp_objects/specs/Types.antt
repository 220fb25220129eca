-- Types by numbers, as an array's first word has those of its components (JVMS 2.4, 4.3.2): how many dimensions there are, and the
-- element's number.
use Rattle.std.specs.Prelude.{◌≡◌, ℕ, ◌<◌, List}
use Rattle.jv_text.specs.declared.descriptor.FieldTypeOf.{FieldTypeOf}
use Rattle.jv_meaning_world.specs.World.{World}
use Rattle.jv_meaning_machine.specs.Objects.{Object}
use Rattle.jv_meaning_machine.specs.Objects.Object.{InstanceOf, ArrayWith}
use Rattle.jv_interp_heap.specs.ObjectsInBlocks.{HasNumber, IsElement, IsArrayWord}
use Rattle.jv_interp_objects.specs.declared.types.NumberedType.{NumberedType}

-- the numbers are those of a type
pub record IsOfType (world : World) (type : FieldTypeOf (List ℕ)) (numbers : NumberedType) : Type 0 where
  pub dimensions : numbers.dimensions ≡ type.dimensions
  pub element : IsElement world type.element numbers.element

-- an object whose block has this first word: its class's number, or what tells an array's components
abbrev pub HasWord : World → Object → ℕ → Type 0
HasWord world (InstanceOf instance) word = HasNumber world instance.class word × (word < 2147483648)
HasWord world (ArrayWith components values) word = IsArrayWord world components word
