-- When what a guest's memory holds is of its types (JVMS 2.4, 2.7, 4.10.1.2).
use Rattle.std.specs.Prelude.{◌≡◌, ℕ, List, map, Some, IsTrue, false, slice_get, codes}
use Rattle.std.specs.List.{AllByRecursion, flat_map}
use Rattle.jv_text.specs.declared.descriptor.FieldTypeOf.{FieldTypeOf}
use Rattle.jv_stackmap.specs.Types.{value_type}
use Rattle.jv_meaning_world.specs.World.{Loaded, World, class_named}
use Rattle.jv_meaning_world.specs.Verdicts.{is_loadable, is_interface}
use Rattle.jv_meaning_typing.specs.Layout.{instance_fields}
use Rattle.jv_meaning_world.specs.Laws.Order.{has_loadable_element, is_loadable_type}
use Rattle.jv_meaning_typing.specs.Named.{array_with, class_components, class_type, string_type}
use Rattle.jv_meaning_machine.specs.Values.{Value}
use Rattle.jv_meaning_machine.specs.Objects.{Instance, Object, key_of}
use Rattle.jv_meaning_machine.specs.Objects.Object.{InstanceOf, ArrayWith}
use Rattle.jv_meaning_machine.specs.State.{Program, Memory}
use Rattle.jv_meaning_machine.specs.Effects.{out_of_memory}
use Rattle.jv_meaning_machine.specs.Literals.{string_name, literal_in}
use Rattle.jv_meaning_machine.specs.Initialization.{is_verified, main_arguments}
use Rattle.jv_meaning_machine.specs.Start.{static_entries}
use Rattle.jv_meaning_machine.specs.Laws.Shapes.{keys_in}
use Rattle.jv_sound.specs.Values.{Fits, FitsEntry, IsObject, object_type}

-- each object is of a type that can be loaded
abbrev pub AreLoadable : World → List Object → Type 0
AreLoadable world objects = (id : ℕ) (object : Object) → slice_get objects id ≡ Some object
    → IsTrue (is_loadable_type world (object_type object))

-- an object is of a class of the world that is loadable, and that was accepted with all above it; it has that class's
-- fields, and each holds a value of its type
pub record IsTypedInstance (program : Program) (objects : List Object) (instance : Instance) : Type 0 where
  pub l : Loaded
  pub named : class_named program.world instance.class ≡ Some l
  pub loadable : IsTrue (is_loadable program.world l)
  pub verified : IsTrue (is_verified program l)
  pub plain : is_interface l ≡ false
  pub keys : keys_in instance.fields ≡ map key_of (instance_fields program.world l)
  pub values : AllByRecursion (FitsEntry program.world objects) instance.fields

pub record IsTypedArray (program : Program) (objects : List Object) (components : FieldTypeOf (List ℕ)) (values : List Value) : Type 0 where
  pub loadable : IsTrue (has_loadable_element program.world components.element)
  pub fit : AllByRecursion (Fits program.world objects (value_type components)) values

abbrev pub IsTypedObject : Program → List Object → Object → Type 0
IsTypedObject program objects (InstanceOf instance) = IsTypedInstance program objects instance
IsTypedObject program objects (ArrayWith components values) = IsTypedArray program objects components values

pub record AreTypedObjects (program : Program) (objects : List Object) : Type 0 where
  pub each : (id : ℕ) (object : Object) → slice_get objects id ≡ Some object → IsTypedObject program objects object

pub record IsTypedMemory (program : Program) (memory : Memory) : Type 0 where
  pub objects : AreTypedObjects program memory.objects
  pub statics : AllByRecursion (FitsEntry program.world memory.objects) memory.statics
  pub statics_there : keys_in memory.statics ≡ keys_in (flat_map static_entries program.world)
  pub literals : (text : List ℕ) (id : ℕ) → literal_in text memory.literals ≡ Some id → IsObject program.world memory.objects string_type id
  pub no_memory : IsObject program.world memory.objects (class_type (codes "java/lang/OutOfMemoryError")) out_of_memory
  pub arguments : IsObject program.world memory.objects (array_with (class_components string_name)) main_arguments
