-- Where values are held (JVMS 2.5.3, 2.7): fields of objects, components of arrays and static fields; and what a store to one
-- of them changes.
use Rattle.std.specs.Prelude.{◌≡◌, ℕ, [], map, Option, Some, None, IsSome, slice_get}
use Rattle.jv_meaning_machine.specs.Values.{Value}
use Rattle.jv_meaning_machine.specs.Objects.{FieldKey, Object, value_at}
use Rattle.jv_meaning_machine.specs.Objects.Object.{InstanceOf, ArrayWith}
use Rattle.jv_meaning_machine.specs.State.{Memory}
use Rattle.jv_meaning_machine.specs.Laws.Shapes.{shapes}

pub data Location : Type 0 where
  FieldOf : (object : ℕ) → (key : FieldKey) → Location
  ComponentOf : (array : ℕ) → (place : ℕ) → Location
  StaticField : (key : FieldKey) → Location

-- ---- what stands there

abbrev pub field_of_object : FieldKey → Option Object → Option Value
field_of_object key (Some (InstanceOf instance)) = value_at key instance.fields
field_of_object key _ = None

abbrev pub component_in : ℕ → Option Object → Option Value
component_in place (Some (ArrayWith components values)) = slice_get values place
component_in place _ = None

-- the value that a location holds, if there is such a location
abbrev pub held_at : Memory → Location → Option Value
held_at memory (FieldOf object key) = field_of_object key (slice_get memory.objects object)
held_at memory (ComponentOf array place) = component_in place (slice_get memory.objects array)
held_at memory (StaticField key) = value_at key memory.statics

-- an object without the values that it holds
abbrev pub bare : Object → Object
bare (InstanceOf instance) = InstanceOf (record instance { fields = [] })
bare (ArrayWith components values) = ArrayWith components []

-- ---- a store

-- One location, if there is such a one, holds this value; each other one, and all that is no location, is as it was.
pub record StoresAt (before after : Memory) (location : Location) (value : Value) : Type 0 where
  pub there : IsSome (held_at before location) → held_at after location ≡ Some value
  pub others : (other : Location) → (other ≡ location → ⊥) → held_at after other ≡ held_at before other
  -- classes, counts, and what was constructed
  pub shapes_same : shapes after ≡ shapes before
  pub objects_same : map bare after.objects ≡ map bare before.objects
  -- literals, cells, output and input
  pub rest : after ≡ record before { objects = after.objects; statics = after.statics }
