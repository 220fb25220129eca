-- What of an object never changes, its shape (JVMS 2.4, 2.7), and what stands against the guest's budget: the cells that objects
-- have, and the words that frames have (own).
use Rattle.std.specs.Prelude.{◌≡◌, ℕ, ◌+◌, ⊤, List, map, length, sum_by, Some, codes, if◌then◌else◌}
use Rattle.std.specs.List.{AllByRecursion}
use Rattle.std.specs.Str.{bytes_eq}
use Rattle.jv_text.specs.declared.descriptor.FieldTypeOf.{FieldTypeOf}
use Rattle.jv_meaning_world.specs.World.{Loaded, World, class_named}
use Rattle.jv_meaning_typing.specs.Layout.{instance_fields}
use Rattle.jv_meaning_machine.specs.Values.{Value}
use Rattle.jv_meaning_machine.specs.Objects.{FieldKey, key_of, Content, Object}
use Rattle.jv_meaning_machine.specs.Objects.Object.{InstanceOf, ArrayWith}
use Rattle.jv_meaning_machine.specs.Frames.{Frame}
use Rattle.jv_meaning_machine.specs.Frames.Frame.{Runs, Initializes}
use Rattle.jv_meaning_machine.specs.State.{Memory}
use Rattle.jv_meaning_machine.specs.Costs.{array_cells, method_words, initialization_words}

-- ---- shapes

pub data Shape : Type 0 where
  -- an object's class, and the fields that it has
  ObjectShape : (class : List ℕ) → (fields : List FieldKey) → Shape
  -- the type of an array's components, and how many there are
  ArrayShape : (components : FieldTypeOf (List ℕ)) → (count : ℕ) → Shape

abbrev pub key_in : FieldKey × Value → FieldKey
key_in entry = entry.0

-- which fields hold something
abbrev pub keys_in : Content → List FieldKey
keys_in content = map key_in content

abbrev pub shape_of : Object → Shape
shape_of (InstanceOf instance) = ObjectShape instance.class (keys_in instance.fields)
shape_of (ArrayWith components values) = ArrayShape components (length values)

abbrev pub shapes : Memory → List Shape
shapes memory = map shape_of memory.objects

-- the shape of an object of a class of the world, with the fields that its layout has; an array has none
abbrev pub IsOfClass : World → Shape → Type 0
IsOfClass world (ObjectShape class fields) =
    (l : Loaded) × (class_named world class ≡ Some l) × (fields ≡ map key_of (instance_fields world l))
IsOfClass world (ArrayShape components count) = ⊤

abbrev pub AreOfClasses : World → List Shape → Type 0
AreOfClasses world all = AllByRecursion (IsOfClass world) all

-- ---- cells

-- two for a field that holds a long
abbrev pub field_cells : FieldKey → ℕ
field_cells key = if bytes_eq key.descriptor (codes "J") then 2 else 1

-- an object costs one cell and those of its fields, an array two and those of its components
abbrev pub shape_cells : Shape → ℕ
shape_cells (ObjectShape class fields) = 1 + sum_by field_cells fields
shape_cells (ArrayShape components count) = array_cells components count

-- the cells that all objects have
abbrev pub used_cells : Memory → ℕ
used_cells memory = sum_by shape_cells (shapes memory)

-- those of the two objects that are made at the start, an OutOfMemoryError and an empty array
abbrev pub first_cells : ℕ
first_cells = 4

-- ---- words

abbrev pub frame_words : Frame → ℕ
frame_words (Runs frame) = method_words frame
frame_words (Initializes frame) = initialization_words

-- the words that all frames have
abbrev pub used_words : List Frame → ℕ
used_words frames = sum_by frame_words frames
