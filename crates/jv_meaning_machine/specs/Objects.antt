-- Objects and arrays (JVMS 2.4, 2.7): an object is known by its place in a list, in which the newest stands last. What fields
-- hold is kept by their names.
use Rattle.std.specs.Prelude.{ℕ, suc, Bool, true, false, ◌&&◌, ◌||◌, List, [], ◌∷◌, map, replicate, Option, Some, None, if◌then◌else◌}
use Rattle.std.specs.Str.{bytes_eq}
use Rattle.jv_text.specs.declared.descriptor.FieldTypeOf.{FieldTypeOf}
use Rattle.jv_pool.specs.Constants.{MemberReference, member_of, name_and_descriptor}
use Rattle.jv_meaning_world.specs.World.{Loaded, World, class_named}
use Rattle.jv_meaning_world.specs.Above.{is_above}
use Rattle.jv_meaning_world.specs.LookUps.{DeclaredField}
use Rattle.jv_meaning_typing.specs.Layout.{instance_fields}
use Rattle.jv_meaning_world.specs.Flow.{extended}
use Rattle.jv_meaning_typing.specs.Named.{class_components}
use Rattle.jv_meaning_machine.specs.Values.{Value, default_of, default_of_type}

-- ---- what fields hold: a field is known by the class that declares it, its name and its descriptor

abbrev pub FieldKey : Type 0
FieldKey = MemberReference

abbrev pub key_of : DeclaredField → FieldKey
key_of d = member_of d.by.class.name (name_and_descriptor d.field.name d.field.descriptor)

abbrev pub same_key : FieldKey → FieldKey → Bool
same_key a b = bytes_eq a.name b.name && bytes_eq a.class b.class && bytes_eq a.descriptor b.descriptor

abbrev pub Content : Type 0
Content = List (FieldKey × Value)

-- what a field holds, where it is one of these
abbrev pub value_at : FieldKey → Content → Option Value
value_at key [] = None
value_at key (entry ∷ more) = if same_key key entry.0 then Some entry.1 else value_at key more

-- the same with another value of one field
abbrev pub with_value : FieldKey → Value → Content → Content
with_value key value [] = []
with_value key value (entry ∷ more) =
    if same_key key entry.0 then (entry.0, value) ∷ more else entry ∷ with_value key value more

abbrev pub default_entry : DeclaredField → FieldKey × Value
default_entry d = (key_of d, default_of d.field.descriptor)

-- ---- objects

-- an object of a class: the class whose `<init>` was last entered on it, none at first; whether java/lang/Object's was, or
-- the machine made it itself; and its fields, with those of its superclasses
pub record Instance : Type 0 where
  pub class : List ℕ
  pub entered : Option (List ℕ)
  pub constructed : Bool
  pub fields : Content

pub data Object : Type 0 where
  InstanceOf : (instance : Instance) → Object
  -- the type of its components, and these
  ArrayWith : (components : FieldTypeOf (List ℕ)) → (values : List Value) → Object

abbrev pub is_constructed : Object → Bool
is_constructed (InstanceOf instance) = instance.constructed
is_constructed (ArrayWith components values) = true

abbrev pub new_instance : World → Bool → Loaded → Instance
new_instance world constructed l = record {
  class = l.class.name;
  entered = None;
  constructed = constructed;
  fields = map default_entry (instance_fields world l);
}

-- what `new` makes, and what the machine makes itself (own)
abbrev pub new_object : World → Loaded → Object
new_object world l = InstanceOf (new_instance world false l)

abbrev pub made_object : World → Loaded → Object
made_object world l = InstanceOf (new_instance world true l)

-- an array with this many components, each zero or null
abbrev pub new_array : FieldTypeOf (List ℕ) → ℕ → Object
new_array components count = ArrayWith components (replicate count (default_of_type components))

-- ---- the class of an object, and what it is an instance of (6.5, instanceof): superclasses and superinterfaces alike

abbrev pub type_of_object : Object → FieldTypeOf (List ℕ)
type_of_object (InstanceOf instance) = class_components instance.class
type_of_object (ArrayWith components values) = record { dimensions = suc components.dimensions; element = components.element }

abbrev pub is_below : World → Option Loaded → List ℕ → Bool
is_below world None name = false
is_below world (Some l) name = is_above world name l.class

-- a class is another one, or below it
abbrev pub is_at_or_below : World → List ℕ → List ℕ → Bool
is_at_or_below world name other = bytes_eq name other || is_below world (class_named world name) other

-- an array is one of its component's supers' arrays, and an object of the classes above arrays
abbrev pub is_subtype : World → FieldTypeOf (List ℕ) → FieldTypeOf (List ℕ) → Bool
is_subtype world type other = extended (is_at_or_below world) type.dimensions type.element other.dimensions other.element

abbrev pub is_instance_of : World → Object → FieldTypeOf (List ℕ) → Bool
is_instance_of world object type = is_subtype world (type_of_object object) type
