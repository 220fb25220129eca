-- The order of verification types with interfaces erased (JVMS 4.10.1.2). To flow is none: an array flows to
-- java/lang/Object, which flows to each loadable interface, and the array does not.
use Rattle.std.specs.Prelude.{◌≡◌, ℕ, Bool, true, false, not, ◌&&◌, ◌||◌, List, ◌∷◌, Some, codes, is_none, is_some, IsTrue, if◌then◌else◌}
use Rattle.std.specs.List.{Contains, list_all, list_any}
use Rattle.std.specs.Str.{bytes_eq}
use Rattle.jv_text.specs.declared.descriptor.Element.{Element}
use Rattle.jv_text.specs.declared.descriptor.Element.TheVariants as elements
use Rattle.jv_text.specs.declared.descriptor.FieldTypeOf.{FieldTypeOf}
use Rattle.jv_stackmap.specs.declared.verification.VerificationTypeOf.TheVariants as types
use Rattle.jv_stackmap.specs.Types.{FrameType}
use Rattle.jv_class.specs.Class.{Class}
use Rattle.jv_class.specs.Rules.{is_object}
use Rattle.jv_class_structure.specs.Attributes.{some_and}
use Rattle.jv_class_structure.specs.Flags.{has, acc_interface}
use Rattle.jv_meaning_world.specs.World.{Loaded, World, class_named, loaded}
use Rattle.jv_meaning_world.specs.Above.{superclasses}
use Rattle.jv_meaning_world.specs.Verdicts.{passes, each_super, is_interface, have_right_kind, is_loadable}
use Rattle.jv_meaning_world.specs.Flow.{is_loadable_interface, flows}

-- ---- interfaces erased

abbrev pub object_name : List ℕ
object_name = codes "java/lang/Object"

-- the name is that of a loadable interface
abbrev pub names_interface : World → List ℕ → Bool
names_interface world name = is_loadable_interface world (class_named world name)

-- a loadable interface counts as java/lang/Object, each other class as itself (4.10.1.2)
abbrev pub erased_name : World → List ℕ → List ℕ
erased_name world name = if names_interface world name then object_name else name

abbrev pub erased_element : World → Element (List ℕ) → Element (List ℕ)
erased_element world (elements.Base base) = elements.Base base
erased_element world (elements.Class name) = elements.Class (erased_name world name)

-- components keep their dimensions
abbrev pub erased_components : World → FieldTypeOf (List ℕ) → FieldTypeOf (List ℕ)
erased_components world components = record { dimensions = components.dimensions; element = erased_element world components.element }

-- a type without interfaces, its components included
abbrev pub erased : World → FrameType → FrameType
erased world (types.Class name) = types.Class (erased_name world name)
erased world (types.Array components) = types.Array (erased_components world components)
erased world type = type

-- a type is below another where it flows to it with interfaces erased
abbrev pub IsBelow : World → FrameType → FrameType → Type 0
IsBelow world type other = IsTrue (flows world (erased world type) (erased world other))

-- ---- what a law asks of a type

-- a class, an array or null
abbrev pub is_usable_reference : FrameType → Bool
is_usable_reference types.Null = true
is_usable_reference (types.Class name) = true
is_usable_reference (types.Array components) = true
is_usable_reference _ = false

abbrev pub has_loadable_element : World → Element (List ℕ) → Bool
has_loadable_element world (elements.Base base) = true
has_loadable_element world (elements.Class name) = passes (is_loadable world) (class_named world name)

-- its class is loadable, or its elements are (5.3.5); a type without a class asks for none
abbrev pub is_loadable_type : World → FrameType → Bool
is_loadable_type world (types.Class name) = passes (is_loadable world) (class_named world name)
is_loadable_type world (types.Array components) = has_loadable_element world components.element
is_loadable_type world _ = true

-- ---- what a law asks of a world

-- a class that is no interface and has no superclass
abbrev pub is_root : Loaded → Bool
is_root l = not (is_interface l) && is_none l.class.super_class

-- java/lang/Object alone has no superclass, and it is that of each interface (4.1)
abbrev pub has_right_superclass : Class → Bool
has_right_superclass class =
    if has class.access_flags acc_interface then some_and is_object class.super_class
    else is_some class.super_class || is_object class.name

-- the class or one of its superclasses has this name
abbrev pub leads_to : World → List ℕ → Loaded → Bool
leads_to world name l = list_any (λ s. bytes_eq s.class.name name) (l ∷ superclasses world l.class)

-- the supers of a class of the system are the system's, and of the right kind (5.3.5)
abbrev pub has_right_supers : World → Class → Bool
has_right_supers world class = each_super world (λ s. s.by_system) class && have_right_kind world class

-- A world with java/lang/Object at the top, as class files and the system's classes make it.
pub record IsRooted (world : World) : Type 0 where
  -- the class java/lang/Object is no interface and has no superclass
  pub object : (l : Loaded) → class_named world object_name ≡ Some l → IsTrue (is_root l)
  -- the other classes above arrays are loadable interfaces (4.10.1.2)
  pub cloneable : IsTrue (names_interface world (codes "java/lang/Cloneable"))
  pub serializable : IsTrue (names_interface world (codes "java/io/Serializable"))
  pub superclass : (l : Loaded) → Contains world l → IsTrue (has_right_superclass l.class)
  -- a class of the system leads up to it, and its supers are right; so it is with a class of a guest that is loadable
  pub system : (l : Loaded) → Contains world l → IsTrue l.by_system
      → IsTrue (leads_to world object_name l && has_right_supers world l.class)

-- the same of the system's classes alone, as a test, in a world that begins with them
abbrev pub is_rooted_by : List Class → World → Bool
is_rooted_by system world =
    passes is_root (class_named world object_name)
    && (names_interface world (codes "java/lang/Cloneable")
    && (names_interface world (codes "java/io/Serializable")
    && list_all (λ c. has_right_superclass c && (leads_to world object_name (loaded true c) && has_right_supers world c)) system))
