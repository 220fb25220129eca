-- Closed libraries (own): each class that a file of one names is one of the library's or of the system's.
use Rattle.std.specs.Prelude.{ℕ, Bool, List, [], ◌∷◌, ◌++◌, Option, Some, None, is_some, if◌then◌else◌}
use Rattle.std.specs.List.{flat_map, list_all}
use Rattle.jv_text.specs.declared.descriptor.Element.{Element}
use Rattle.jv_text.specs.declared.descriptor.Element.TheVariants as elements
use Rattle.jv_text.specs.declared.descriptor.FieldTypeOf.{FieldTypeOf}
use Rattle.jv_text.specs.Descriptor.{MethodDescriptor}
use Rattle.jv_text.specs.Name.{is_array_name}
use Rattle.jv_text.specs.Types.{field_type_of, method_type_of}
use Rattle.jv_pool.specs.declared.constant.Constant.TheVariants as constants
use Rattle.jv_pool.specs.Constants.{Entry, utf8_at}
use Rattle.jv_class.specs.Class.{Class}
use Rattle.jv_meaning_world.specs.Above.{super_names}
use Rattle.jv_meaning_world.specs.Library.{with_library}
use Rattle.jv_meaning_world.specs.World.{World, class_named, world_of}

-- ---- the classes that a text names: a descriptor, of a field or of a method (JVMS 4.3.2, 4.3.3), or what a Class constant has (4.4.1)

abbrev pub element_names : Element (List ℕ) → List (List ℕ)
element_names (elements.Base base) = []
element_names (elements.Class name) = name ∷ []

abbrev pub type_names : Option (FieldTypeOf (List ℕ)) → List (List ℕ)
type_names None = []
type_names (Some type) = element_names type.element

abbrev pub method_names : Option MethodDescriptor → List (List ℕ)
method_names None = []
method_names (Some method) = flat_map (λ type. element_names type.element) method.parameters ++ type_names method.result

abbrev pub descriptor_names : List ℕ → List (List ℕ)
descriptor_names text = type_names (field_type_of text) ++ method_names (method_type_of text)

abbrev pub class_text_names : List ℕ → List (List ℕ)
class_text_names text = if is_array_name text then type_names (field_type_of text) else text ∷ []

-- ---- the classes that a class names: by its constants (4.4.1, 4.4.6), as supers (4.1), and in its members' descriptors (4.5, 4.6). The
-- constants of invokedynamic, which the profile leaves out, name none.

abbrev pub names_of_text : (List ℕ → List (List ℕ)) → Option (List ℕ) → List (List ℕ)
names_of_text names None = []
names_of_text names (Some text) = names text

abbrev pub constant_names : List Entry → Entry → List (List ℕ)
constant_names pool (constants.Class name) = names_of_text class_text_names (utf8_at pool name)
constant_names pool (constants.NameAndType name descriptor) = names_of_text descriptor_names (utf8_at pool descriptor)
constant_names pool _ = []

abbrev pub names_in : Class → List (List ℕ)
names_in class =
    super_names class ++ (flat_map (constant_names class.constant_pool) class.constant_pool
    ++ (flat_map (λ f. descriptor_names f.descriptor) class.fields ++ flat_map (λ m. descriptor_names m.descriptor) class.methods))

-- ---- closed libraries

abbrev pub is_there : World → List ℕ → Bool
is_there world name = is_some (class_named world name)

abbrev pub names_classes_of : World → Class → Bool
names_classes_of world class = list_all (is_there world) (names_in class)

-- each class of a world names classes of the world alone
abbrev pub is_closed_world : World → Bool
is_closed_world world = list_all (λ l. names_classes_of world l.class) world

-- the classes that a host with a library gives, without a guest's
abbrev pub world_alone : List Class → World
world_alone library = world_of (with_library library) []

abbrev pub is_closed : List Class → Bool
is_closed library = is_closed_world (world_alone library)
