-- Laws of the order of verification types with interfaces erased (JVMS 4.10.1.2), in a world with java/lang/Object at the top.
use Rattle.std.specs.Prelude.{◌≡◌, List, ℕ, ◌||◌, Some, IsTrue}
use Rattle.std.specs.Str.{bytes_eq}
use Rattle.jv_text.specs.declared.descriptor.FieldTypeOf.{FieldTypeOf}
use Rattle.jv_stackmap.specs.declared.verification.VerificationTypeOf.TheVariants as types
use Rattle.jv_stackmap.specs.Types.{FrameType, value_type}
use Rattle.jv_class.specs.Class.{Class}
use Rattle.jv_meaning_world.specs.FileContent.{FileContent, AreContents}
use Rattle.jv_meaning_world.specs.Library.{IsLibrary, with_library}
use Rattle.jv_meaning_world.specs.World.{Loaded, World, class_named, world_of}
use Rattle.jv_meaning_world.specs.Above.{is_above}
use Rattle.jv_meaning_world.specs.Verdicts.{is_loadable}
use Rattle.jv_meaning_world.specs.Flow.{flows}
use Rattle.jv_meaning_world.specs.Laws.Order.{object_name, names_interface, IsBelow, is_usable_reference, is_loadable_type, IsRooted}

-- ---- in every world

-- A type flows to itself, and so it is below itself.
abbrev pub FlowsIsReflexive : Type 0
FlowsIsReflexive = (world : World) (t : FrameType) → IsTrue (flows world t t)

-- Where arrays of one type are below arrays of another, so are the values that they contain.
abbrev pub ComponentsAreBelow : Type 0
ComponentsAreBelow =
    (world : World) (a b : FieldTypeOf (List ℕ)) → IsBelow world (types.Array a) (types.Array b)
    → IsBelow world (value_type a) (value_type b)

-- Only a class, an array or null is below one of these.
abbrev pub BelowIsReference : Type 0
BelowIsReference = (world : World) (t u : FrameType) → IsTrue (is_usable_reference u) → IsBelow world t u → IsTrue (is_usable_reference t)

-- ---- in a rooted world

abbrev pub BelowIsTransitive : Type 0
BelowIsTransitive = (world : World) → IsRooted world → (t u v : FrameType) → IsBelow world t u → IsBelow world u v → IsBelow world t v

-- A loadable class, an array and null flow to java/lang/Object.
abbrev pub FlowsToObject : Type 0
FlowsToObject =
    (world : World) → IsRooted world → (t : FrameType) → IsTrue (is_usable_reference t) → IsTrue (is_loadable_type world t)
    → IsTrue (flows world t (types.Class object_name))

-- A loadable type that flows to another is below it.
abbrev pub FlowsIsBelow : Type 0
FlowsIsBelow =
    (world : World) → IsRooted world → (t u : FrameType) → IsTrue (is_loadable_type world t) → IsTrue (flows world t u) → IsBelow world t u

-- What is of a loadable type below one is also below each type to which that one flows, whatever these two are: so the type
-- of an object stays below the type that the verifier has for it.
abbrev pub BelowIsKept : Type 0
BelowIsKept =
    (world : World) → IsRooted world → (object t u : FrameType) → IsTrue (is_loadable_type world object) → IsBelow world object t
    → IsTrue (flows world t u) → IsBelow world object u

-- A loadable class is below each class and interface above it,
abbrev pub AboveIsBelow : Type 0
AboveIsBelow =
    (world : World) → IsRooted world → (x y : List ℕ) (l : Loaded) → class_named world x ≡ Some l → IsTrue (is_loadable world l)
    → IsTrue (is_above world y l.class) → IsBelow world (types.Class x) (types.Class y)

-- and of the classes of the world only it and those that it is above are below a class that is no interface.
abbrev pub BelowIsAbove : Type 0
BelowIsAbove =
    (world : World) → IsRooted world → (x y : List ℕ) (l : Loaded) → class_named world x ≡ Some l
    → (IsTrue (names_interface world y) → ⊥) → IsBelow world (types.Class x) (types.Class y)
    → IsTrue (bytes_eq x y || is_above world y l.class)

-- An array is below no class but java/lang/Object and interfaces.
abbrev pub ArrayBelowClass : Type 0
ArrayBelowClass =
    (world : World) → IsRooted world → (components : FieldTypeOf (List ℕ)) (y : List ℕ) → (IsTrue (names_interface world y) → ⊥)
    → IsBelow world (types.Array components) (types.Class y) → y ≡ object_name

-- ---- which worlds are rooted

-- The world of a library and of a guest's files is.
abbrev pub FilesAreRooted : Type 0
FilesAreRooted =
    (given : List (List ℕ)) (library : List Class) → IsLibrary given library
    → (contents : List FileContent) (files : List (List ℕ)) → AreContents files contents
    → IsRooted (world_of (with_library library) contents)
