-- Which verification type can stand where another is expected (JVMS 4.10.1.2): which flow to which.
use Rattle.std.specs.Prelude.{ℕ, zero, suc, Bool, true, false, ◌&&◌, ◌||◌, ◌==◌, List, Option, Some, None, codes}
use Rattle.std.specs.List.{list_any}
use Rattle.std.specs.Str.{bytes_eq}
use Rattle.jv_text.specs.declared.descriptor.Base.{Base}
use Rattle.jv_text.specs.declared.descriptor.Element.{Element}
use Rattle.jv_text.specs.declared.descriptor.Element.TheVariants as elements
use Rattle.jv_text.specs.Descriptor.{base_letter}
use Rattle.jv_stackmap.specs.declared.verification.VerificationTypeOf.TheVariants as types
use Rattle.jv_stackmap.specs.Types.{FrameType}
use Rattle.jv_meaning_world.specs.World.{Loaded, World, class_named}
use Rattle.jv_meaning_world.specs.Above.{superclasses}
use Rattle.jv_meaning_world.specs.Verdicts.{is_interface, is_loadable}

-- ---- classes, by their names

abbrev pub is_loadable_interface : World → Option Loaded → Bool
is_loadable_interface world None = false
is_loadable_interface world (Some l) = is_loadable world l && is_interface l

abbrev pub is_loadable_below : World → List ℕ → Option Loaded → Bool
is_loadable_below world name None = false
is_loadable_below world name (Some l) =
    is_loadable world l && list_any (λ s. bytes_eq s.class.name name) (superclasses world l.class)

-- A class flows to itself, to each loadable interface, and, where it is loadable, to its superclasses.
abbrev pub class_flows : World → List ℕ → List ℕ → Bool
class_flows world x y =
    bytes_eq x y || (is_loadable_interface world (class_named world y) || is_loadable_below world y (class_named world x))

-- ---- arrays

-- what every array flows to
abbrev pub is_above_arrays : List ℕ → Bool
is_above_arrays name =
    bytes_eq name (codes "java/lang/Object")
    || (bytes_eq name (codes "java/lang/Cloneable") || bytes_eq name (codes "java/io/Serializable"))

abbrev pub same_base : Base → Base → Bool
same_base a b = base_letter a == base_letter b

-- Types by their dimensions and elements, by what holds of classes: a primitive type goes with itself alone, a class as classes
-- do, and an array with an array as its component does, and with a class above arrays.
abbrev pub extended : (List ℕ → List ℕ → Bool) → ℕ → Element (List ℕ) → ℕ → Element (List ℕ) → Bool
extended classes zero (elements.Base a) zero (elements.Base b) = same_base a b
extended classes zero (elements.Class x) zero (elements.Class y) = classes x y
extended classes zero (elements.Base a) zero (elements.Class y) = false
extended classes zero (elements.Class x) zero (elements.Base b) = false
extended classes zero e (suc n) f = false
extended classes (suc m) e zero (elements.Class y) = is_above_arrays y
extended classes (suc m) e zero (elements.Base b) = false
extended classes (suc m) e (suc n) f = extended classes m e n f

-- components flow as their classes do
abbrev pub component_flows : World → ℕ → Element (List ℕ) → ℕ → Element (List ℕ) → Bool
component_flows world m e n f = extended (class_flows world) m e n f

-- ---- all types

-- an array flows to an array as its component does; an uninitialized type flows to itself and to top alone
abbrev pub flows : World → FrameType → FrameType → Bool
flows world type types.Top = true
flows world types.Int types.Int = true
flows world types.Long types.Long = true
flows world types.Null types.Null = true
flows world types.Null (types.Class y) = true
flows world types.Null (types.Array a) = true
flows world types.UninitializedThis types.UninitializedThis = true
flows world (types.Uninitialized o) (types.Uninitialized p) = o == p
flows world (types.Class x) (types.Class y) = class_flows world x y
flows world (types.Array a) (types.Class y) = is_above_arrays y
flows world (types.Array a) (types.Array b) = component_flows world a.dimensions a.element b.dimensions b.element
flows world _ _ = false
