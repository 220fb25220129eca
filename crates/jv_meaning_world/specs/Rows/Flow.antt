-- Worked rows: what flows to what, computed.
use Rattle.std.specs.Prelude.{◌≡◌, ℕ, Bool, true, false, List, [], ◌∷◌, Some, codes}
use Rattle.jv_text.specs.declared.descriptor.Base.TheVariants as bases
use Rattle.jv_text.specs.declared.descriptor.Element.{Element}
use Rattle.jv_text.specs.declared.descriptor.Element.TheVariants as elements
use Rattle.jv_stackmap.specs.declared.verification.VerificationTypeOf.TheVariants as types
use Rattle.jv_stackmap.specs.Types.{FrameType}
use Rattle.jv_stackmap.specs.Frames.{Frame}
use Rattle.jv_meaning_world.specs.World.{World, without_front, world_of}
use Rattle.jv_meaning_world.specs.declared.content.Content.TheVariants.{Holds}
use Rattle.jv_meaning_world.specs.Rows.Files.{object, object_name, interface, public_class, class_with}
use Rattle.jv_meaning_world.specs.Flow.{flows}
use Rattle.jv_meaning_world.specs.FrameFlow.{frame_flows}

-- a world of java/lang/Object and java/io/Serializable, with a class P, a class C below it, an interface I, and an interface
-- that is not loadable
abbrev pub world : World
world =
    world_of (without_front (object ∷ interface (codes "java/io/Serializable") ∷ []))
    (Holds (public_class (codes "P") object_name) ∷ Holds (public_class (codes "C") (codes "P")) ∷ Holds (interface (codes "I"))
    ∷ Holds (class_with 1537 (codes "Broken") (Some object_name) (codes "Missing" ∷ []) []) ∷ [])

abbrev pub class : List ℕ → FrameType
class name = types.Class name

-- the array whose components have these dimensions and this element
abbrev pub array : ℕ → Element (List ℕ) → FrameType
array dimensions element = types.Array (record { dimensions = dimensions; element = element })

abbrev pub ints : FrameType
ints = array 0 (elements.Base bases.Int)

abbrev pub arrays_of_ints : FrameType
arrays_of_ints = array 1 (elements.Base bases.Int)

abbrev pub longs : FrameType
longs = array 0 (elements.Base bases.Long)

abbrev pub objects : List ℕ → FrameType
objects name = array 0 (elements.Class name)

abbrev pub arrays_of : List ℕ → FrameType
arrays_of name = array 1 (elements.Class name)

abbrev pub frame : List FrameType → List FrameType → Bool → Frame
frame locals stack flag = record { locals = locals; stack = stack; flag_this_uninit = flag }

pub record WorkedRows : Type 0 where
  pub ints_to_object : flows world ints (class object_name) ≡ true
  pub ints_to_serializable : flows world ints (class (codes "java/io/Serializable")) ≡ true
  pub ints_to_objects : flows world ints (objects object_name) ≡ false
  pub arrays_of_ints_to_objects : flows world arrays_of_ints (objects object_name) ≡ true
  pub ints_to_longs : flows world ints longs ≡ false
  pub arrays_of_ints_to_ints : flows world arrays_of_ints ints ≡ false
  pub ints_to_arrays_of_ints : flows world ints arrays_of_ints ≡ false
  pub objects_to_serializables : flows world (objects object_name) (objects (codes "java/io/Serializable")) ≡ true
  pub array_to_interface : flows world ints (class (codes "I")) ≡ false
  pub null_to_ints : flows world types.Null ints ≡ true
  pub null_to_int : flows world types.Null types.Int ≡ false
  pub uninitialized_to_top : flows world (types.Uninitialized 3) types.Top ≡ true
  pub uninitialized_to_object : flows world (types.Uninitialized 3) (class object_name) ≡ false
  pub uninitialized_to_another : flows world (types.Uninitialized 3) (types.Uninitialized 4) ≡ false
  pub missing_to_itself : flows world (class (codes "Missing")) (class (codes "Missing")) ≡ true
  pub missing_to_object : flows world (class (codes "Missing")) (class object_name) ≡ false
  pub missing_to_interface : flows world (class (codes "Missing")) (class (codes "I")) ≡ true
  pub class_to_superclass : flows world (class (codes "C")) (class (codes "P")) ≡ true
  pub superclass_to_class : flows world (class (codes "P")) (class (codes "C")) ≡ false
  pub object_to_interface : flows world (class object_name) (class (codes "I")) ≡ true
  pub classes_to_superclasses : flows world (arrays_of (codes "C")) (arrays_of (codes "P")) ≡ true
  pub to_unloadable_interface : flows world (class object_name) (class (codes "Broken")) ≡ false
  pub missings_to_objects : flows world (objects (codes "Missing")) (objects object_name) ≡ false
  -- a long flows to top in a local variable, and on the stack it does not
  pub long_in_local : frame_flows world (frame (types.Long ∷ types.Top ∷ []) [] false) (frame (types.Top ∷ types.Top ∷ []) [] false) ≡ true
  pub long_on_stack : frame_flows world (frame [] (types.Long ∷ []) false) (frame [] (types.Top ∷ []) false) ≡ false
  pub longer_stack : frame_flows world (frame [] (types.Int ∷ []) false) (frame [] [] false) ≡ false
  -- the flag may be gained and not lost
  pub flag_kept : frame_flows world (frame [] [] true) (frame [] [] false) ≡ false
  pub flag_gained : frame_flows world (frame [] [] false) (frame [] [] true) ≡ true
