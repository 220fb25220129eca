-- Worked rows: interfaces erased, and the order that is left, computed; and what breaks the order in worlds that are no rooted ones.
use Rattle.std.specs.Prelude.{◌≡◌, Bool, true, false, List, [], ◌∷◌, ◌++◌, map, Some, None, codes}
use Rattle.jv_stackmap.specs.declared.verification.VerificationTypeOf.TheVariants as types
use Rattle.jv_stackmap.specs.Types.{FrameType}
use Rattle.jv_class.specs.Class.{Class}
use Rattle.jv_meaning_world.specs.World.{World, loaded, without_front, world_of}
use Rattle.jv_meaning_world.specs.declared.content.Content.TheVariants.{Holds}
use Rattle.jv_meaning_world.specs.Rows.Files.{object, interface, public_class, class_with}
use Rattle.jv_meaning_world.specs.Flow.{flows}
use Rattle.jv_meaning_world.specs.Laws.Order.{object_name, erased, is_rooted_by}
use Rattle.jv_meaning_world.specs.Rows.Flow.{world, class, ints, arrays_of_ints, objects, arrays_of}

-- whether one type is below another
abbrev pub is_below : World → FrameType → FrameType → Bool
is_below world type other = flows world (erased world type) (erased world other)

-- an interface J with a superclass P, and a class R with none beside java/lang/Object
abbrev pub crooked : World
crooked =
    world_of (without_front (object ∷ []))
    (Holds (public_class (codes "P") object_name) ∷ Holds (class_with 1537 (codes "J") (Some (codes "P")) [] [])
    ∷ Holds (class_with 1 (codes "R") None [] []) ∷ [])

-- a system's classes that root each world that begins with them
abbrev pub system : List Class
system =
    object ∷ interface (codes "java/lang/Cloneable") ∷ interface (codes "java/io/Serializable")
    ∷ public_class (codes "java/lang/Throwable") object_name ∷ []

-- and a world that begins with a class in the place of java/lang/Cloneable
abbrev pub without_cloneable : World
without_cloneable =
    world_of
    (without_front (object ∷ public_class (codes "java/lang/Copier") object_name
    ∷ public_class (codes "java/lang/Cloneable") (codes "java/lang/Copier") ∷ []))
    []

pub record WorkedOrderRows : Type 0 where
  pub interface_erased : erased world (class (codes "I")) ≡ class object_name
  pub interfaces_erased : erased world (objects (codes "I")) ≡ objects object_name
  pub arrays_of_interface_erased : erased world (arrays_of (codes "I")) ≡ arrays_of object_name
  pub class_kept : erased world (class (codes "C")) ≡ class (codes "C")
  pub object_kept : erased world (class object_name) ≡ class object_name
  pub arrays_of_class_kept : erased world (arrays_of (codes "C")) ≡ arrays_of (codes "C")
  pub ints_kept : erased world ints ≡ ints
  pub arrays_of_ints_kept : erased world arrays_of_ints ≡ arrays_of_ints
  pub int_kept : erased world types.Int ≡ types.Int
  -- an interface that is not loadable, and a class that is not there
  pub broken_kept : erased world (class (codes "Broken")) ≡ class (codes "Broken")
  pub missing_kept : erased world (class (codes "Missing")) ≡ class (codes "Missing")
  pub class_below_superclass : is_below world (class (codes "C")) (class (codes "P")) ≡ true
  pub superclass_below_class : is_below world (class (codes "P")) (class (codes "C")) ≡ false
  pub class_below_interface : is_below world (class (codes "C")) (class (codes "I")) ≡ true
  pub interface_below_class : is_below world (class (codes "I")) (class (codes "C")) ≡ false
  -- an array is below an interface to which it does not flow
  pub ints_to_interface : flows world ints (class (codes "I")) ≡ false
  pub ints_below_interface : is_below world ints (class (codes "I")) ≡ true
  pub interfaces_below_objects : is_below world (objects (codes "I")) (objects object_name) ≡ true
  pub objects_below_classes : is_below world (objects object_name) (objects (codes "C")) ≡ false
  -- a class that is not there flows to an interface that it is not below: it is not below java/lang/Object
  pub missing_to_interface : flows world (class (codes "Missing")) (class (codes "I")) ≡ true
  pub missing_below_interface : is_below world (class (codes "Missing")) (class (codes "I")) ≡ false
  -- an interface flows to its superclass, which java/lang/Object is not below
  pub interface_to_superclass : flows crooked (class (codes "J")) (class (codes "P")) ≡ true
  pub interface_below_superclass : is_below crooked (class (codes "J")) (class (codes "P")) ≡ false
  -- a loadable class without a superclass flows to an interface that it is not below, and not to java/lang/Object
  pub rootless_to_object : flows crooked (class (codes "R")) (class object_name) ≡ false
  pub rootless_to_interface : flows crooked (class (codes "R")) (class (codes "J")) ≡ true
  pub rootless_below_interface : is_below crooked (class (codes "R")) (class (codes "J")) ≡ false
  -- an array is below a class java/lang/Cloneable, and not below the class above that
  pub ints_below_cloneable : is_below without_cloneable ints (class (codes "java/lang/Cloneable")) ≡ true
  pub cloneable_below_copier : is_below without_cloneable (class (codes "java/lang/Cloneable")) (class (codes "java/lang/Copier")) ≡ true
  pub ints_below_copier : is_below without_cloneable ints (class (codes "java/lang/Copier")) ≡ false
  -- whatever classes a guest has
  pub rooted : (guests : World) → is_rooted_by system (map (loaded true) system ++ guests) ≡ true
