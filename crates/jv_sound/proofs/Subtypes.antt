-- What an object is an instance of (by the real hierarchy) its type is below (with interfaces erased): casts, stores into arrays, handlers.
use Rattle.std.proofs.Common.{◌≡◌, ◌⊎◌, inl, inr, ℕ, zero, suc, Bool, true, false, List, [], ◌∷◌, Option, Some, None, refl, subst}
use Rattle.std.specs.Prelude.{IsTrue, if◌then◌else◌}
use Rattle.std.specs.List.{Contains}
use Rattle.std.specs.Str.{bytes_eq}
use Rattle.std.proofs.lemmas.Bool.{or_cases}
use Rattle.jv_text.specs.declared.descriptor.Element.{Element}
use Rattle.jv_text.specs.declared.descriptor.Element.TheVariants as elements
use Rattle.jv_text.specs.declared.descriptor.FieldTypeOf.{FieldTypeOf}
use Rattle.jv_stackmap.specs.declared.verification.VerificationTypeOf.TheVariants as types
use Rattle.jv_stackmap.specs.Types.{value_type, value_type_by}
use Rattle.jv_meaning_world.specs.World.{Loaded, World, class_named}
use Rattle.jv_meaning_world.specs.Above.{above}
use Rattle.jv_meaning_world.specs.Laws.Above.{IsWayUp}
use Rattle.jv_meaning_world.specs.Verdicts.{is_loadable, passes}
use Rattle.jv_meaning_world.proofs.Up.{above_by_ways, super_is_named, same_name}
use Rattle.jv_meaning_world.proofs.Order.{below_is_reflexive}
use Rattle.jv_meaning_world.proofs.OrderAbove.{above_is_below}
use Rattle.jv_meaning_world.specs.Flow.{component_flows, extended, is_above_arrays}
use Rattle.jv_meaning_world.specs.Laws.Order.{IsBelow, IsRooted, names_interface, object_name, erased_name, erased_element, has_loadable_element, is_loadable_type}
use Rattle.jv_meaning_machine.specs.Objects.{Object, type_of_object, is_below, is_at_or_below, is_instance_of}
use Rattle.jv_meaning_machine.specs.Objects.Object.{InstanceOf, ArrayWith}
use Rattle.jv_sound.specs.Values.{object_type}
use Rattle.jv_sound.proofs.Logic.{clash}

-- what is above a class is found by its name
pub above_is_named : (world : World) (class : Rattle.jv_class.specs.Class.Class) (to : Loaded)
    → Contains (above world class) to → class_named world to.class.name ≡ Some to
above_is_named world class to h = let way = (above_by_ways world class to).0 h in by_way class way.0 way.1
  where
    by_way : (c : Rattle.jv_class.specs.Class.Class) (between : List Loaded) → IsWayUp world c between to
        → class_named world to.class.name ≡ Some to
    by_way c [] w = super_is_named world c to w
    by_way c (b ∷ more) w = by_way b.class more w.1

module _ (world : World) (rooted : IsRooted world) where
  -- a loadable class that is another one, or has it above itself
  pub class_below : (x y : List ℕ) → IsTrue (passes (is_loadable world) (class_named world x)) → is_at_or_below world x y ≡ true
      → IsBelow world (types.Class x) (types.Class y)
  class_below x y loadable h = by_same (or_cases (bytes_eq x y) (is_below world (class_named world x) y) h)
    where
      by_class : (o : Option Loaded) → class_named world x ≡ o → IsTrue (passes (is_loadable world) o) → is_below world o y ≡ true
          → IsBelow world (types.Class x) (types.Class y)
      by_class None e l k = absurd (clash l)
      by_class (Some c) e l k = above_is_below world rooted x y c e l k

      by_same : (bytes_eq x y ≡ true) ⊎ (is_below world (class_named world x) y ≡ true) → IsBelow world (types.Class x) (types.Class y)
      by_same (inl e) = subst (λ (n : List ℕ). IsBelow world (types.Class x) (types.Class n)) (same_name x y e)
          (below_is_reflexive world (types.Class x))
      by_same (inr k) = by_class (class_named world x) refl loadable k

  above_erased : (y : List ℕ) → is_above_arrays y ≡ true → is_above_arrays (erased_name world y) ≡ true
  above_erased y e = by_test (names_interface world y)
    where
      by_test : (b : Bool) → is_above_arrays (if b then object_name else y) ≡ true
      by_test true = refl
      by_test false = e

  components_flow : (n m : ℕ) (e f : Element (List ℕ)) → IsTrue (has_loadable_element world e)
      → extended (is_at_or_below world) n e m f ≡ true → component_flows world n (erased_element world e) m (erased_element world f) ≡ true
  components_flow zero zero (elements.Base a) (elements.Base b) l h = h
  components_flow zero zero (elements.Class x) (elements.Class y) l h = class_below x y l h
  components_flow zero zero (elements.Base a) (elements.Class y) l h = absurd (clash h)
  components_flow zero zero (elements.Class x) (elements.Base b) l h = absurd (clash h)
  components_flow (suc n) zero e (elements.Class y) l h = above_erased y h
  components_flow (suc n) zero e (elements.Base b) l h = absurd (clash h)
  components_flow (suc n) (suc m) e f l h = components_flow n m e f l h
  components_flow zero (suc m) (elements.Base a) f l h = absurd (clash h)
  components_flow zero (suc m) (elements.Class x) f l h = absurd (clash h)

  -- an object is below each type of which it is an instance
  pub instance_below : (o : Object) (type : FieldTypeOf (List ℕ)) → IsTrue (has_loadable_element world (type_of_object o).element)
      → is_instance_of world o type ≡ true → IsBelow world (object_type o) (value_type type)
  instance_below (InstanceOf i) type l h = by_class type.dimensions type.element h
    where
      by_class : (m : ℕ) (f : Element (List ℕ)) → extended (is_at_or_below world) zero (elements.Class i.class) m f ≡ true
          → IsBelow world (types.Class i.class) (value_type_by m f)
      by_class zero (elements.Class y) h = class_below i.class y l h
      by_class zero (elements.Base b) h = absurd (clash h)
      by_class (suc m) f h = absurd (clash h)
  instance_below (ArrayWith components values) type l h = by_array type.dimensions type.element h
    where
      by_array : (m : ℕ) (f : Element (List ℕ)) → extended (is_at_or_below world) (suc components.dimensions) components.element m f ≡ true
          → IsBelow world (types.Array components) (value_type_by m f)
      by_array zero (elements.Class y) h = above_erased y h
      by_array zero (elements.Base b) h = absurd (clash h)
      by_array (suc m) f h = components_flow components.dimensions m components.element f l h

-- an object's type is loadable exactly where its element is
pub element_loadable : (world : World) (o : Object) → IsTrue (is_loadable_type world (object_type o))
    → IsTrue (has_loadable_element world (type_of_object o).element)
element_loadable world (InstanceOf i) h = h
element_loadable world (ArrayWith components values) h = h
