-- What a constant was resolved to, by numbers.
use Rattle.std.proofs.Common.{◌≡◌, ℕ, ◌+◌, ◌<◌, Bool, true, false, List, Option, Some, None, Ok, length, refl, sym, ap, subst, ◌∙◌, arith, slice_get}
use Rattle.std.specs.Prelude.{IsSome, is_some, if◌then◌else◌}
use Rattle.std.specs.Option.{option_map, ok_or}
use Rattle.std.specs.Borrow.{Bor}
use Rattle.jv_text.specs.declared.descriptor.Element.{Element}
use Rattle.jv_text.specs.declared.descriptor.Element.TheVariants as elements
use Rattle.jv_text.specs.declared.descriptor.FieldTypeOf.{FieldTypeOf}
use Rattle.jv_text.specs.Name.{is_array_name}
use Rattle.jv_text.specs.Seen.{seen_element}
use Rattle.jv_text.specs.Types.{field_type_of}
use Rattle.jv_meaning_world.specs.World.{Loaded, World, class_named, can_name}
use Rattle.jv_meaning_world.specs.Numbers.{IsNumbered, number_named}
use Rattle.jv_meaning_typing.specs.LinkErrors.{OrError, ◌>>=◌, provided, unless_wrong}
use Rattle.jv_meaning_typing.specs.LinkErrors.LinkError.{NoClassDefFoundError, IllegalAccessError}
use Rattle.jv_meaning_typing.specs.ClassResolution.{ResolvedClass, error_of_class, resolve_name, resolve_element, resolve_array, resolve_text}
use Rattle.jv_meaning_typing.specs.ClassResolution.ResolvedClass.{ClassOf, ArrayOf}
use Rattle.jv_meaning_typing.proofs.Found.{went_on, there}
use Rattle.jv_meaning_machine.specs.Effects.{resolved_type}
use Rattle.jv_link.specs.declared.target.ClassRef.{ClassRef}
use Rattle.jv_link.specs.declared.target.ClassRef.TheVariants as refs
use Rattle.jv_link.specs.Seen.{answer, class_ref_at}
use Rattle.jv_classes.proofs.Numbers.{number_at, numbered, position_within}
use Rattle.jv_link_cache.specs.ClassUses.{class_of_element}
use Rattle.jv_interp_heap.specs.ObjectsInBlocks.{HasNumber, IsElement}
use Rattle.std.proofs.lemmas.Option.{same_Some}
use Rattle.jv_interp_objects.specs.declared.types.NumberedType.{NumberedType}
use Rattle.jv_interp_objects.specs.Types.{IsOfType}
use Rattle.jv_interp_objects.specs.Named.{IsTypeOf}
use Rattle.jv_interp_objects.specs.Inside.Refs.{IsThere, HasElement}
use Rattle.jv_interp_objects.proofs.ClassNumbers.{own_name}

-- ---- a class by its name, and one that a constant was resolved to

pub is_named : (world : World) (name : List ℕ) (number : ℕ) → number_named world name ≡ Some number → IsSome (class_named world name) → HasNumber world name number
is_named world name number e some = by_class (class_named world name) refl some
  where
    by_class : (o : Option Loaded) → class_named world name ≡ o → IsSome o → HasNumber world name number
    by_class None is h = absurd cc
    by_class (Some l) is h = record { l = l; named = is; at = sym (number_at world name number e) ∙ is }

pub no_number : (world : World) (name : List ℕ) → number_named world name ≡ None → IsSome (class_named world name) → ⊥
no_number world name e some = by_class (class_named world name) refl some
  where
    clash : {k : ℕ} → None ≡ Some k → ⊥
    clash e = cc

    by_class : (o : Option Loaded) → class_named world name ≡ o → IsSome o → ⊥
    by_class None is h = absurd cc
    by_class (Some l) is h = let n = numbered world name l is in clash (sym e ∙ n.1)

class_type :
    (world : World) → IsNumbered world → (number : ℕ) (l : Loaded) → slice_get world number ≡ Some l
    → IsOfType world (resolved_type (ClassOf l)) (record { dimensions = 0; element = number + 8 })
class_type world numbers number l at =
    record {
      dimensions = refl;
      element = (number, record { l = l; named = own_name world numbers number l at; at = at }, omega arith);
    }

pub class_resolved :
    (world : World) → IsNumbered world → (number : ℕ) (r : ResolvedClass) → class_ref_at world (refs.Class number) ≡ Some r
    → IsOfType world (resolved_type r) (record { dimensions = 0; element = number + 8 })
class_resolved world numbers number r e = by_class (slice_get world number) refl e
  where
    by_class :
        (o : Option Loaded) → slice_get world number ≡ o → option_map ClassOf o ≡ Some r
        → IsOfType world (resolved_type r) (record { dimensions = 0; element = number + 8 })
    by_class None at e = absurd cc
    by_class (Some l) at e =
        subst (λ (x : ResolvedClass). IsOfType world (resolved_type x) (record { dimensions = 0; element = number + 8 }))
        (same_Some (ClassOf l) r e) (class_type world numbers number l at)

-- ---- what is resolved has its element's class

ok_same : (a b : ResolvedClass) → ◌≡◌ {A = OrError ResolvedClass} (Ok a) (Ok b) → a ≡ b
ok_same a b e = cc

some_of : {A : Type 0} (o : Option A) (a : A) → o ≡ Some a → IsSome o
some_of o a e = ap is_some e

name_is_there : (world : World) (current : Loaded) (name : List ℕ) (l : Loaded) → resolve_name world current name ≡ Ok l → IsSome (class_named world name)
name_is_there world current name l e =
    let open_to =
    went_on (ok_or (class_named world name) NoClassDefFoundError >>= (λ l. unless_wrong (error_of_class world l) l))
    (λ l. provided (can_name current l) IllegalAccessError l) l e in
    let found = went_on (ok_or (class_named world name) NoClassDefFoundError) (λ l. unless_wrong (error_of_class world l) l) open_to.0 open_to.1 in
    some_of (class_named world name) found.0 (there (class_named world name) NoClassDefFoundError found.0 found.1)

pub has_element : (world : World) (current : Loaded) (text : List ℕ) (r : ResolvedClass) → resolve_text world current text ≡ Ok r → HasElement world r
has_element world current text r e = by_kind (is_array_name text) e
  where
    by_element :
        (type : FieldTypeOf (List ℕ)) (element : Element (List ℕ)) → type.element ≡ element
        → resolve_element world current type element ≡ Ok r → HasElement world r
    by_element type (elements.Base base) is e =
        subst (λ (x : ResolvedClass). HasElement world x) (ok_same (ArrayOf type) r e)
        (subst (λ (x : Element (List ℕ)). IsThere world x) (sym is) tt)
    by_element type (elements.Class name) is e =
        let found = went_on (resolve_name world current name) (λ l. Ok (ArrayOf type)) r e in
        subst (λ (x : ResolvedClass). HasElement world x) (ok_same (ArrayOf type) r found.2)
        (subst (λ (x : Element (List ℕ)). IsThere world x) (sym is) (name_is_there world current name found.0 found.1))

    by_type : (o : Option (FieldTypeOf (List ℕ))) → resolve_array world current o ≡ Ok r → HasElement world r
    by_type None e = absurd cc
    by_type (Some type) e = by_element type type.element refl e

    by_kind :
        (b : Bool)
        → (if b then resolve_array world current (field_type_of text) else resolve_name world current text >>= (λ l. Ok (ClassOf l))) ≡ Ok r
        → HasElement world r
    by_kind true e = by_type (field_type_of text) e
    by_kind false e =
        let found = went_on (resolve_name world current text) (λ l. Ok (ClassOf l)) r e in
        subst (λ (x : ResolvedClass). HasElement world x) (ok_same (ClassOf found.0) r found.2) tt

-- ---- what linking answers

pub type_answered :
    (world : World) (current : Loaded) (text : List ℕ) (found : ClassRef) (numbers : NumberedType)
    → option_map answer (class_ref_at world found) ≡ Some (resolve_text world current text)
    → ((r : ResolvedClass) → class_ref_at world found ≡ Some r → HasElement world r → IsOfType world (resolved_type r) numbers)
    → IsTypeOf world (resolve_text world current text) numbers
type_answered world current text found numbers e tells = by_ref (class_ref_at world found) refl e
  where
    by_ref :
        (o : Option ResolvedClass) → class_ref_at world found ≡ o → option_map answer o ≡ Some (resolve_text world current text)
        → IsTypeOf world (resolve_text world current text) numbers
    by_ref None at e = absurd cc
    by_ref (Some r) at e =
        let is : resolve_text world current text ≡ Ok r = sym (same_Some (answer r) (resolve_text world current text) e) in
        record { resolved = r; is = is; of_type = tells r at (has_element world current text r is) }

-- ---- an element, as code has it

-- one of a class whose number is known, or that has none
pub element_found :
    (world : World) (element : Element (Bor (List ℕ))) (name : Bor (List ℕ)) (number : ℕ) → element ≡ elements.Class name
    → Some number ≡ class_of_element world (seen_element element) → IsThere world (seen_element element)
    → IsElement world (seen_element element) (number + 8)
element_found world element name number is e =
    subst (λ (x : Element (Bor (List ℕ))). Some number ≡ class_of_element world (seen_element x) → IsThere world (seen_element x)
    → IsElement world (seen_element x) (number + 8)) (sym is)
    (λ e there. (number, is_named world name.now number (sym e) there, omega arith)) e

pub element_missing :
    (world : World) (element : Element (Bor (List ℕ))) (name : Bor (List ℕ)) → element ≡ elements.Class name
    → None ≡ class_of_element world (seen_element element) → IsThere world (seen_element element)
    → IsElement world (seen_element element) 0
element_missing world element name is e =
    subst (λ (x : Element (Bor (List ℕ))). None ≡ class_of_element world (seen_element x) → IsThere world (seen_element x)
    → IsElement world (seen_element x) 0) (sym is)
    (λ e there. absurd (no_number world name.now (sym e) there)) e

pub element_within : (world : World) (element : Element (List ℕ)) (number : ℕ) → Some number ≡ class_of_element world element → number < length world
element_within world (elements.Base base) number e = absurd cc
element_within world (elements.Class name) number e = position_within _ world number (sym e)
