-- How wide the components of new arrays are (JVMS 6.5, anewarray and multianewarray).
use Rattle.std.proofs.Common.{◌≡◌, ℕ, zero, suc, ◌-◌, ◌≤◌, Bool, true, false, ◌&&◌, ◌==◌, List, [], ◌∷◌, length, drop, Option, Some, None, Ok, refl, sym, ap, subst, arith}
use Rattle.std.specs.Prelude.{if◌then◌else◌}
use Rattle.std.specs.Option.{option_map, option_and_then}
use Rattle.std.proofs.lemmas.Bool.{eqb-true}
use Rattle.std.proofs.lemmas.Grind.{common_steps}
use Rattle.std.proofs.lemmas.Option.{cond_some}
use Rattle.jv_text.specs.declared.descriptor.Base.{Base}
use Rattle.jv_text.specs.declared.descriptor.Element.{Element}
use Rattle.jv_text.specs.declared.descriptor.Element.TheVariants as elements
use Rattle.jv_text.specs.declared.descriptor.FieldTypeOf.{FieldTypeOf}
use Rattle.jv_text.specs.Name.{is_array_name}
use Rattle.jv_text.specs.Descriptor.{is_field_type, is_wide}
use Rattle.jv_text.specs.Types.{brackets, element_at, with_dimensions, type_alone, field_type_of}
use Rattle.jv_meaning_world.specs.World.{Loaded, World}
use Rattle.jv_meaning_typing.specs.LinkErrors.{OrError, ◌>>=◌}
use Rattle.jv_meaning_typing.specs.ClassResolution.{ResolvedClass, resolve_name, resolve_element, resolve_array, resolve_text}
use Rattle.jv_meaning_typing.specs.ClassResolution.ResolvedClass.{ClassOf, ArrayOf}
use Rattle.jv_meaning_typing.proofs.Found.{went_on}
use Rattle.jv_meaning_machine.specs.Effects.{resolved_type}
use Rattle.jv_interp_objects.specs.NestedArrays.{HoldsArrays}
use Rattle.jv_interp_objects.specs.Inside.Slots.{HasSlots}

-- ---- an array that a constant was resolved to is its text's

array_same : (a b : FieldTypeOf (List ℕ)) → ◌≡◌ {A = OrError ResolvedClass} (Ok (ArrayOf a)) (Ok (ArrayOf b)) → a ≡ b
array_same a b e = cc

pub array_text :
    (world : World) (current : Loaded) (text : List ℕ) (type : FieldTypeOf (List ℕ)) → resolve_text world current text ≡ Ok (ArrayOf type)
    → (is_array_name text ≡ true) × (field_type_of text ≡ Some type)
array_text world current text type e = by_kind (is_array_name text) refl e
  where
    by_element : (found : FieldTypeOf (List ℕ)) (element : Element (List ℕ)) → resolve_element world current found element ≡ Ok (ArrayOf type) → found ≡ type
    by_element found (elements.Base base) e = array_same found type e
    by_element found (elements.Class name) e =
        let named = went_on (resolve_name world current name) (λ l. Ok (ArrayOf found)) (ArrayOf type) e in array_same found type named.2

    by_type : (o : Option (FieldTypeOf (List ℕ))) → resolve_array world current o ≡ Ok (ArrayOf type) → o ≡ Some type
    by_type None e = absurd cc
    by_type (Some found) e = ap Some (by_element found found.element e)

    class_clash : (l : Loaded) → ◌≡◌ {A = OrError ResolvedClass} (Ok (ClassOf l)) (Ok (ArrayOf type)) → ⊥
    class_clash l e = cc

    by_kind :
        (b : Bool) → is_array_name text ≡ b
        → (if b then resolve_array world current (field_type_of text) else resolve_name world current text >>= (λ l. Ok (ClassOf l)))
        ≡ Ok (ArrayOf type)
        → (is_array_name text ≡ true) × (field_type_of text ≡ Some type)
    by_kind true is e = (is, by_type (field_type_of text) e)
    by_kind false is e =
        let found = went_on (resolve_name world current text) (λ l. Ok (ClassOf l)) (ArrayOf type) e in absurd (class_clash found.0 found.2)

-- it has a dimension
pub some_dimension : (text : List ℕ) (type : FieldTypeOf (List ℕ)) → is_array_name text ≡ true → field_type_of text ≡ Some type → (n : ℕ) × (type.dimensions ≡ suc n)
some_dimension [] type array e = absurd cc
some_dimension (byte ∷ rest) type array e =
    by_element (element_at (drop (brackets rest) rest)) (subst (λ (n : ℕ). field_type_of (n ∷ rest) ≡ Some type) (eqb-true byte 91 array) e)
  where
    by_element :
        (found : Option (Element (List ℕ) × List ℕ))
        → option_and_then type_alone (option_map (with_dimensions (suc (brackets rest))) found) ≡ Some type → (n : ℕ) × (type.dimensions ≡ suc n)
    by_element None e = absurd cc
    by_element (Some found) e =
        let one = with_dimensions (suc (brackets rest)) found in
        (brackets rest, sym (ap (λ (t : FieldTypeOf (List ℕ)). t.dimensions) (cond_some (length one.1 == 0 && is_field_type one.0) one.0 type e).1))

-- ---- components that are references

many_slots : (n : ℕ) (element : Element (List ℕ)) → HasSlots (record { dimensions = suc n; element = element }) 1
many_slots n element = record { width_is = refl; cells_are = ap (λ (b : Bool). if b && is_wide element then 2 else 1) (not_zero n) }
  where
    not_zero : (n : ℕ) → (suc n == 0) ≡ false
    not_zero n = grind (arith, common_steps)

pub array_slots : (type : FieldTypeOf (List ℕ)) (n : ℕ) → type.dimensions ≡ suc n → HasSlots type 1
array_slots type n e = subst (λ (d : ℕ). HasSlots (record { dimensions = d; element = type.element }) 1) (sym e) (many_slots n type.element)

pub reference_slots : (world : World) (current : Loaded) (text : List ℕ) (r : ResolvedClass) → resolve_text world current text ≡ Ok r → HasSlots (resolved_type r) 1
reference_slots world current text (ClassOf l) e = record { width_is = refl; cells_are = refl }
reference_slots world current text (ArrayOf type) e =
    let parts = array_text world current text type e in
    let some = some_dimension text type parts.0 parts.1 in
    array_slots type some.0 some.1

-- ---- arrays in arrays

pub holds_arrays :
    (slots : ℕ) (element : Element (List ℕ)) (m d : ℕ) → m ≤ d → HasSlots (record { dimensions = d - m; element = element }) slots
    → HoldsArrays slots (suc m) (record { dimensions = d; element = element })
holds_arrays slots element zero d less h =
    let same : d - 0 ≡ d = omega arith in
    let here = subst (λ (n : ℕ). HasSlots (record { dimensions = n; element = element }) slots) same h in
    (here.width_is, here.cells_are)
holds_arrays slots element (suc m) d less h =
    let fewer : d - suc m ≡ d - 1 - m = omega arith in (
      omega (arith, less),
      holds_arrays slots element m (d - 1) (omega (arith, less))
          (subst (λ (n : ℕ). HasSlots (record { dimensions = n; element = element }) slots) fewer h),
    )
