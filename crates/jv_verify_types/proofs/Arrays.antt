-- Arrays that a Class constant names have a dimension.
use Rattle.std.proofs.Common.{◌≡◌, ℕ, suc, ◌-◌, ◌≤◌, nat_le, Bool, true, false, ◌==◌, ◌&&◌, length, List, [], ◌∷◌, Option, Some, None, refl, sym, ap, ◌∙◌, arith, drop, if◌then◌else◌}
use Rattle.std.specs.Option.{option_map, option_and_then}
use Rattle.jv_format.specs.Format.{◌>>=◌}
use Rattle.jv_text.specs.declared.descriptor.Element.{Element}
use Rattle.jv_text.specs.declared.descriptor.FieldTypeOf.{FieldTypeOf}
use Rattle.jv_text.specs.Name.{is_array_name, is_class_name}
use Rattle.jv_text.specs.Descriptor.{is_field_type}
use Rattle.jv_text.specs.Types.{field_type_of, type_alone, with_dimensions, brackets, element_at}
use Rattle.jv_meaning_typing.specs.Named.{when, named_type, array_with, class_components}

if_some : {A : Type 0} (b : Bool) (x t : A) → (if b then Some x else None) ≡ Some t → x ≡ t
if_some true x t e = cc
if_some false x t e = absurd cc

has_dimensions : (n : ℕ) (o : Option (Element (List ℕ) × List ℕ)) (t : FieldTypeOf (List ℕ)) → option_and_then type_alone (option_map (with_dimensions n) o) ≡ Some t → n ≡ t.dimensions
has_dimensions n None t e = absurd cc
has_dimensions n (Some found) t e =
    let one = with_dimensions n found in
    ap (λ (f : FieldTypeOf (List ℕ)). f.dimensions) (if_some (length one.1 == 0 && is_field_type one.0) one.0 t e)

some_dimension : (text : List ℕ) → is_array_name text ≡ true → (t : FieldTypeOf (List ℕ)) → field_type_of text ≡ Some t → 1 ≤ t.dimensions
some_dimension [] e t f = absurd cc
some_dimension (x ∷ rest) e t f =
    let some : brackets (x ∷ rest) ≡ suc (brackets rest) = ap (λ b. if b then suc (brackets rest) else 0) e in
    omega (arith, some, has_dimensions (brackets (x ∷ rest)) (element_at (drop (brackets (x ∷ rest)) (x ∷ rest))) t f)

pub no_array : (o : Option (List ℕ)) (t : FieldTypeOf (List ℕ)) (dimensions : ℕ) → Some t ≡ (o >>= named_type) → (1 ≤ t.dimensions → ⊥)
    → (o >>= λ text. when (is_array_name text) text >>= field_type_of >>= λ type. when (nat_le dimensions type.dimensions)
    (array_with (record { dimensions = type.dimensions - 1; element = type.element }))) ≡ None
no_array None t dimensions e none = refl
no_array (Some text) t dimensions e none = by_array (is_array_name text) refl
  where
    by_array : (b : Bool) → is_array_name text ≡ b
        → (when (is_array_name text) text >>= field_type_of >>= λ type. when (nat_le dimensions type.dimensions)
        (array_with (record { dimensions = type.dimensions - 1; element = type.element }))) ≡ None
    by_array true g =
        let named : named_type text ≡ field_type_of text = ap (λ b. if b then field_type_of text else when (is_class_name text) (class_components text)) g in
        absurd (none (some_dimension text g t (sym named ∙ sym e)))
    by_array false g = ap (λ b. when b text >>= field_type_of >>= λ type. when (nat_le dimensions type.dimensions) (array_with (record { dimensions = type.dimensions - 1; element = type.element }))) g
