-- Types as numbers: no two types have the same.
use Rattle.std.proofs.Common.{◌≡◌, ℕ, true, ◌&&◌, refl, sym, ◌∙◌, ap}
use Rattle.std.specs.Prelude.{cond, eqb}
use Rattle.std.specs.BTreeMap.{is_at}
use Rattle.std.specs.declared.cmp.Ordering.TheVariants.{Less, Equal, Greater}
use Rattle.std.specs.declared.cmp.Ordering.{Ordering}
use Rattle.std.specs.Ordering.{nat_cmp, ordering_then, is_eq}
use Rattle.std.specs.Cmp.{tied_then}
use Rattle.std.proofs.lemmas.Bool.{and_parts, eqb-true}
use Rattle.std.proofs.lemmas.Map.Lookups.{exact_unsigned}
use Rattle.jv_text.specs.declared.descriptor.Base.{Base}
use Rattle.jv_text.specs.declared.descriptor.Base.TheVariants as bases
use Rattle.jv_text.specs.declared.descriptor.Element.{Element}
use Rattle.jv_text.specs.declared.descriptor.Element.TheVariants as elements
use Rattle.jv_stackmap.specs.declared.verification.VerificationTypeOf.TheVariants as types
use Rattle.jv_verify_types.specs.Numbered.{Item}
use Rattle.jv_verify_wants.specs.Inside.Codes.{array_code, code, same_code, compare}

-- the type that has the numbers
base_by : ℕ → Base
base_by kind =
    cond (eqb kind 8) bases.Byte (cond (eqb kind 9) bases.Char (cond (eqb kind 10) bases.Double (cond (eqb kind 11) bases.Float
    (cond (eqb kind 12) bases.Int (cond (eqb kind 13) bases.Long (cond (eqb kind 14) bases.Short bases.Boolean))))))

item_by : (kind dimensions number : ℕ) → Item
unfolding base_by
item_by kind dimensions number =
    cond (eqb kind 0) types.Top (cond (eqb kind 1) types.Int (cond (eqb kind 2) types.Long (cond (eqb kind 3) types.Null
    (cond (eqb kind 4) types.UninitializedThis (cond (eqb kind 5) (types.Class number) (cond (eqb kind 6) (types.Uninitialized number)
    (cond (eqb kind 7) (types.Array (record { dimensions = dimensions; element = elements.Class number }))
    (types.Array (record { dimensions = dimensions; element = elements.Base (base_by kind) })))))))))

array_by : (dimensions : ℕ) (element : Element ℕ)
    → item_by (array_code dimensions element).0 (array_code dimensions element).1 (array_code dimensions element).2
    ≡ types.Array (record { dimensions = dimensions; element = element })
unfolding item_by base_by
array_by dimensions (elements.Class number) = refl
array_by dimensions (elements.Base bases.Byte) = refl
array_by dimensions (elements.Base bases.Char) = refl
array_by dimensions (elements.Base bases.Double) = refl
array_by dimensions (elements.Base bases.Float) = refl
array_by dimensions (elements.Base bases.Int) = refl
array_by dimensions (elements.Base bases.Long) = refl
array_by dimensions (elements.Base bases.Short) = refl
array_by dimensions (elements.Base bases.Boolean) = refl

by_code : (item : Item) → item_by (code item).0 (code item).1 (code item).2 ≡ item
unfolding item_by
by_code types.Top = refl
by_code types.Int = refl
by_code types.Long = refl
by_code types.Null = refl
by_code types.UninitializedThis = refl
by_code (types.Class number) = refl
by_code (types.Uninitialized offset) = refl
by_code (types.Array array) = array_by array.dimensions array.element

same_numbers : (one other : Item) → (code one).0 ≡ (code other).0 → (code one).1 ≡ (code other).1 → (code one).2 ≡ (code other).2 → one ≡ other
same_numbers one other kinds dimensions numbers =
    sym (by_code one) ∙ ap (λ k. item_by k (code one).1 (code one).2) kinds ∙ ap (λ d. item_by (code other).0 d (code one).2) dimensions
    ∙ ap (λ n. item_by (code other).0 (code other).1 n) numbers ∙ by_code other

pub same_items : (one other : Item) → same_code (code one) (code other) ≡ true → one ≡ other
same_items one other e =
    let parts = and_parts (eqb (code one).0 (code other).0 && eqb (code one).1 (code other).1) (eqb (code one).2 (code other).2) e in
    let front = and_parts (eqb (code one).0 (code other).0) (eqb (code one).1 (code other).1) parts.0 in
    same_numbers one other (eqb-true _ _ front.0) (eqb-true _ _ front.1) (eqb-true _ _ parts.1)

equal_cmp : (a b : ℕ) → is_eq (nat_cmp a b) ≡ true → a ≡ b
equal_cmp a b e = exact_unsigned a b (equal (nat_cmp a b) e)
  where
    equal : (o : Ordering) → is_eq o ≡ true → o ≡ Equal
    equal Less e = absurd cc
    equal Equal e = refl
    equal Greater e = absurd cc

pub equal_items : (one other : Item) → is_at (compare (code one)) (code other) ≡ true → one ≡ other
equal_items one other e =
    let a = nat_cmp (code one).0 (code other).0 in
    let b = nat_cmp (code one).1 (code other).1 in
    let d = nat_cmp (code one).2 (code other).2 in
    let parts = and_parts (is_eq (ordering_then a b)) (is_eq d) (tied_then (ordering_then a b) d ∙ e) in
    let front = and_parts (is_eq a) (is_eq b) (tied_then a b ∙ parts.0) in
    same_numbers one other (equal_cmp _ _ front.0) (equal_cmp _ _ front.1) (equal_cmp _ _ parts.1)
