-- Arguments have as many words as the descriptor says.
use Rattle.std.proofs.Common.{◌≡◌, ℕ, zero, suc, ◌+◌, ◌≤◌, Bool, true, false, List, [], ◌∷◌, ◌++◌, length, map, reverse, nat_le, Option, Some, None, Ok, refl, sym, ap, subst, ◌∙◌, arith, length-append}
use Rattle.std.specs.Prelude.{sum_by, if◌then◌else◌, ◌&&◌, ◌==◌}
use Rattle.std.specs.List.{flat_map, list_all}
use Rattle.std.specs.Option.{option_map, option_and_then}
use Rattle.std.proofs.lemmas.Bool.{and_parts}
use Rattle.std.proofs.lemmas.Grind.{common_steps}
use Rattle.std.proofs.lemmas.List.{reverse-append, map-append}
use Rattle.std.proofs.lemmas.Bool.Decides.{Decides-eqb}
use Rattle.std.proofs.lemmas.List.Sums.{sum_by-cons, sum_by-append}
use Rattle.jv_text.specs.declared.descriptor.Base.{Base}
use Rattle.jv_text.specs.declared.descriptor.Base.TheVariants as bases
use Rattle.jv_text.specs.declared.descriptor.Element.{Element}
use Rattle.jv_text.specs.declared.descriptor.Element.TheVariants as elements
use Rattle.jv_text.specs.declared.descriptor.FieldTypeOf.{FieldTypeOf}
use Rattle.jv_text.specs.Descriptor.{is_field_type, MethodDescriptor, is_wide, field_slots, slots}
use Rattle.jv_text.specs.Types.{parameters_at, result_of, method_with, method_alone, method_behind, method_type_of}
use Rattle.jv_stackmap.specs.Types.{FrameType, value_type_by, value_type}
use Rattle.jv_code.specs.declared.kinds.ValueKind.TheVariants as kinds
use Rattle.jv_meaning_machine.specs.Faults.{OrFault, tested, ◌>>=◌}
use Rattle.jv_meaning_machine.specs.Faults.Fault.{TagFault}
use Rattle.jv_meaning_machine.specs.Values.{Value, is_reference_value, has_kind, has_type}
use Rattle.jv_meaning_machine.specs.Values.Value.{Int, Long, Null, Reference, Half, Unset}
use Rattle.jv_meaning_machine.specs.Objects.{Object}
use Rattle.jv_meaning_machine.specs.Frames.{local_words}
use Rattle.jv_meaning_machine.specs.Operands.{usable_value, popped, popped_as, taken_as, taken_before, taken}
use Rattle.jv_interp_words.proofs.Gave.{bound_gave, tested_gave}
use Rattle.jv_interp_words.proofs.Taken.{popped_gave, taken_gave}

-- ---- values by their types

int_width : (v : Value) → has_kind kinds.Int v ≡ true → length (local_words v) ≡ 1
int_width (Int n) e = refl
int_width (Long n) e = absurd cc
int_width Null e = absurd cc
int_width (Reference id) e = absurd cc
int_width Half e = absurd cc
int_width Unset e = absurd cc

long_width : (v : Value) → has_kind kinds.Long v ≡ true → length (local_words v) ≡ 2
long_width (Int n) e = absurd cc
long_width (Long n) e = refl
long_width Null e = absurd cc
long_width (Reference id) e = absurd cc
long_width Half e = absurd cc
long_width Unset e = absurd cc

reference_width : (v : Value) → is_reference_value v ≡ true → length (local_words v) ≡ 1
reference_width (Int n) e = absurd cc
reference_width (Long n) e = absurd cc
reference_width Null e = refl
reference_width (Reference id) e = refl
reference_width Half e = absurd cc
reference_width Unset e = absurd cc

not_zero : (n : ℕ) → (suc n == 0) ≡ false
not_zero n = by_test (suc n == 0) refl
  where
    by_test : (b : Bool) → (suc n == 0) ≡ b → b ≡ false
    by_test false e = refl
    by_test true e = absurd (omega (arith, (Decides-eqb (suc n) 0).0 e))

-- no value is of the types of floating point numbers
width_by :
    (dimensions : ℕ) (element : Element (List ℕ)) (v : Value) → has_type (value_type_by dimensions element) v ≡ true
    → length (local_words v) ≡ (if dimensions == 0 && is_wide element then 2 else 1)
width_by zero (elements.Base bases.Byte) v e = int_width v e
width_by zero (elements.Base bases.Char) v e = int_width v e
width_by zero (elements.Base bases.Short) v e = int_width v e
width_by zero (elements.Base bases.Boolean) v e = int_width v e
width_by zero (elements.Base bases.Int) v e = int_width v e
width_by zero (elements.Base bases.Long) v e = long_width v e
width_by zero (elements.Base bases.Float) v e = absurd cc
width_by zero (elements.Base bases.Double) v e = absurd cc
width_by zero (elements.Class name) v e = reference_width v e
width_by (suc n) element v e = reference_width v e ∙ ap (λ (b : Bool). if b && is_wide element then 2 else 1) (sym (not_zero n))

pub value_slots : (type : FieldTypeOf (List ℕ)) (v : Value) → has_type (value_type type) v ≡ true → length (local_words v) ≡ field_slots type
value_slots type v e = width_by type.dimensions type.element v e

-- ---- what is taken

same_head : (a b : Value) (xs ys : List Value) → a ∷ xs ≡ b ∷ ys → a ≡ b
same_head a b xs ys e = ap (λ (l : List Value). elim l [ [] ↦ a | x ∷ _ ↦ x ]) e

one_width :
    (objects : List Object) (type : FieldTypeOf (List ℕ)) (stack : List Value) (top : Value × List Value)
    → taken_as objects (value_type type) stack ≡ Ok top → length (local_words top.0) ≡ field_slots type
one_width objects type stack top e =
    let parts =
    bound_gave (popped_as (value_type type) stack) (λ (p : Value × List Value). usable_value objects p.0 >>= λ value. Ok (value, p.1)) top e in
    let inner = bound_gave (popped stack) (λ (p : Value × List Value). tested TagFault (has_type (value_type type) p.0) p) parts.0 parts.1 in
    let held = (tested_gave TagFault (has_type (value_type type) inner.0.0) inner.0 parts.0 inner.2).0 in
    let same : inner.0.0 ≡ top.0 =
    same_head inner.0.0 top.0 inner.0.1 top.1 (sym (popped_gave stack inner.0 inner.1) ∙ taken_gave objects (value_type type) stack top e) in
    subst (λ (v : Value). length (local_words v) ≡ field_slots type) same (value_slots type inner.0.0 held)

same_first : (a b : List Value × List Value) → ◌≡◌ {A = OrFault (List Value × List Value)} (Ok a) (Ok b) → a ≡ b
same_first a b e = cc

before_width :
    (objects : List Object) (values : List Value) (types : List (FieldTypeOf (List ℕ))) (stack : List Value) (operands : List Value × List Value)
    → taken_before objects values (map value_type types) stack ≡ Ok operands
    → length (flat_map local_words operands.0) ≡ sum_by field_slots types + length (flat_map local_words values)
before_width objects values [] stack operands e =
    let same = ap (λ (p : List Value × List Value). length (flat_map local_words p.0)) (sym (same_first (values, stack) operands e)) in
    let nothing : sum_by field_slots [] ≡ 0 = refl in
    omega (arith, same, nothing)
before_width objects values (type ∷ more) stack operands e =
    let parts =
    bound_gave (taken_as objects (value_type type) stack)
    (λ (top : Value × List Value). taken_before objects (top.0 ∷ values) (map value_type more) top.1) operands e in
    let rest = before_width objects (parts.0.0 ∷ values) more parts.0.1 operands parts.2 in
    let own = one_width objects type stack parts.0 parts.1 in
    let sum = sum_by-cons field_slots type more in
    omega (arith, rest, own, sum, length-append (local_words parts.0.0) (flat_map local_words values))

map_reversed : (types : List (FieldTypeOf (List ℕ))) → reverse (map value_type types) ≡ map value_type (reverse types)
map_reversed [] = refl
map_reversed (type ∷ more) =
    reverse-append (value_type type ∷ []) (map value_type more)
    ∙ ap (λ (l : List FrameType). l ++ value_type type ∷ []) (map_reversed more)
    ∙ sym (map-append value_type (reverse more) (type ∷ []))
    ∙ ap (map value_type) (sym (reverse-append (type ∷ []) more))

sum_reversed : (types : List (FieldTypeOf (List ℕ))) → sum_by field_slots (reverse types) ≡ sum_by field_slots types
sum_reversed [] = refl
sum_reversed (type ∷ more) =
    let rest = sum_reversed more in
    let turned = ap (sum_by field_slots) (reverse-append (type ∷ []) more) in
    let both = sum_by-append field_slots (reverse more) (type ∷ []) in
    let last = sum_by-cons field_slots type [] in
    let first = sum_by-cons field_slots type more in
    omega (arith, rest, turned, both, last, first)

pub all_width :
    (objects : List Object) (types : List (FieldTypeOf (List ℕ))) (stack : List Value) (operands : List Value × List Value)
    → taken objects (map value_type types) stack ≡ Ok operands → length (flat_map local_words operands.0) ≡ sum_by field_slots types
all_width objects types stack operands e =
    let all =
    before_width objects [] (reverse types) stack operands
    (subst (λ (l : List FrameType). taken_before objects [] l stack ≡ Ok operands) (map_reversed types) e) in
    let turned = sum_reversed types in
    omega (arith, all, turned)

-- ---- of a method there are 255 at most

some_type : (a b : MethodDescriptor) → Some a ≡ Some b → a ≡ b
some_type a b e = cc

within : (n : ℕ) → nat_le n 255 ≡ true → n ≤ 255
within n e = grind (arith, common_steps)

pub few_slots : (text : List ℕ) (type : MethodDescriptor) → method_type_of text ≡ Some type → slots type ≤ 255
few_slots [] type e = absurd cc
few_slots (byte ∷ rest) type e = by_first (byte == 40) e
  where
    by_fit : (m : MethodDescriptor) (b : Bool) → (list_all is_field_type m.parameters && nat_le (slots m) 255) ≡ b → (if b then Some m else None) ≡ Some type → slots type ≤ 255
    by_fit m false is e = absurd cc
    by_fit m true is e =
        subst (λ (x : MethodDescriptor). slots x ≤ 255) (some_type m type e)
        (within (slots m) (and_parts (list_all is_field_type m.parameters) (nat_le (slots m) 255) is).1)

    by_result : (parameters : List (FieldTypeOf (List ℕ))) (o : Option (Option (FieldTypeOf (List ℕ)))) → option_and_then method_alone
        (option_map (method_with parameters) o) ≡ Some type → slots type ≤ 255
    by_result parameters None e = absurd cc
    by_result parameters (Some r) e =
        by_fit (method_with parameters r) (list_all is_field_type parameters && nat_le (slots (method_with parameters r)) 255) refl e

    by_parameters : (o : Option (List (FieldTypeOf (List ℕ)) × List ℕ)) → option_and_then method_behind o ≡ Some type → slots type ≤ 255
    by_parameters None e = absurd cc
    by_parameters (Some found) e = by_result found.0 (result_of found.1) e

    by_first : (b : Bool) → (if b then option_and_then method_behind (parameters_at (length rest) rest) else None) ≡ Some type → slots type ≤ 255
    by_first false e = absurd cc
    by_first true e = by_parameters (parameters_at (length rest) rest) e
