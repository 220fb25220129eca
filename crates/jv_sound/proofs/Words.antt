-- The words of parameters are their slots; limits of a stack map's frames.
use Rattle.std.proofs.Common.{◌≡◌, ℕ, zero, suc, ◌+◌, Bool, true, false, not, ◌&&◌, ◌==◌, List, [], ◌∷◌, ◌||◌, map, Option, Some, None, refl, sym, ap, ◌∙◌, arith}
use Rattle.std.specs.Prelude.{if◌then◌else◌}
use Rattle.std.specs.List.{list_any}
use Rattle.std.proofs.lemmas.List.Sums.{sum_by-cons}
use Rattle.jv_text.specs.declared.descriptor.Base.TheVariants as bases
use Rattle.jv_text.specs.declared.descriptor.Element.{Element}
use Rattle.jv_text.specs.declared.descriptor.Element.TheVariants as elements
use Rattle.jv_text.specs.declared.descriptor.FieldTypeOf.{FieldTypeOf}
use Rattle.jv_text.specs.Descriptor.{MethodDescriptor, slots, field_slots, is_floating_element, is_floating, is_floating_result, is_floating_method}
use Rattle.jv_stackmap.specs.Types.{value_type, value_type_by, width, words}
use Rattle.jv_sound.specs.Sound.{IsSort, AreSorts, IsResultSort}
use Rattle.jv_sound.proofs.Logic.{clash}

slots_by : (n : ℕ) (e : Element (List ℕ)) → IsSort (value_type_by n e)
    → width (value_type_by n e) ≡ field_slots (record { dimensions = n; element = e })
slots_by (suc n) (elements.Base base) h = by_test (suc n == 0) refl
  where
    not_zero : suc n ≡ 0 → ⊥
    not_zero z = absurd (omega (arith, z))

    by_test : (b : Bool) → (suc n == 0) ≡ b → ◌≡◌ {A = ℕ} 1 (if b && Rattle.jv_text.specs.Descriptor.is_wide
        (elements.Base base) then 2 else 1)
    by_test false e = refl
    by_test true e = absurd (not_zero (Rattle.std.proofs.lemmas.Bool.eqb-true (suc n) 0 e))
slots_by (suc n) (elements.Class name) h = by_test (suc n == 0)
  where
    by_test : (b : Bool) → ◌≡◌ {A = ℕ} 1 (if b && false then 2 else 1)
    by_test false = refl
    by_test true = refl
slots_by zero (elements.Base bases.Byte) h = refl
slots_by zero (elements.Base bases.Char) h = refl
slots_by zero (elements.Base bases.Short) h = refl
slots_by zero (elements.Base bases.Boolean) h = refl
slots_by zero (elements.Base bases.Int) h = refl
slots_by zero (elements.Base bases.Long) h = refl
slots_by zero (elements.Base bases.Float) h = absurd h
slots_by zero (elements.Base bases.Double) h = absurd h
slots_by zero (elements.Class name) h = refl

slots_of_list : (ps : List (FieldTypeOf (List ℕ))) → AreSorts ps
    → words (map value_type ps) ≡ Rattle.std.specs.Prelude.sum_by field_slots ps
slots_of_list [] h = refl
slots_of_list (p ∷ ps) h =
    sum_by-cons width (value_type p) (map value_type ps)
    ∙ (ap (λ (n : ℕ). n + words (map value_type ps)) (slots_by p.dimensions p.element h.0) ∙
    (ap (λ (n : ℕ). field_slots p + n) (slots_of_list ps h.1) ∙ sym (sum_by-cons field_slots p ps)))

pub slots_are_words : (descriptor : MethodDescriptor) → AreSorts descriptor.parameters
    → words (map value_type descriptor.parameters) ≡ slots descriptor
slots_are_words descriptor h = slots_of_list descriptor.parameters h

-- what is not floating has values
pub sort_by : (n : ℕ) (e : Element (List ℕ)) → not (is_floating_element e) ≡ true → IsSort (value_type_by n e)
sort_by (suc n) e h = tt
sort_by zero (elements.Base bases.Byte) h = tt
sort_by zero (elements.Base bases.Char) h = tt
sort_by zero (elements.Base bases.Short) h = tt
sort_by zero (elements.Base bases.Boolean) h = tt
sort_by zero (elements.Base bases.Int) h = tt
sort_by zero (elements.Base bases.Long) h = tt
sort_by zero (elements.Base bases.Float) h = absurd (clash h)
sort_by zero (elements.Base bases.Double) h = absurd (clash h)
sort_by zero (elements.Class name) h = tt

pub plain_sort : (t : FieldTypeOf (List ℕ)) → not (is_floating t) ≡ true → IsSort (value_type t)
plain_sort t h = sort_by t.dimensions t.element h

sorts_of : (ps : List (FieldTypeOf (List ℕ))) → list_any is_floating ps ≡ false → AreSorts ps
sorts_of [] h = tt
sorts_of (p ∷ ps) h = let parts = or_parts (is_floating p) (list_any is_floating ps) h in
    (plain_sort p (ap not parts.0), sorts_of ps parts.1)
  where
    or_parts : (a b : Bool) → (a || b) ≡ false → (a ≡ false) × (b ≡ false)
    or_parts false b e = (refl, e)
    or_parts true b e = absurd (clash (sym e))

result_of_plain : (r : Option (FieldTypeOf (List ℕ))) → is_floating_result r ≡ false → IsResultSort r
result_of_plain None h = tt
result_of_plain (Some t) h = plain_sort t (ap not h)

pub plain_sorts : (d : MethodDescriptor) → not (is_floating_method d) ≡ true → AreSorts d.parameters × IsResultSort d.result
plain_sorts d h = let parts = or_parts (list_any is_floating d.parameters) (is_floating_result d.result)
    (not_true (is_floating_method d) h) in (sorts_of d.parameters parts.0, result_of_plain d.result parts.1)
  where
    or_parts : (a b : Bool) → (a || b) ≡ false → (a ≡ false) × (b ≡ false)
    or_parts false b e = (refl, e)
    or_parts true b e = absurd (clash (sym e))

    not_true : (b : Bool) → not b ≡ true → b ≡ false
    not_true false e = refl
    not_true true e = absurd (clash e)
