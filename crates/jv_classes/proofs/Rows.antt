-- Rows of numbers.
use Rattle.std.proofs.Common.{◌≡◌, ℕ, ◌+◌, ◌<◌, ◌≤◌, Bool, true, false, ◌||◌, ◌&&◌, List, [], length, get_or, take, nat_eq, nat_lt, Option, None, refl, sym, ap, ◌∙◌, arith}
use Rattle.std.specs.List.{list_any}
use Rattle.std.proofs.lemmas.List.{get_or-take, get_or-map}
use Rattle.std.proofs.lemmas.Bool.{ltb-true, ltb-false, eqb-true, eqb-false}
use Rattle.std.proofs.lemmas.Grind.{common_steps}
use Rattle.std.specs.Global.{Vec}
use Rattle.jv_classes.specs.Ways.{is_there}
use Rattle.jv_classes.specs.Inside.Rows.{row_of, numbers_of}

abbrev Rows : Type 0
Rows = List (List (Option ℕ))

any_at : Rows → ℕ → ℕ → Bool
any_at rows a b = list_any (is_there b) (get_or rows a [])

before : (rows : Rows) (k a : ℕ) → a < k → get_or (take k rows) a [] ≡ get_or rows a []
before rows k a h = get_or-take k rows a [] h

past : (rows : Rows) (k a : ℕ) → k ≤ a → get_or (take k rows) a [] ≡ []
past rows k a h = grind (arith, common_steps, h)

pub row_more : (rows : Rows) (k a b : ℕ) →
    (list_any (is_there b) (get_or (take k rows) a []) || (nat_eq a k && list_any (is_there b) (get_or rows k []))) ≡ list_any (is_there b)
    (get_or (take (k + 1) rows) a [])
row_more rows k a b =
    elim (nat_eq a k) as (λ t. nat_eq a k ≡ t → (list_any (is_there b) (get_or (take k rows) a []) || (t && list_any (is_there b) (get_or rows k [])))
    ≡ list_any (is_there b) (get_or (take (k + 1) rows) a [])) [
      | true ↦ λ e. here (eqb-true a k e)
      | false ↦ λ e. or_false (list_any (is_there b) (get_or (take k rows) a [])) ∙ ap (list_any (is_there b)) (apart (eqb-false a k e))
    ] refl
  where
    or_false : (x : Bool) → (x || false) ≡ x
    or_false true = refl
    or_false false = refl

    here : a ≡ k → (list_any (is_there b) (get_or (take k rows) a []) || list_any (is_there b) (get_or rows k [])) ≡ list_any (is_there b) (get_or (take (k + 1) rows) a [])
    here same =
        let not_past : k ≤ a = omega (arith, same) in
        let within : a < k + 1 = omega (arith, same) in
        ap (λ r. list_any (is_there b) r || list_any (is_there b) (get_or rows k [])) (past rows k a not_past)
        ∙ (ap (λ i. list_any (is_there b) (get_or rows i [])) (sym same) ∙ ap (list_any (is_there b)) (sym (before rows (k + 1) a within)))

    apart : (a ≡ k → ⊥) → get_or (take k rows) a [] ≡ get_or (take (k + 1) rows) a []
    apart other = elim (nat_lt a k) as (λ t. nat_lt a k ≡ t → get_or (take k rows) a [] ≡ get_or (take (k + 1) rows) a []) [
      | true ↦ λ e.
          let less = ltb-true a k e in
          let within : a < k + 1 = omega (arith, less) in
          before rows k a less ∙ sym (before rows (k + 1) a within)
      | false ↦ λ e.
          let more : k ≤ a = ltb-false a k e in
          let beyond : k + 1 ≤ a = omega (arith, more, other) in
          past rows k a more ∙ sym (past rows (k + 1) a beyond)
    ] refl

-- ---- rows as they are kept

pub row_there : (rows : List (Vec (Option ℕ))) (from : ℕ) (v : Vec (Option ℕ)) → from < length rows → v ≡ get_or rows from v → get_or (numbers_of rows) from [] ≡ v.items
row_there rows from v h e = get_or-map row_of rows from v [] h ∙ ap row_of (sym e)

-- ---- one number a row

abbrev pub told_at : List (Option ℕ) → ℕ → ℕ → Bool
told_at numbers a b = is_there b (get_or numbers a None)

pub told_more : (numbers : List (Option ℕ)) (k a b : ℕ) → (told_at (take k numbers) a b || (nat_eq a k && is_there b (get_or numbers k None))) ≡ told_at (take (k + 1) numbers) a b
told_more numbers k a b =
    elim (nat_eq a k) as (λ t. nat_eq a k ≡ t → (told_at (take k numbers) a b || (t && is_there b (get_or numbers k None))) ≡ told_at (take (k + 1) numbers) a b) [
      | true ↦ λ e. here (eqb-true a k e)
      | false ↦ λ e. or_false (told_at (take k numbers) a b) ∙ ap (is_there b) (apart (eqb-false a k e))
    ] refl
  where
    or_false : (x : Bool) → (x || false) ≡ x
    or_false true = refl
    or_false false = refl

    before_it : (j i : ℕ) → i < j → get_or (take j numbers) i None ≡ get_or numbers i None
    before_it j i h = get_or-take j numbers i None h

    past_it : (j i : ℕ) → j ≤ i → get_or (take j numbers) i None ≡ None
    past_it j i h = grind (arith, common_steps, h)

    here : a ≡ k → (told_at (take k numbers) a b || is_there b (get_or numbers k None)) ≡ told_at (take (k + 1) numbers) a b
    here same =
        let not_past : k ≤ a = omega (arith, same) in
        let within : a < k + 1 = omega (arith, same) in
        ap (λ o. is_there b o || is_there b (get_or numbers k None)) (past_it k a not_past)
        ∙ (ap (λ i. is_there b (get_or numbers i None)) (sym same) ∙ ap (is_there b) (sym (before_it (k + 1) a within)))

    apart : (a ≡ k → ⊥) → get_or (take k numbers) a None ≡ get_or (take (k + 1) numbers) a None
    apart other = elim (nat_lt a k) as (λ t. nat_lt a k ≡ t → get_or (take k numbers) a None ≡ get_or (take (k + 1) numbers) a None) [
      | true ↦ λ e.
          let less = ltb-true a k e in
          let within : a < k + 1 = omega (arith, less) in
          before_it k a less ∙ sym (before_it (k + 1) a within)
      | false ↦ λ e.
          let more : k ≤ a = ltb-false a k e in
          let beyond : k + 1 ≤ a = omega (arith, more, other) in
          past_it k a more ∙ sym (past_it (k + 1) a beyond)
    ] refl

pub told_all : (numbers : List (Option ℕ)) (k : ℕ) → length numbers ≤ k → take k numbers ≡ numbers
told_all numbers k h = grind (arith, common_steps, h)
