-- A number that is related to each of some.
use Rattle.std.proofs.Common.{◌≡◌, ℕ, ◌<◌, Bool, true, false, cond, List, [], ◌||◌, ◌&&◌, nat_eq, length, set, get_or, Option, refl, sym, ap, ◌∙◌, subst}
use Rattle.std.specs.List.{list_any}
use Rattle.std.proofs.lemmas.List.{get_or-set_same, get_or-set_other}
use borrow.Author.Tests.{eqb-true, eqb-false}
use Rattle.jv_classes.specs.Ways.{Rows, IsSquare, related, with_pair, is_there}
use Rattle.jv_classes.proofs.RelationRows.{related_set}

abbrev pub each_of : Rows → ℕ → List (Option ℕ) → ℕ → ℕ → Bool
each_of rows from to a b = related rows a b || (nat_eq a from && list_any (is_there b) to)

written : (row : List Bool) (to b : ℕ) → to < length row → get_or (set row to true) b false ≡ (get_or row b false || nat_eq b to)
written row to b h =
    elim (nat_eq b to) as (λ t. nat_eq b to ≡ t → get_or (set row to true) b false ≡ (get_or row b false || t)) [
      | true ↦ λ e. ap (λ i. get_or (set row to true) i false) (eqb-true b to e) ∙ (get_or-set_same row to true false h ∙ or_true (get_or row b false))
      | false ↦ λ e. get_or-set_other row to b true false (eqb-false b to e) ∙ or_false (get_or row b false)
    ] refl
  where
    or_true : (x : Bool) → true ≡ (x || true)
    or_true true = refl
    or_true false = refl

    or_false : (x : Bool) → x ≡ (x || false)
    or_false true = refl
    or_false false = refl

pub pair_related : (rows : Rows) (from to a b : ℕ) → IsSquare rows → from < length rows → to < length rows → related (with_pair rows from to) a b ≡ (related rows a b || (nat_eq a from && nat_eq b to))
pair_related rows from to a b square h k =
    related_set rows from (set (get_or rows from []) to true) a b h ∙
    (elim (nat_eq a from) as (λ t. nat_eq a from ≡ t → cond t (get_or (set (get_or rows from []) to true) b false) (related rows a b) ≡
    (related rows a b || (t && nat_eq b to))) [
      | true ↦ λ e. written (get_or rows from []) to b (subst (λ n. to < n) (sym (square from [] h)) k) ∙ ap (λ i. related rows i b || nat_eq b to) (sym (eqb-true a from e))
      | false ↦ λ e. or_false (related rows a b)
    ] refl)
  where
    or_false : (x : Bool) → x ≡ (x || false)
    or_false true = refl
    or_false false = refl
