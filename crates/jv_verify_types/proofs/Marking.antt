-- Marks on names.
use Rattle.std.proofs.Common.{◌≡◌, ℕ, ◌<◌, Bool, true, false, ◌||◌, nat_eq, List, [], ◌∷◌, ◌++◌, length, get_or, Some, codes, refl, sym, ap, subst, ◌∙◌, slice_set}
use Rattle.std.specs.List.{list_any}
use Rattle.std.specs.Str.{bytes_eq}
use Rattle.std.proofs.lemmas.Bool.{eqb-true, eqb-false}
use Rattle.std.proofs.lemmas.Grind.{get_or-set_at}
use Rattle.std.proofs.lemmas.List.Folds.{list_any-append}
use Rattle.std.proofs.lemmas.List.{get_or-set_other}
use Rattle.jv_pool.specs.Constants.{Entry}
use Rattle.jv_meaning_typing.specs.MemberRules.{is_that_name}
use Rattle.jv_verify_types.specs.Typed.{name_at}
use Rattle.jv_verify_types.specs.Inside.Kept.{AreDistinct}
use Rattle.jv_verify_types.proofs.Numbered.{same_number}
use Rattle.jv_verify_types.specs.Inside.Named.{class_of_constant}
use Rattle.jv_verify_types.specs.Inside.Marked.{names_it, AreMarkedAt}

or_true : (b : Bool) → (b || true) ≡ true
or_true true = refl
or_true false = refl

or_false : (b : Bool) → (b || false) ≡ b
or_false true = refl
or_false false = refl

-- one mark more
set_at : (marks : List Bool) (place at : ℕ) → at < length marks → get_or (slice_set marks at true) place false ≡ (get_or marks place false || nat_eq place at)
set_at marks place at within = by_test (nat_eq place at) refl
  where
    by_test : (b : Bool) → nat_eq place at ≡ b → get_or (slice_set marks at true) place false ≡ (get_or marks place false || b)
    by_test true e = get_or-set_at marks at place true false (eqb-true place at e) within ∙ sym (or_true (get_or marks place false))
    by_test false e = get_or-set_other marks at place true false (eqb-false place at e) ∙ sym (or_false (get_or marks place false))

pub name_marked : (names : List (List ℕ)) (pool : List Entry) (marks : List Bool) (index number at : ℕ) → AreDistinct names → length marks ≡ length names
    → at < length names → get_or names at (codes "java/lang/Object") ≡ name_at names number → Some (name_at names number) ≡ class_of_constant pool index
    → (place : ℕ) → place < length names → get_or (slice_set marks at true) place false ≡ (get_or marks place false || names_it pool (name_at names place) index)
name_marked names pool marks index number at distinct size within same is place below =
    set_at marks place at (subst (λ n. at < n) (sym size) within)
    ∙ ap (λ b. get_or marks place false || b)
    (same_number names (codes "java/lang/Object") distinct place at below within
    ∙ (ap (bytes_eq (name_at names place)) same ∙ ap (is_that_name (name_at names place)) is))

-- ---- all marks

any_more : {A : Type 0} (test : A → Bool) (xs : List A) (x : A) → list_any test (xs ++ x ∷ []) ≡ (list_any test xs || test x)
any_more test xs x = list_any-append test xs (x ∷ []) ∙ ap (λ b. list_any test xs || b) (or_false (test x))

pub marked_more : (names : List (List ℕ)) (pool : List Entry) (indices : List ℕ) (index : ℕ) (before after : List Bool) → AreMarkedAt names pool indices before → length after ≡ length before
    → ((place : ℕ) → place < length names → get_or after place false ≡ (get_or before place false || names_it pool (name_at names place) index)) → AreMarkedAt names pool (indices ++ index ∷ []) after
marked_more names pool indices index before after marked size more = record {
  size = size ∙ marked.size;
  marked = λ place below.
      more place below ∙ (ap (λ b. b || names_it pool (name_at names place) index) (marked.marked place below) ∙ sym (any_more (names_it pool (name_at names place)) indices index));
}
