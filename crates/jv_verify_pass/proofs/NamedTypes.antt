-- Types with names for numbers, one after another.
use Rattle.std.proofs.Common.{◌≡◌, ℕ, ◌+◌, ◌<◌, ◌≤◌, List, [], ◌∷◌, ◌++◌, length, map, take, get_or, Some, sym, ap, subst, ◌∙◌}
use Rattle.std.specs.Prelude.{slice_get, unwrap_or}
use Rattle.std.specs.Option.{option_map}
use Rattle.std.proofs.lemmas.List.{map_push, take_more, take_all, length-map}
use Rattle.std.proofs.lemmas.Option.{slice_get_within, slice_get-map, unwrap_or-slice_get}

-- one more is named
pub one_more : {A B C : Type 0} (f : A → C) (g : B → C) (done : List A) (all : List B) (k : ℕ) (new : A) (x : B) → slice_get all k ≡ Some x → f new ≡ g x
    → map f done ≡ take k (map g all) → map f (done ++ new ∷ []) ≡ take (k + 1) (map g all)
one_more {A} {B} {C} f g done all k new x at same before =
    let there : slice_get (map g all) k ≡ Some (g x) = slice_get-map g all k ∙ ap (option_map g) at in
    let within : k < length (map g all) = slice_get_within (map g all) k (g x) there in
    let placed : get_or (map g all) k (g x) ≡ g x = sym (unwrap_or-slice_get (map g all) k (g x)) ∙ ap (λ o. unwrap_or o (g x)) there in
    map_push f done new
    ∙ (ap (λ (l : List C). l ++ f new ∷ []) before
    ∙ (ap (λ (y : C). take k (map g all) ++ y ∷ []) (same ∙ sym placed) ∙ sym (take_more (map g all) k (g x) within)))

-- all are named
pub all_named : {B C : Type 0} (g : B → C) (all : List B) (named : List C) (k : ℕ) → length all ≤ k → named ≡ take k (map g all) → named ≡ map g all
all_named g all named k past is =
    let many : length (map g all) ≤ k = subst (λ (n : ℕ). n ≤ k) (sym (length-map all g)) past in
    is ∙ take_all k (map g all) many
