-- A list that is taken item by item, and told.
use Rattle.std.proofs.Common.{◌≡◌, ℕ, ◌+◌, zero, suc, List, [], ◌∷◌, ◌++◌, Some, take, map, arith, sym, ap, ◌∙◌}
use Rattle.std.specs.Prelude.{slice_get, unwrap_or}
use Rattle.std.proofs.lemmas.List.{map-append}

taken : {A : Type 0} (k : ℕ) (xs : List A) (x : A) → slice_get xs k ≡ Some x → take k xs ++ x ∷ [] ≡ take (suc k) xs
taken zero [] x e = absurd cc
taken (suc k) [] x e = absurd cc
taken zero (y ∷ xs) x e = ap (λ o. unwrap_or o x ∷ []) (sym e)
taken (suc k) (y ∷ xs) x e = ap (λ zs. y ∷ zs) (taken k xs x e)

-- one item more, of each of which the same is told
pub take-map-next : {A B : Type 0} (f : A → B) (k : ℕ) (xs : List A) (x : A) → slice_get xs k ≡ Some x
    → map f (take k xs) ++ f x ∷ [] ≡ map f (take (k + 1) xs)
take-map-next f k xs x e =
    let next : k + 1 ≡ suc k = omega arith in
    rw next (sym (map-append f (take k xs) (x ∷ [])) ∙ ap (map f) (taken k xs x e))
