-- Parts of a list, as what they are in a class structure.
use Rattle.std.proofs.Common.{◌≡◌, ◌<◌, ℕ, Bool, List, true, false, length, get_or, refl, sym, ◌∙◌}
use Rattle.std.specs.Prelude.{IsTrue, map}
use Rattle.std.specs.List.{list_all}
use Rattle.std.proofs.lemmas.List.Folds.{list_all-map, list_all_at}

pub one_fails : {X Y : Type 0} (p : Y → Bool) (view : X → Y) (xs : List X) (i : ℕ) (d : X) → i < length xs → p (view (get_or xs i d)) ≡ false → false ≡ list_all p (map view xs)
one_fails p view xs i d lt e = sym (list_all-map p view xs ∙ list_all_at (λ x. p (view x)) xs i d lt e)

by_test : (b : Bool) → (b ≡ false → false ≡ true) → b ≡ true
by_test true h = refl
by_test false h = h refl

pub each_fits : {X Y : Type 0} (p : Y → Bool) (view : X → Y) (xs : List X) (i : ℕ) (d : X) → i < length xs → IsTrue (list_all p (map view xs)) → IsTrue (p (view (get_or xs i d)))
each_fits p view xs i d lt h = by_test (p (view (get_or xs i d))) (λ e. one_fails p view xs i d lt e ∙ h)
