-- Names, numbers and classes of a world.
use Rattle.std.proofs.Common.{arith, ◌+◌, ◌++◌, take, map, get_or, ◌≡◌, ℕ, ◌<◌, Bool, true, false, cond, List, [], ◌∷◌, length, nat_lt, Some, None, refl, sym, ap, ◌∙◌, subst}
use Rattle.std.specs.Prelude.{slice_get}
use Rattle.std.specs.List.{position, position_or_len, find}
use Rattle.std.proofs.lemmas.List.Folds.{find_at}
use Rattle.std.proofs.lemmas.Option.{slice_get_past, slice_get_within, get_or_from_slice_get, slice_get-get_or}
use Rattle.std.proofs.lemmas.List.{map-append}
use Rattle.std.proofs.lemmas.Grind.{common_steps}
use Rattle.std.proofs.lemmas.Bool.{ltb-true, ltb-false}
use Rattle.jv_meaning_world.specs.World.{Loaded, World, class_named}
use Rattle.jv_meaning_world.specs.Numbers.{number_named}

module _ {X : Type 0} (test : X → Bool) where
  -- what is found first stands at its position
  pub at_position : (xs : List X) (k : ℕ) → position test xs ≡ Some k → find test xs ≡ slice_get xs k
  at_position xs k e = by_test (nat_lt (position_or_len test xs) (length xs)) e
    where
      same : Some (position_or_len test xs) ≡ Some k → position_or_len test xs ≡ k
      same e = cc

      by_test : (b : Bool) → cond b (Some (position_or_len test xs)) None ≡ Some k → find test xs ≡ slice_get xs k
      by_test true e = find_at test xs ∙ ap (slice_get xs) (same e)
      by_test false e = absurd cc

  pub position_within : (xs : List X) (k : ℕ) → position test xs ≡ Some k → k < length xs
  position_within xs k e = by_test (nat_lt (position_or_len test xs) (length xs)) refl e
    where
      same : Some (position_or_len test xs) ≡ Some k → position_or_len test xs ≡ k
      same e = cc

      by_test : (b : Bool) → nat_lt (position_or_len test xs) (length xs) ≡ b → cond b (Some (position_or_len test xs)) None ≡ Some k → k < length xs
      by_test true t e = subst (λ n. n < length xs) (same e) (ltb-true (position_or_len test xs) (length xs) t)
      by_test false t e = absurd cc

  -- what is found has a position
  pub position_found : (xs : List X) (x : X) → find test xs ≡ Some x → position test xs ≡ Some (position_or_len test xs)
  position_found xs x e = by_test (nat_lt (position_or_len test xs) (length xs)) refl
    where
      by_test : (b : Bool) → nat_lt (position_or_len test xs) (length xs) ≡ b → cond b (Some (position_or_len test xs)) None ≡ Some (position_or_len test xs)
      by_test true t = refl
      by_test false t = absurd (none (sym e ∙ (find_at test xs ∙ slice_get_past xs (position_or_len test xs) (ltb-false (position_or_len test xs) (length xs) t))))
        where
          none : Some x ≡ None → ⊥
          none e = cc

pub number_at : (world : World) (name : List ℕ) (k : ℕ) → number_named world name ≡ Some k → class_named world name ≡ slice_get world k
number_at world name k e = at_position _ world k e

pub numbered : (world : World) (name : List ℕ) (s : Loaded) → class_named world name ≡ Some s → (k : ℕ) × (number_named world name ≡ Some k) × (slice_get world k ≡ Some s)
numbered world name s e =
    let there = position_found _ world s e in
    (_, there, sym (at_position _ world _ there) ∙ e)

pub take_more : {X : Type 0} → (xs : List X) (k : ℕ) (x : X) → slice_get xs k ≡ Some x → take (k + 1) xs ≡ take k xs ++ x ∷ []
take_more xs k x e =
    let within = slice_get_within xs k x e in
    let there = get_or_from_slice_get xs k x x e in
    grind (arith, common_steps, within, there)

pub map_more : {X Y : Type 0} → (f : X → Y) (xs : List X) (k : ℕ) (y : Y) → k < length xs → ((x : X) → slice_get xs k ≡ Some x → y ≡ f x) → map f (take k xs) ++ y ∷ [] ≡ map f (take (k + 1) xs)
map_more f [] k y h is = absurd (omega (arith, h))
map_more f (x ∷ xs) k y h is =
    let at = slice_get-get_or (x ∷ xs) k x h in
    ap (λ z. map f (take k (x ∷ xs)) ++ z ∷ []) (is (get_or (x ∷ xs) k x) at)
    ∙ (sym (map-append f (take k (x ∷ xs)) (get_or (x ∷ xs) k x ∷ [])) ∙ ap (map f) (sym (take_more (x ∷ xs) k (get_or (x ∷ xs) k x) at)))
