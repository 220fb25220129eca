-- What is found of each item of a list.
use Rattle.std.proofs.Common.{◌≡◌, ℕ, List, [], ◌∷◌, ◌++◌, ◌+◌, ◌<◌, ◌≤◌, ⊎_elim, length, take, get_or, map, Option, Some, None, refl, sym, ap, subst, ◌∙◌, arith}
use Rattle.std.specs.Prelude.{IfSome, slice_get}
use Rattle.std.proofs.lemmas.Option.{slice_get_cases}
use Rattle.std.specs.Option.{option_map, IsSomeAnd}
use Rattle.std.proofs.lemmas.List.{take_more}
use Rattle.jv_format.specs.Format.{◌>>=◌}
use Rattle.jv_class.specs.Class.{all_found}

module _ {X Y : Type 0} (look : X → Option Y) where
  -- where something is found of all, it is so of the first and of the others
  pub parts_found : (x : X) (xs : List X) (ys : List Y) → all_found look (x ∷ xs) ≡ Some ys → (y : Y) × (more : List Y) × (look x ≡ Some y) × (all_found look xs ≡ Some more) × (ys ≡ y ∷ more)
  parts_found x xs ys e = by_cases (look x) refl (all_found look xs) refl e
    where
      by_cases : (o : Option Y) → look x ≡ o → (m : Option (List Y)) → all_found look xs ≡ m → (o >>= λ y. m >>= λ more. Some (y ∷ more)) ≡ Some ys
          → (y : Y) × (more : List Y) × (look x ≡ Some y) × (all_found look xs ≡ Some more) × (ys ≡ y ∷ more)
      by_cases None first m others e = absurd cc
      by_cases (Some y) first None others e = absurd cc
      by_cases (Some y) first (Some more) others e = (y, more, first, others, cc)

  pub both_found : (x : X) (xs : List X) (y : Y) (more : List Y) → look x ≡ Some y → all_found look xs ≡ Some more → all_found look (x ∷ xs) ≡ Some (y ∷ more)
  both_found x xs y more first others =
      ap (λ o. o >>= λ z. all_found look xs >>= λ zs. Some (z ∷ zs)) first ∙ ap (λ m. m >>= λ zs. Some (y ∷ zs)) others

  one_more_found : (xs : List X) (ys : List Y) (x : X) (y : Y) → all_found look xs ≡ Some ys → look x ≡ Some y → all_found look (xs ++ x ∷ []) ≡ Some (ys ++ y ∷ [])
  one_more_found [] ys x y e last =
      let none : ys ≡ [] = cc in
      both_found x [] y [] last refl ∙ ap (λ l. Some (l ++ y ∷ [])) (sym none)
  one_more_found (z ∷ zs) ys x y e last =
      let parts = parts_found z zs ys e in
      both_found z (zs ++ x ∷ []) parts.0 (parts.1 ++ y ∷ []) parts.2 (one_more_found zs parts.1 x y parts.3 last)
      ∙ ap (λ l. Some (l ++ y ∷ [])) (sym parts.4)

  -- a loop's step
  pub next_found : (xs : List X) (i : ℕ) (d : X) → i < length xs → (ys new : List Y) (y : Y) → new ≡ ys ++ y ∷ [] → all_found look (take i xs) ≡
      Some ys → look (get_or xs i d) ≡ Some y → all_found look (take (i + 1) xs) ≡ Some new
  next_found xs i d lt ys new y is found here =
      ap (all_found look) (take_more xs i d lt) ∙ one_more_found (take i xs) ys (get_or xs i d) y found here ∙ ap (λ l. Some l) (sym is)

-- the member that joined, where it was found
pub joined_by : {Y : Type 0} (found : Option Y) (old new : List Y) → IsSomeAnd found (λ y. new ≡ old ++ y ∷ []) → (y : Y) × (found ≡ Some y) × (new ≡ old ++ y ∷ [])
joined_by None old new h = absurd h
joined_by (Some y) old new h = (y, refl, h)

-- a loop's step by places
pub next_joined : {X Y : Type 0} (look : X → Option Y) (xs : List X) (i : ℕ) → i < length xs → (ys new : List Y) → all_found look (take i xs) ≡
    Some ys → IfSome (slice_get xs i) (λ x. IsSomeAnd (look x) (λ y. new ≡ ys ++ y ∷ []))
    → all_found look (take (i + 1) xs) ≡ Some new
next_joined {X = X} look xs i lt ys new found here =
    ⊎_elim
    (λ (at : (x : X) × (i < length xs) × (slice_get xs i ≡ Some x) × (get_or xs i x ≡ x)).
    let joined = joined_by (look at.0) ys new (subst (λ o. IfSome o (λ x. IsSomeAnd (look x) (λ y. new ≡ ys ++ y ∷ []))) at.2 here) in
    next_found look xs i at.0 lt ys new joined.0 joined.2 found (ap look at.3 ∙ joined.1))
    (λ (past : (length xs ≤ i) × (slice_get xs i ≡ None)). absurd (omega (arith, lt, past.0))) (slice_get_cases xs i).1

-- what is found of what is seen of each item
pub found_of_seen : {X Y Z : Type 0} (look : Y → Option Z) (seen : X → Y) (xs : List X) → all_found (λ x. look (seen x)) xs ≡ all_found look (map seen xs)
found_of_seen look seen [] = refl
found_of_seen look seen (x ∷ xs) = ap (λ m. look (seen x) >>= λ z. m >>= λ zs. Some (z ∷ zs)) (found_of_seen look seen xs)

-- what is seen of what is found of each item
pub seen_of_found : {X Y Z : Type 0} (look : X → Option Y) (other : X → Option Z) (seen : Y → Z) → ((x : X) → other x ≡ option_map seen (look x)) →
    (xs : List X) (ys : List Y) → all_found look xs ≡ Some ys
    → all_found other xs ≡ Some (map seen ys)
seen_of_found look other seen same [] ys e =
    let none : ys ≡ [] = cc in
    ap (λ l. Some (map seen l)) (sym none)
seen_of_found look other seen same (x ∷ xs) ys e =
    let parts = parts_found look x xs ys e in
    both_found other x xs (seen parts.0) (map seen parts.1) (same x ∙ ap (option_map seen) parts.2) (seen_of_found look other seen same xs parts.1 parts.3)
    ∙ ap (λ l. Some (map seen l)) (sym parts.4)
