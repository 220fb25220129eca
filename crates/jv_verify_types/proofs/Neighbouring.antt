-- Whether classes are in the package of the current one, kept by their numbers.
use Rattle.std.proofs.Common.{◌≡◌, ℕ, zero, suc, ◌<◌, ◌≤◌, Bool, true, false, List, [], ◌∷◌, ◌++◌, length, get_or, set, take, nat_eq, inl, inr, ◌⊎◌, ◌≢◌, Option, Some, None, refl, sym, ap, ◌∙◌, subst, get_or-set_same, get_or-set_other}
use Rattle.std.specs.Prelude.{replicate}
use Rattle.std.proofs.lemmas.Bool.{cases_lt}
use Rattle.std.proofs.lemmas.Bool.Decides.{eqb_tells}
use Rattle.std.proofs.lemmas.List.{get_or-replicate, get_or_past, length-replicate}
use Rattle.jv_meaning_world.specs.World.{World}
use Rattle.jv_verify_types.specs.Inside.Answered.{IsNeighbour, IsNeighbourKept, AreNeighbours}

none_there : {X : Type 0} (none : Option X) (k by : ℕ) → get_or (replicate k none) by none ≡ none
none_there none k by = by_place (cases_lt by k)
  where
    by_place : (by < k) ⊎ (k ≤ by) → get_or (replicate k none) by none ≡ none
    by_place (inl before) = get_or-replicate k by none none before
    by_place (inr behind) =
        let past : length (replicate k none) ≤ by = rw (length-replicate k none) behind in
        get_or_past (replicate k none) by none past

-- in a list that is filled up, an item is what it was, or none
filled : {X : Type 0} (xs : List (Option X)) (n k by : ℕ) → (get_or (take n xs ++ replicate k None) by None ≡ get_or xs by None) ⊎ (get_or (take n xs ++ replicate k None) by None ≡ None)
filled xs zero k by = inr (none_there None k by)
filled [] (suc n) k by = inr (none_there None k by)
filled (x ∷ xs) (suc n) k zero = inl refl
filled (x ∷ xs) (suc n) k (suc by) = filled xs n k by

module _ (world : World) (current : ℕ) where
  pub room_made : (old new : List (Option Bool)) (n k : ℕ) → new ≡ take n old ++ replicate k None → AreNeighbours world current old → AreNeighbours world current new
  room_made old new n k made right by = by_item (filled old n k by)
    where
      by_item : (get_or (take n old ++ replicate k None) by None ≡ get_or old by None) ⊎ (get_or (take n old ++ replicate k None) by None ≡ None) →
          IsNeighbourKept world current by (get_or new by None)
      by_item (inl same) = subst (IsNeighbourKept world current by) (sym (ap (λ xs. get_or xs by None) made ∙ same)) (right by)
      by_item (inr none) = subst (IsNeighbourKept world current by) (sym (ap (λ xs. get_or xs by None) made ∙ none)) tt

  pub one_kept : (kept : List (Option Bool)) (at : ℕ) (answer : Bool) → at < length kept → AreNeighbours world current kept →
      IsNeighbour world current at answer → AreNeighbours world current (set kept at (Some answer))
  one_kept kept at answer within right is by = by_place (eqb_tells by at)
    where
      by_place : ((nat_eq by at ≡ true) × (by ≡ at)) ⊎ ((nat_eq by at ≡ false) × (by ≢ at)) → IsNeighbourKept world current by (get_or (set kept at (Some answer)) by None)
      by_place (inl same) =
          subst (λ n. IsNeighbourKept world current n (get_or (set kept at (Some answer)) n None)) (sym same.1)
          (subst (IsNeighbourKept world current at) (sym (get_or-set_same kept at (Some answer) None within)) is)
      by_place (inr other) = subst (IsNeighbourKept world current by) (sym (get_or-set_other kept at by (Some answer) None other.1)) (right by)
