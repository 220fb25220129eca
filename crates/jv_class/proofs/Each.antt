-- Items that are tested one by one, or by their places: `all` answers true exactly where each item keeps P.
use Rattle.std.proofs.Common.{◌≡◌, ℕ, Bool, true, false, List, length, get_or, Option, Some, None, refl, subst, arith}
use Rattle.std.specs.Prelude.{◌↔◌, IsTrue, IfSome, slice_get}
use Rattle.std.specs.List.{All, FoldsTo, range_with_len}
use Rattle.std.specs.Iterator.{YieldsThen}
use Rattle.std.specs.Fn.{Called}
use Rattle.std.specs.Option.{MatchOption}
use Rattle.std.proofs.lemmas.Iterator.{YieldsList, YieldsList-from_range, cases_from_all}
use Rattle.std.proofs.lemmas.Iterator.Search.{true_from_All}
use Rattle.std.proofs.lemmas.Bool.{MatchBool-at_true}
use Rattle.std.proofs.lemmas.List.Elements.{All-from_all_within, All-get_or}
use Rattle.std.proofs.lemmas.List.FromFn.{length-range_with_len, get_or-range_with_len}
use Rattle.std.proofs.lemmas.Option.{slice_get-get_or, slice_get_within, get_or_from_slice_get}
use Rattle.std.proofs.iter.Yields.{nat_range_steps}
use Rattle.std.specs.declared.ops.Range.{Range}
use denote.Param.Members.{Mut}

module _ {S A B F : Type 0} {steps : S → Option A → S → Type 0} {v : A → B} {g : Mut F (A × Unit {0}) Bool} {s : S} {items : List B} {answer : Bool} (u : S) (f : F) (P : B → Type 0) where
  pub decided : (xs : List A) × (o : Option A) × (j : F) × YieldsThen steps s xs o u × FoldsTo (λ p x q. Called g p (x, tt) true q) f xs j ×
      MatchOption o (answer ≡ true) (λ x. (answer ≡ false) × ((h : F) × Called g j (x, tt) false h))
      → YieldsList steps v s items
      → ((x : A) (q : F) → Called g f (x, tt) true q → (q ≡ f) × P (v x)) → ((x : A) (q : F) → Called g f (x, tt) false q → P (v x) → ⊥)
      → IsTrue answer ↔ All P items
  decided run yields passed failed = let cases = cases_from_all u f answer P (λ x. P x → ⊥) run yields passed failed in (
    λ on. All-from_all_within P items (MatchBool-at_true _ _ on cases),
    λ all. true_from_All P (λ x. P x → ⊥) answer items (λ x keeps breaks. breaks keeps) cases all,
  )

-- ---- by their places

module _ {X : Type 0} (P : X → Type 0) (xs : List X) where
  -- where the item at each place keeps P, each does
  pub all_from_places : All (λ k. IfSome (slice_get xs k) P) (range_with_len 0 (length xs)) → All P xs
  all_from_places all k d lt =
      let here = All-get_or (λ k. IfSome (slice_get xs k) P) (range_with_len 0 (length xs)) k 0 (omega (arith, length-range_with_len 0 (length xs))) all in
      let at : get_or (range_with_len 0 (length xs)) k 0 ≡ k = omega (arith, get_or-range_with_len 0 (length xs) k 0 lt) in
      let one : IfSome (slice_get xs k) P = subst (λ (j : ℕ). IfSome (slice_get xs j) P) at here in
      subst (λ (o : Option X). IfSome o P) (slice_get-get_or xs k d lt) one

  pub at_place : All P xs → (k : ℕ) → IfSome (slice_get xs k) P
  at_place all k = by_option (slice_get xs k) refl
    where
      by_option : (o : Option X) → slice_get xs k ≡ o → IfSome o P
      by_option None e = tt
      by_option (Some x) e = subst P (get_or_from_slice_get xs k x x e) (All-get_or P xs k x (slice_get_within xs k x e) all)

module _ {X F : Type 0} {g : Mut F (ℕ × Unit {0}) Bool} {answer : Bool} (u : Range ℕ) (f : F) (P : X → Type 0) (xs : List X) (n : ℕ) where
  pub decided_at : (ks : List ℕ) × (o : Option ℕ) × (j : F) × YieldsThen nat_range_steps (record { start = 0; end = n }) ks o u ×
      FoldsTo (λ p x q. Called g p (x, tt) true q) f ks j × MatchOption o (answer ≡ true)
      (λ x. (answer ≡ false) × ((h : F) × Called g j (x, tt) false h))
      → n ≡ length xs
      → ((k : ℕ) (q : F) → Called g f (k, tt) true q → (q ≡ f) × IfSome (slice_get xs k) P) → ((k : ℕ) (q : F) → Called g f (k, tt) false q → IfSome (slice_get xs k) P → ⊥)
      → IsTrue answer ↔ All P xs
  decided_at run is passed failed =
      let numbers = YieldsList-from_range 0 n (length xs) refl (omega (arith, is)) in
      let cases = cases_from_all u f answer (λ k. IfSome (slice_get xs k) P) (λ k. IfSome (slice_get xs k) P → ⊥) run numbers passed failed in (
        λ on. all_from_places P xs (All-from_all_within (λ k. IfSome (slice_get xs k) P) (range_with_len 0 (length xs)) (MatchBool-at_true _ _ on cases)),
        λ all. true_from_All (λ k. IfSome (slice_get xs k) P) (λ k. IfSome (slice_get xs k) P → ⊥) answer (range_with_len 0 (length xs))
            (λ k keeps breaks. breaks keeps) cases (λ i d lt. at_place P xs all (get_or (range_with_len 0 (length xs)) i d)),
      )
