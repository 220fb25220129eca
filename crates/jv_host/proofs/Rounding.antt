-- Turns of one guest after the other, and rounds of them.
use Rattle.std.proofs.Common.{◌≡◌, ◌≢◌, ℕ, zero, suc, ◌+◌, ◌<◌, ◌≤◌, List, Some, None, length, slice_get, [], ◌∷◌, refl, sym, ap, subst, ◌∙◌, inl, inr, arith}
use Rattle.jv_host.specs.Host.{Admission, stepped}
use Rattle.jv_host.specs.Calls.{IsTurn, HadTurn, TookTurn, HadTurns, IsRound, SomeRuns, OverAt, NoneRuns, Rounds}
use Rattle.jv_host.proofs.Places.{same_or_other, count_of_changed, at_changed, beside_changed, place_within}

-- there is a guest at each place of the list
pub is_there : (guests : List Admission) (id : ℕ) → id < length guests → slice_get guests id ≡ None → ⊥
is_there guests id less none = by_place guests id less none
  where
    by_place : (xs : List Admission) (k : ℕ) → k < length xs → slice_get xs k ≡ None → ⊥
    by_place [] k low e = omega (arith, low)
    by_place (x ∷ xs) zero low e = cc
    by_place (x ∷ xs) (suc k) low e = by_place xs k (omega (arith, low)) e

-- ---- turns

pub no_turns : (n : ℕ) (guests : List Admission) → HadTurns n 0 guests guests
no_turns n guests = record {
  same_count = refl;
  had = λ id a less e. absurd (omega (arith, less));
  others = λ id low. refl;
}

module _ (n id k : ℕ) (old before new : List Admission) (turns : HadTurns n id old before) (turn : IsTurn before new id n k) where
  beside : (j : ℕ) → j ≢ id → slice_get new j ≡ slice_get before j
  beside j other = ap (λ (l : List Admission). slice_get l j) turn.after ∙ beside_changed (stepped k) before id j other

  here : slice_get new id ≡ Some (stepped k turn.guest)
  here = ap (λ (l : List Admission). slice_get l id) turn.after ∙ at_changed (stepped k) before id turn.guest turn.found

  had_more : (j : ℕ) (a : Admission) → j < id + 1 → slice_get old j ≡ Some a → (b : Admission) × (slice_get new j ≡ Some b) × TookTurn n a b
  had_more j a less e =
      elim (same_or_other j id) [
        | inl same ↦
            let there : slice_get before id ≡ Some a =
            turns.others id (omega arith) ∙ ap (λ (m : ℕ). slice_get old m) (sym same) ∙ e in
            let one : turn.guest ≡ a = (let found = turn.found in cc) in (
              stepped k turn.guest,
              ap (λ (m : ℕ). slice_get new m) same ∙ here,
              (k, subst (λ (x : Admission). HadTurn x n k) one turn.had, ap (λ (x : Admission). stepped k x) one),
            )
        | inr other ↦
            let done = turns.had j a (low other) e in
            (done.0, beside j other ∙ done.1, done.2)
      ]
    where
      low : j ≢ id → j < id
      low other = omega (arith, less, other)

  pub one_more_turn : HadTurns n (id + 1) old new
  one_more_turn = record {
    same_count = ap (λ (l : List Admission). length l) turn.after ∙ count_of_changed (stepped k) before id ∙ turns.same_count;
    had = had_more;
    others = λ j low. beside j (λ e. omega (arith, low, e)) ∙ turns.others j (omega (arith, low));
  }

-- ---- guests that have ended

pub none_runs : (guests : List Admission) (count : ℕ) → length guests ≤ count → ((k : ℕ) → k < count → OverAt guests k) → NoneRuns guests
none_runs guests count most over id a e = let within = place_within guests id a e in over id (omega (arith, most, within)) a e

pub one_more_over :
    (guests : List Admission) (count : ℕ) → ((k : ℕ) → k < count → OverAt guests k) → OverAt guests count → (k : ℕ) → k < count + 1
    → OverAt guests k
one_more_over guests count over here k less =
    elim (same_or_other k count) [
      | inl same ↦ subst (λ (m : ℕ). OverAt guests m) (sym same) here
      | inr other ↦ over k (omega (arith, less, other))
    ]

-- ---- rounds

pub one_more_round :
    (n m : ℕ) (old before new : List Admission) → Rounds n m old before → SomeRuns before → IsRound n before new → Rounds n (m + 1) old new
one_more_round n m old before new rounds some round =
    let place : suc m ≡ m + 1 = omega arith in
    subst (λ (k : ℕ). Rounds n k old new) place (before, rounds, some, round)
