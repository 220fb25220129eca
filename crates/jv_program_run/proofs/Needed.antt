-- In each round some guest takes a step, where turns have any.
use Rattle.std.proofs.Common.{◌≡◌, ℕ, zero, suc, ◌+◌, ◌-◌, ◌*◌, ◌<◌, ◌≤◌, ◌^◌, List, [], ◌∷◌, Some, refl, sym, ap, subst, ◌∙◌, inl, inr, arith}
use Rattle.std.specs.Prelude.{slice_get}
use Rattle.std.proofs.Math.Nat.{eq-or-lt_of_le}
use Rattle.std.proofs.lemmas.Nat.{mul-le}
use Rattle.jv_meaning_machine.specs.Alone.{Feed}
use Rattle.jv_meaning_machine.specs.Laws.Shown.{ShowsOneThing}
use Rattle.jv_meaning_machine.specs.Laws.Feeds.{FeedShowsLater}
use Rattle.jv_host.specs.Host.{Admission, IsRunningAfter, after_feed, fed_now}
use Rattle.jv_host.specs.Calls.{HadTurn, IsRound, IsRun, NoneRuns, Rounds, SomeRuns, TookTurn}
use Rattle.jv_host.proofs.Places.{same_or_other}
use Rattle.jv_program_run.specs.Inside.Turns.{AreAtStart, HasPlayed, PlayedSince, SomeWent}
use Rattle.jv_program_run.proofs.AllTurns.{at_fed, at_others, beside, rounds_all}
use Rattle.jv_program_base.proofs.Places.{some_same, within}
use Rattle.jv_program_run.proofs.Turns.{over_not_running}

module _ (one : ShowsOneThing) (n : ℕ) (some : 1 ≤ n) where
  -- a turn of a running guest takes a step
  took_one : (k : ℕ) (a : Admission) → IsRunningAfter a a.steps → HadTurn a n k → a.steps < 2 ^ 64 - 1 → 1 ≤ k
  took_one zero a running had bound =
      let here : a.steps + 0 ≡ a.steps = omega arith in
      elim (had.full (omega (arith, some))) [
        | inl over ↦ absurd (over_not_running one a (a.steps + 0) a.steps here over running)
        | inr counted ↦ absurd (omega (arith, counted, bound))
      ]
  took_one (suc k) a running had bound = omega arith

  -- a running guest has taken all steps of its turns
  took_all : (r : ℕ) (a : Admission) → HasPlayed n r a → IsRunningAfter a a.steps → a.steps ≡ n * r
  took_all r a played running =
      elim (eq-or-lt_of_le played.few) [
        | inl same ↦ same
        | inr less ↦ absurd (over_not_running one a a.steps a.steps refl (played.over less) running)
      ]

  goes_on : (r : ℕ) (a b : Admission) → HasPlayed n r a → IsRunningAfter a a.steps → TookTurn n a b → n * suc r < 2 ^ 64 - 1 → n * r < b.steps
  goes_on r a b played running turn bound =
      let all = took_all r a played running in
      let most : n * r ≤ n * suc r = mul-le n r n (suc r) (omega arith) (omega arith) in
      let least = took_one turn.0 a running turn.1 (omega (arith, all, most, bound)) in
      let now : b.steps ≡ a.steps + turn.0 = ap (λ (x : Admission). x.steps) turn.2 in
      omega (arith, all, least, now)

  went_at : (r : ℕ) (old mid new : List Admission) (id : ℕ) (a : Admission) → slice_get mid id ≡ Some a → IsRunningAfter a a.steps
      → PlayedSince n r old mid → IsRound n mid new → n * suc r < 2 ^ 64 - 1 → SomeWent n (suc r) new
  went_at r old mid new id a found running played round bound =
      let was = beside mid old id a (sym played.count) found in
      let now = played.each id was.0 was.1 in
      let it : now.0 ≡ a = some_same now.0 a (sym now.1 ∙ found) in
      let here : HasPlayed n r a = subst (λ (x : Admission). HasPlayed n r x) it now.2.played in
      let turn = round.had id a (within mid id a found) found in
      (id, turn.0, turn.1, goes_on r a turn.0 here running turn.2 bound)

  -- a round before which some guest takes steps
  pub went_on : (r : ℕ) (old mid new : List Admission) → SomeRuns mid → PlayedSince n r old mid → IsRound n mid new → n * suc r < 2 ^ 64 - 1
      → SomeWent n (suc r) new
  went_on r old mid new runs played round bound = went_at r old mid new runs.0 runs.1.0 runs.1.1 runs.1.2 played round bound

  pub rounds_went : (m : ℕ) (old new : List Admission) → AreAtStart old → Rounds n m old new → n * m < 2 ^ 64 - 1 → SomeWent n m new
  rounds_went zero old new start went bound = tt
  rounds_went (suc m) old new start went bound =
      let least : n * m ≤ n * suc m = mul-le n m n (suc m) (omega arith) (omega arith) in
      went_on m old went.0 new went.2 (rounds_all n old one m went.0 start went.1 (omega (arith, least, bound))) went.3 bound

-- one round of a host in which some guest takes steps is a round
pub is_round : (one : ShowsOneThing) (n m : ℕ) (mid new : List Admission) → SomeRuns mid → IsRun n 1 mid new m → IsRound n mid new
is_round one n zero mid new runs run =
    let none : NoneRuns mid = subst NoneRuns run.went (run.full (omega arith)) in
    let a = runs.1.0 in
    absurd (over_not_running one a a.steps a.steps refl (none runs.0 a runs.1.1) runs.1.2)
is_round one n (suc zero) mid new runs run =
    let went = run.went in
    subst (λ (host : List Admission). IsRound n host new) went.1 went.3
is_round one n (suc (suc m)) mid new runs run = let most = run.most in absurd (omega (arith, most))

-- ---- a feed

same_steps : (a : Admission) (bytes : List ℕ) → (fed_now bytes a).steps ≡ a.steps
same_steps a [] = refl
same_steps a (byte ∷ bytes) = refl

runs_fed : (later : FeedShowsLater) (a : Admission) (bytes : List ℕ) → IsRunningAfter a a.steps → IsRunningAfter (fed_now bytes a) (fed_now bytes a).steps
runs_fed later a [] running = running
runs_fed later a (byte ∷ bytes) running =
    let feed : Feed = record { own_step = a.steps; bytes = byte ∷ bytes } in
    (running.0, (later a.guest a.budget a.feeds feed a.steps running.0 (omega arith)).0 running.1, running.2)

module _ (id : ℕ) (mid new : List Admission) (bytes : List ℕ) (after : new ≡ after_feed mid id bytes) where
  run_at : (later : FeedShowsLater) (place : ℕ) (a : Admission) → slice_get mid place ≡ Some a → IsRunningAfter a a.steps → SomeRuns new
  run_at later place a found running =
      elim (same_or_other place id) [
        | inl same ↦
            let here : slice_get mid id ≡ Some a = subst (λ (k : ℕ). slice_get mid k ≡ Some a) same found in
            (id, (fed_now bytes a, at_fed id mid new bytes after a here, runs_fed later a bytes running))
        | inr other ↦ (place, (a, at_others id mid new bytes after place other ∙ found, running))
      ]

  -- some guest still takes steps
  pub some_run : (later : FeedShowsLater) → SomeRuns mid → SomeRuns new
  some_run later runs = run_at later runs.0 runs.1.0 runs.1.1 runs.1.2

  went_fed : (n before place : ℕ) (a : Admission) → slice_get mid place ≡ Some a → n * before < a.steps → SomeWent n (suc before) new
  went_fed n before place a found least =
      elim (same_or_other place id) [
        | inl same ↦
            let here : slice_get mid id ≡ Some a = subst (λ (k : ℕ). slice_get mid k ≡ Some a) same found in
            let steps = same_steps a bytes in
            (id, fed_now bytes a, at_fed id mid new bytes after a here, omega (arith, least, steps))
        | inr other ↦ (place, a, at_others id mid new bytes after place other ∙ found, least)
      ]

  -- and took the steps that it took
  pub some_went : (n rounds : ℕ) → SomeWent n rounds mid → SomeWent n rounds new
  some_went n zero went = tt
  some_went n (suc before) went = went_fed n before went.0 went.1 went.2 went.3
