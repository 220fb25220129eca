-- Guests that have their turns since their start, and are fed in between.
use Rattle.std.proofs.Common.{◌≡◌, ℕ, zero, suc, ◌+◌, ◌-◌, ◌*◌, ◌<◌, ◌≤◌, ◌^◌, List, [], ◌∷◌, ◌++◌, length, Some, refl, sym, ap, subst, ◌∙◌, inl, inr, arith}
use Rattle.std.specs.Prelude.{slice_get}
use Rattle.std.proofs.Math.Nat.{eq-or-lt_of_le, mul-suc, mul-zero}
use Rattle.std.proofs.lemmas.Bool.{cases_lt}
use Rattle.std.proofs.lemmas.Nat.{mul-le}
use Rattle.jv_meaning_machine.specs.Alone.{Feed}
use Rattle.jv_meaning_machine.specs.Observation.{Observed, Shows}
use Rattle.jv_meaning_machine.specs.Laws.Shown.{ShowsOneThing}
use Rattle.jv_meaning_machine.specs.Laws.Feeds.{FeedShowsLater}
use Rattle.jv_host.specs.Host.{Admission, IsRunningAfter, IsOverAfter, WasRunning, fed_now, stepped}
use Rattle.jv_host.specs.Calls.{HadTurn}
use Rattle.jv_program_run.specs.Feeding.{IsOverAlone}
use Rattle.jv_program_run.specs.Inside.Turns.{HasPlayed}
use Rattle.jv_program_base.proofs.Places.{pushed}

none_at : {A : Type 0} (xs : List A) (place : ℕ) (x : A) → xs ≡ [] → slice_get xs place ≡ Some x → ⊥
none_at [] place x none found = absurd cc
none_at (y ∷ ys) place x none found = absurd cc

-- fewer steps than can be counted
pub few_steps : (n rounds m : ℕ) → n < 2 ^ 32 → rounds < 2 ^ 32 → m ≤ rounds → n * m < 2 ^ 64 - 1
few_steps n rounds m few fewer least =
    let most : n * m ≤ 4294967295 * 4294967295 = mul-le n m 4294967295 4294967295 (omega (arith, few)) (omega (arith, fewer, least)) in
    omega (arith, most)

-- a guest at its start
pub has_begun : (n : ℕ) (a : Admission) → a.steps ≡ 0 → a.feeds ≡ [] → HasPlayed n 0 a
has_begun n a start none =
    let zero_turns : n * 0 ≡ 0 = mul-zero n in
    record {
      few = omega (arith, start);
      running = λ k lt. absurd (omega (arith, start, lt));
      over = λ lt. absurd (omega (arith, zero_turns, lt));
      early = λ place feed e. absurd (none_at a.feeds place feed none e);
      fed = λ round feed e. absurd (none_at a.feeds round feed none e);
    }

module _ (one : ShowsOneThing) where
  -- a guest that is over isn't running
  pub over_not_running : (a : Admission) (n m : ℕ) → n ≡ m → IsOverAfter a n → IsRunningAfter a m → ⊥
  over_not_running a n m e over running =
      let shows : Shows a.guest a.budget a.feeds n running.0 = subst (λ (i : ℕ). Shows a.guest a.budget a.feeds i running.0) (sym e) running.1 in
      let same : over.0 ≡ running.0 = one a.guest a.budget a.feeds n over.0 running.0 over.1 shows in
      over.2 (ap (λ (o : Observed). o.end) same ∙ running.2)

  nothing_more : (a : Admission) (k : ℕ) → IsOverAfter a a.steps → WasRunning a k → k ≡ 0
  nothing_more a zero over running = refl
  nothing_more a (suc k) over running =
      let here : a.steps ≡ a.steps + 0 = omega arith in
      absurd (over_not_running a a.steps (a.steps + 0) here over (running 0 (omega arith)))

  -- a turn more
  pub has_turned : (n turns k : ℕ) (a : Admission) → HasPlayed n turns a → HadTurn a n k → n * suc turns < 2 ^ 64 - 1 → HasPlayed n (suc turns) (stepped k a)
  has_turned n turns k a before had bound =
      let all : n * suc turns ≡ n * turns + n = mul-suc n turns in
      let few = before.few in
      let most = had.most in
      record {
        few = omega (arith, all, few, most);
        running = λ j lt. elim (cases_lt j a.steps) [
          | inl less ↦ before.running j less
          | inr more ↦
              let place : a.steps + (j - a.steps) ≡ j = omega (arith, more) in
              subst (λ (i : ℕ). IsRunningAfter a i) place (had.running (j - a.steps) (omega (arith, lt, more)))
        ];
        over = λ lt. elim (eq-or-lt_of_le before.few) [
          | inl same ↦
              elim (had.full (omega (arith, all, same, lt))) [
                | inl over ↦ over
                | inr counted ↦ absurd (omega (arith, counted, lt, bound))
              ]
          | inr less ↦
              let none : k ≡ 0 = nothing_more a k (before.over less) had.running in
              let here : a.steps ≡ a.steps + k = omega (arith, none) in
              subst (λ (i : ℕ). IsOverAfter a i) here (before.over less)
        ];
        early = λ place feed e. let was = before.early place feed e in omega (arith, was);
        fed = before.fed;
      }

-- a guest that has ended had as many turns more as one likes
pub has_idled : (n turns more : ℕ) (a : Admission) → turns ≤ more → HasPlayed n turns a → IsOverAfter a a.steps → HasPlayed n more a
has_idled n turns more a least before over =
    let all : n * turns ≤ n * more = mul-le n turns n more (omega arith) least in
    let few = before.few in
    record { few = omega (arith, all, few); running = before.running; over = λ _. over; early = before.early; fed = before.fed }

module _ (later : FeedShowsLater) where
  -- what is shown up to the step at which bytes come is shown with them
  over_still : (a : Admission) (feed : Feed) (n : ℕ) → n ≤ feed.own_step → IsOverAlone a.guest a.budget a.feeds n
      → IsOverAlone a.guest a.budget (a.feeds ++ feed ∷ []) n
  over_still a feed n early over = (over.0, (later a.guest a.budget a.feeds feed n over.0 early).0 over.1, over.2)

  -- bytes that come before the next turn, where some came before each turn so far
  pub has_been_fed : (n turns : ℕ) (a : Admission) (bytes : List ℕ) → length a.feeds ≡ turns → HasPlayed n turns a → HasPlayed n turns (fed_now bytes a)
  has_been_fed n turns a [] many before = before
  has_been_fed n turns a (byte ∷ bytes) many before =
      let feed : Feed = record { own_step = a.steps; bytes = byte ∷ bytes } in
      record {
        few = before.few;
        running = λ k lt.
            let ran = before.running k lt in
            (ran.0, (later a.guest a.budget a.feeds feed k ran.0 (omega (arith, lt))).0 ran.1, ran.2);
        over = λ lt. over_still a feed a.steps (omega arith) (before.over lt);
        early = λ place other e. elim (pushed a.feeds feed place other e) [
          | inl h ↦ before.early place other h.1
          | inr h ↦ let same : other.own_step ≡ a.steps = ap (λ (f : Feed). f.own_step) h.1 in omega (arith, same)
        ];
        fed = λ round other e. elim (pushed a.feeds feed round other e) [
          | inl h ↦
              let was = before.fed round other h.1 in (
                was.0,
                λ lt. over_still a feed other.own_step (before.early round other h.1) (was.1 lt),
              )
          | inr h ↦
              let same : other.own_step ≡ a.steps = ap (λ (f : Feed). f.own_step) h.1 in
              let place : n * turns ≡ n * round = ap (λ (i : ℕ). n * i) (sym (h.0 ∙ many)) in
              let few = before.few in (
                omega (arith, same, place, few),
                λ lt. subst (λ (i : ℕ). IsOverAlone a.guest a.budget (a.feeds ++ feed ∷ []) i) (sym same)
                    (over_still a feed a.steps (omega arith) (before.over (omega (arith, same, place, lt)))),
              )
        ];
      }
