-- A guest alone, step by step: what steps and feeds keep, and what came when.
use Rattle.std.proofs.Common.{◌≡◌, ℕ, zero, suc, ◌+◌, ◌<◌, ◌==◌, Bool, true, false, List, [], ◌∷◌, ◌++◌, Ok, Err, refl, sym, ap, subst, ◌∙◌, arith, append_assoc, append-nil, add-zero, add-suc, if◌then◌else◌}
use Rattle.std.specs.Prelude.{IsErr}
use Rattle.std.proofs.lemmas.Bool.{eqb-true}
use Rattle.jv_meaning_machine.specs.Faults.{OrFault, ◌>>=◌}
use Rattle.jv_meaning_machine.specs.State.{State}
use Rattle.jv_meaning_machine.specs.Start.{Budget, start}
use Rattle.jv_meaning_machine.specs.Step.{step, after_steps}
use Rattle.jv_meaning_machine.specs.Alone.{GuestFiles, Judged, Feed, came_at, fed, alone}
use Rattle.jv_meaning_machine.specs.Observation.{Shows, observation}
use Rattle.jv_meaning_machine.specs.Laws.Feeds.{SameBytesDoTheSame, FeedJoins, SameBytesShowTheSame, SameBytesFaultTheSame, FeedShowsLater}
use Rattle.jv_meaning_machine.specs.Laws.Runs.{AloneGoesOn, AloneStepsOn}
use Rattle.jv_meaning_machine.proofs.Leading.{Leads, leaf, chained, same_given}

-- ---- feeds and states

pub fed_nothing : (s : State) → fed [] s ≡ s
fed_nothing s = ap (λ (input : List ℕ). record s { memory = record s.memory { input = input } }) (append-nil s.memory.input)

pub fed_both : (one other : List ℕ) (s : State) → fed other (fed one s) ≡ fed (one ++ other) s
fed_both one other s =
    ap (λ (input : List ℕ). record s { memory = record s.memory { input = input } }) (append_assoc s.memory.input one other)

abbrev given : State → OrFault State
given s = Ok s

-- a state that can be a fault is fed
abbrev fed_in : List ℕ → OrFault State → OrFault State
fed_in bytes o = o >>= λ s. Ok (fed bytes s)

-- ---- what steps and feeds keep

module _ (judged : Judged) (g : GuestFiles) (b : Budget) (feeds : List Feed) where
  module _ (P : State → Type 0) (steps : (s t : State) → P s → step judged.program s ≡ Ok t → P t)
      (feds : (bytes : List ℕ) (s : State) → P s → P (fed bytes s)) where
    feed_keeps : (bytes : List ℕ) (o : OrFault State) → Leads State P o → Leads State P (fed_in bytes o)
    feed_keeps bytes o h = chained P P o (λ s. Ok (fed bytes s)) h (λ t k. leaf P (fed bytes t) (feds bytes t k))

    step_keeps : (bytes : List ℕ) (o : OrFault State) → Leads State P o → Leads State P (fed_in bytes (o >>= step judged.program))
    step_keeps bytes o h =
        feed_keeps bytes (o >>= step judged.program)
        (chained P P o (step judged.program) h (λ t k. record { at = λ u e. steps t u k e }))

    -- from the start on
    pub alone_keeps : Leads State P (start judged.program g.main g.input b) → (n : ℕ) → Leads State P (alone judged g b feeds n)
    alone_keeps h zero = feed_keeps (came_at zero feeds) (start judged.program g.main g.input b) h
    alone_keeps h (suc n) = step_keeps (came_at (suc n) feeds) (alone judged g b feeds n) (alone_keeps h n)

    -- and from a state on that the guest was in
    pub later_keeps : (n more : ℕ) (s : State) → alone judged g b feeds n ≡ Ok s → P s → Leads State P (alone judged g b feeds (n + more))
    later_keeps n zero s e h =
        subst (λ (k : ℕ). Leads State P (alone judged g b feeds k)) (sym (add-zero n))
        (record { at = λ t f. subst P (same_given s t (alone judged g b feeds n) e f) h })
    later_keeps n (suc more) s e h =
        subst (λ (k : ℕ). Leads State P (alone judged g b feeds k)) (sym (add-suc n more))
        (step_keeps (came_at (suc (n + more)) feeds) (alone judged g b feeds (n + more)) (later_keeps n more s e h))

-- ---- what a guest does alone goes on

pub alone_goes_on : AloneGoesOn
alone_goes_on judged g b feeds n zero s e = ap (λ (k : ℕ). alone judged g b feeds k) (add-zero n) ∙ e
alone_goes_on judged g b feeds n (suc more) s e =
    ap (λ (k : ℕ). alone judged g b feeds k) (add-suc n more)
    ∙ ap (λ (o : OrFault State). fed_in (came_at (suc (n + more)) feeds) (o >>= step judged.program))
    (alone_goes_on judged g b feeds n more s e)

nothing_fed : (bytes : List ℕ) (o : OrFault State) → bytes ≡ [] → fed_in bytes o ≡ o
nothing_fed bytes (Err fault) e = refl
nothing_fed bytes (Ok s) e = ap (λ (x : List ℕ). given (fed x s)) e ∙ ap (λ (t : State). given t) (fed_nothing s)

pub alone_steps_on : AloneStepsOn
alone_steps_on judged g b feeds n zero s e nothing = ap (λ (k : ℕ). alone judged g b feeds k) (add-zero n) ∙ e
alone_steps_on judged g b feeds n (suc more) s e nothing =
    ap (λ (k : ℕ). alone judged g b feeds k) (add-suc n more)
    ∙ ap (λ (o : OrFault State). fed_in (came_at (suc (n + more)) feeds) (o >>= step judged.program))
    (alone_steps_on judged g b feeds n more s e (λ k h i. nothing k h (omega (arith, i))))
    ∙ nothing_fed (came_at (suc (n + more)) feeds) (after_steps judged.program (suc more) s)
    (nothing (suc (n + more)) (omega arith) (omega arith))

-- ---- the same bytes

-- before what comes then joins
reached : Judged → GuestFiles → Budget → List Feed → ℕ → OrFault State
reached judged g b feeds zero = start judged.program g.main g.input b
reached judged g b feeds (suc n) = alone judged g b feeds n >>= step judged.program

then_fed :
    (judged : Judged) (g : GuestFiles) (b : Budget) (feeds : List Feed) (n : ℕ)
    → alone judged g b feeds n ≡ fed_in (came_at n feeds) (reached judged g b feeds n)
unfolding reached
then_fed judged g b feeds zero = refl
then_fed judged g b feeds (suc n) = refl

pub same_bytes_do_the_same : SameBytesDoTheSame
same_bytes_do_the_same judged g b one other zero h =
    ap (λ (bytes : List ℕ). fed_in bytes (start judged.program g.main g.input b)) (h zero (omega arith))
same_bytes_do_the_same judged g b one other (suc n) h =
    ap (λ (bytes : List ℕ). fed_in bytes (alone judged g b one n >>= step judged.program)) (h (suc n) (omega arith))
    ∙ ap (λ (o : OrFault State). fed_in (came_at (suc n) other) (o >>= step judged.program))
    (same_bytes_do_the_same judged g b one other n (λ k i. h k (omega (arith, i))))

same_reached :
    (judged : Judged) (g : GuestFiles) (b : Budget) (one other : List Feed) (n : ℕ)
    → ((k : ℕ) → k < n → came_at k one ≡ came_at k other) → reached judged g b one n ≡ reached judged g b other n
unfolding reached
same_reached judged g b one other zero h = refl
same_reached judged g b one other (suc n) h =
    ap (λ (o : OrFault State). o >>= step judged.program) (same_bytes_do_the_same judged g b one other n (λ k i. h k (omega (arith, i))))

pub same_bytes_show_the_same : SameBytesShowTheSame
same_bytes_show_the_same g b one other n o h shows = by_result (reached shows.judged g b one n) refl
  where
    by_result : (r : OrFault State) → reached shows.judged g b one n ≡ r → Shows g b other n o
    by_result (Ok s) e =
        let was : shows.state ≡ fed (came_at n one) s =
        same_given shows.state (fed (came_at n one) s) (alone shows.judged g b one n) shows.ran
        (then_fed shows.judged g b one n ∙ ap (λ (x : OrFault State). fed_in (came_at n one) x) e) in
        record {
          judged = shows.judged;
          right = shows.right;
          state = fed (came_at n other) s;
          ran =
              then_fed shows.judged g b other n
              ∙ ap (λ (x : OrFault State). fed_in (came_at n other) x) (sym (same_reached shows.judged g b one other n h) ∙ e);
          shown = shows.shown ∙ ap (λ (t : State). observation shows.judged.verdicts n t) was;
        }
    by_result (Err fault) e =
        let fails : alone shows.judged g b one n ≡ Err fault =
        then_fed shows.judged g b one n ∙ ap (λ (x : OrFault State). fed_in (came_at n one) x) e in
        let ran : alone shows.judged g b one n ≡ Ok shows.state = shows.ran in
        absurd cc

pub same_bytes_fault_the_same : SameBytesFaultTheSame
same_bytes_fault_the_same g b one other n h faults = record {
  judged = faults.judged;
  right = faults.right;
  fault =
      subst IsErr (sym (then_fed faults.judged g b other n))
      (over (reached faults.judged g b other n)
      (subst (λ (r : OrFault State). IsErr (fed_in (came_at n one) r)) (same_reached faults.judged g b one other n h)
      (subst IsErr (then_fed faults.judged g b one n) faults.fault)));
}
  where
    over : (r : OrFault State) → IsErr (fed_in (came_at n one) r) → IsErr (fed_in (came_at n other) r)
    over (Ok s) i = i
    over (Err fault) i = i

-- ---- a feed more

came_also : (k : ℕ) (feeds : List Feed) (feed : Feed) → came_at k (feeds ++ feed ∷ []) ≡ came_at k feeds ++ came_at k (feed ∷ [])
came_also k [] feed = refl
came_also k (first ∷ more) feed = by_test (first.own_step == k) (came_also k more feed)
  where
    by_test :
        (test : Bool) → came_at k (more ++ feed ∷ []) ≡ came_at k more ++ came_at k (feed ∷ [])
        → (if test then first.bytes ++ came_at k (more ++ feed ∷ []) else came_at k (more ++ feed ∷ []))
        ≡ (if test then first.bytes ++ came_at k more else came_at k more) ++ came_at k (feed ∷ [])
    by_test true e = ap (λ (x : List ℕ). first.bytes ++ x) e ∙ sym (append_assoc first.bytes (came_at k more) (came_at k (feed ∷ [])))
    by_test false e = e

comes_then : (feed : Feed) → came_at feed.own_step (feed ∷ []) ≡ feed.bytes
comes_then feed = by_test (feed.own_step == feed.own_step) (same_number feed.own_step)
  where
    same_number : (k : ℕ) → (k == k) ≡ true
    same_number k = grind (arith)

    by_test : (test : Bool) → test ≡ true → (if test then feed.bytes ++ [] else []) ≡ feed.bytes
    by_test true e = append-nil feed.bytes
    by_test false e = absurd cc

not_before : (k : ℕ) (feed : Feed) → k < feed.own_step → came_at k (feed ∷ []) ≡ []
not_before k feed h = by_test (feed.own_step == k) refl
  where
    by_test : (test : Bool) → (feed.own_step == k) ≡ test → (if test then feed.bytes ++ [] else []) ≡ []
    by_test true e = let same : feed.own_step ≡ k = eqb-true feed.own_step k e in absurd (omega (arith, h, same))
    by_test false e = refl

same_before : (feeds : List Feed) (feed : Feed) (k : ℕ) → k < feed.own_step → came_at k feeds ≡ came_at k (feeds ++ feed ∷ [])
same_before feeds feed k h =
    sym (came_also k feeds feed ∙ ap (λ (x : List ℕ). came_at k feeds ++ x) (not_before k feed h) ∙ append-nil (came_at k feeds))

pub feed_shows_later : FeedShowsLater
feed_shows_later g b feeds feed n o h = (
  λ shows. same_bytes_show_the_same g b feeds (feeds ++ feed ∷ []) n o (λ k i. same_before feeds feed k (omega (arith, h, i))) shows,
  λ shows. same_bytes_show_the_same g b (feeds ++ feed ∷ []) feeds n o (λ k i. sym (same_before feeds feed k (omega (arith, h, i)))) shows,
)

pub feed_joins : FeedJoins
feed_joins judged g b feeds bytes n s e =
    let feed : Feed = record { own_step = n; bytes = bytes } in
    then_fed judged g b (feeds ++ feed ∷ []) n
    ∙ ap (λ (r : OrFault State). fed_in (came_at n (feeds ++ feed ∷ [])) r)
    (sym (same_reached judged g b feeds (feeds ++ feed ∷ []) n (λ k i. same_before feeds feed k i)))
    ∙ ap (λ (x : List ℕ). fed_in x (reached judged g b feeds n))
    (came_also n feeds feed ∙ ap (λ (x : List ℕ). came_at n feeds ++ x) (comes_then feed))
    ∙ again (reached judged g b feeds n)
    ∙ ap (λ (r : OrFault State). fed_in bytes r) (sym (then_fed judged g b feeds n) ∙ e)
  where
    again : (r : OrFault State) → fed_in (came_at n feeds ++ bytes) r ≡ fed_in bytes (fed_in (came_at n feeds) r)
    again (Ok t) = ap (λ (u : State). given u) (sym (fed_both (came_at n feeds) bytes t))
    again (Err fault) = refl
