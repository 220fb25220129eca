-- A turn of one guest.
use Rattle.std.proofs.Common.{◌≡◌, ℕ, zero, suc, Bool, true, false, ◌+◌, ◌-◌, ◌<◌, ◌≤◌, ◌^◌, ◌⊎◌, inl, inr, List, ◌++◌, Ok, refl, sym, ap, subst, ◌∙◌, arith, add-zero, add-suc}
use Rattle.std.specs.Prelude.{map}
use Rattle.jv_meaning_machine.specs.Faults.{◌>>=◌}
use Rattle.jv_meaning_machine.specs.State.{State, End}
use Rattle.jv_meaning_machine.specs.State.End.{Running, Returned, Threw, NoMain}
use Rattle.jv_meaning_machine.specs.Start.{Budget}
use Rattle.jv_meaning_machine.specs.Step.{step}
use Rattle.jv_meaning_machine.specs.Alone.{GuestFiles, Judged, IsJudged, Feed, came_at, fed, alone}
use Rattle.jv_meaning_machine.specs.Observation.{Shows, observation}
use Rattle.jv_meaning_machine.specs.Laws.Feeds.{came_behind}
use Rattle.jv_meaning_machine.specs.Laws.Ends.{EndedGuestStays}
use Rattle.jv_meaning_machine.specs.Laws.Shown.{OneJudged}
use Rattle.jv_meaning_machine.proofs.Leading.{bound_gave, same_given}
use Rattle.jv_interp_heap.specs.ObjectsInBlocks.{Blocks}
use Rattle.jv_interp.specs.Started.{budget_of}
use Rattle.jv_interp.specs.declared.guest.Guest.{Guest}
use Rattle.jv_interp.specs.Standing.{GuestStands, Went, WentOn}
use Rattle.jv_interp.specs.Showing.{RanToLast, IsAnswered, HasEnded}
use Rattle.jv_host.specs.declared.admission.Admitted.{Admitted}
use Rattle.jv_host.specs.Files.{guest_of}
use Rattle.jv_host.specs.Host.{stepped, IsRunningAfter, IsOverAfter}
use Rattle.jv_host.specs.Calls.{HadTurn, HadCutTurn}
use Rattle.jv_host.specs.Inside.Holding.{feed_of, admission_of, IsHeld, Goes}

-- ---- a guest alone

-- there was a state before each that there is
pub earlier :
    (judged : Judged) (g : GuestFiles) (b : Budget) (feeds : List Feed) (n more : ℕ) (t : State) → alone judged g b feeds (n + more) ≡ Ok t
    → (s : State) × (alone judged g b feeds n ≡ Ok s)
earlier judged g b feeds n zero t e = (t, ap (λ (k : ℕ). alone judged g b feeds k) (sym (add-zero n)) ∙ e)
earlier judged g b feeds n (suc more) t e =
    let here : alone judged g b feeds (suc (n + more)) ≡ Ok t = ap (λ (k : ℕ). alone judged g b feeds k) (sym (add-suc n more)) ∙ e in
    let joined =
    bound_gave (alone judged g b feeds (n + more) >>= step judged.program) (λ (s : State). Ok (fed (came_at (suc (n + more)) feeds) s)) t here in
    let taken = bound_gave (alone judged g b feeds (n + more)) (step judged.program) joined.0 joined.1 in
    earlier judged g b feeds n more taken.0 taken.1

-- and where it takes steps now, it took steps then
pub running_before :
    EndedGuestStays → (judged : Judged) (g : GuestFiles) (b : Budget) (feeds : List Feed) (n more : ℕ) (s t : State) → IsJudged g.library g.files judged
    → alone judged g b feeds n ≡ Ok s → alone judged g b feeds (n + more) ≡ Ok t → t.control.end ≡ Running → s.control.end ≡ Running
running_before stays judged g b feeds n more s t right e f running = by_end s.control.end refl
  where
    no_end : (s.control.end ≡ Running → ⊥) → ⊥
    no_end over =
        let stayed = stays judged g b feeds n more s right e over in
        let same = same_given t (fed (came_behind n more feeds) s) (alone judged g b feeds (n + more)) f stayed in
        over (sym (ap (λ (u : State). u.control.end) same) ∙ running)

    by_end : (end : End) → s.control.end ≡ end → s.control.end ≡ Running
    by_end Running is = is
    by_end Returned is = absurd (no_end (λ r. absurd cc))
    by_end (Threw class) is = absurd (no_end (λ r. absurd cc))
    by_end NoMain is = absurd (no_end (λ r. absurd cc))

-- ---- a guest that took so many steps

module _ (one : OneJudged) (stays : EndedGuestStays) (old : Admitted) (after : Guest) (k : ℕ) (blocks blocks_after : Blocks)
    (went : WentOn k old.guest after blocks blocks_after) where
  abbrev files : GuestFiles
  files = guest_of old.files

  abbrev budget : Budget
  budget = budget_of old.budget

  abbrev feeds : List Feed
  feeds = map feed_of old.feeds.items

  abbrev first : ℕ
  first = old.guest.steps

  abbrev now : Admitted
  now = record old { guest = after }

  module _ (addresses : List ℕ) (h : IsHeld old addresses blocks) where
    abbrev w : Went k files budget feeds first addresses old.guest after blocks blocks_after
    w = went files budget feeds first addresses h.stands

    ran : alone h.stands.judged files budget feeds (first + k) ≡ Ok w.stands.state
    ran =
        subst (λ (j : Judged). alone j files budget feeds (first + k) ≡ Ok w.stands.state)
        (one files.library files.files w.stands.judged h.stands.judged w.stands.right h.stands.right) w.stands.ran

    shows_at : (n : ℕ) (s : State) → alone h.stands.judged files budget feeds n ≡ Ok s → Shows files budget feeds n (observation h.stands.judged.verdicts n s)
    shows_at n s e = record { judged = h.stands.judged; right = h.stands.right; state = s; ran = e; shown = refl }

    -- it was running before each of these steps, and before the next one
    running_to :
        (l : ℕ) (s : State) → alone h.stands.judged files budget feeds (first + l) ≡ Ok s → s.control.end ≡ Running → (j : ℕ) → j < suc l
        → IsRunningAfter (admission_of old) (first + j)
    running_to l s e running j less =
        let place : first + l ≡ first + j + (l - j) = omega (arith, less) in
        let there : alone h.stands.judged files budget feeds (first + j + (l - j)) ≡ Ok s =
        subst (λ (n : ℕ). alone h.stands.judged files budget feeds n ≡ Ok s) place e in
        let before = earlier h.stands.judged files budget feeds (first + j) (l - j) s there in (
          observation h.stands.judged.verdicts (first + j) before.0,
          shows_at (first + j) before.0 before.1,
          running_before stays h.stands.judged files budget feeds (first + j) (l - j) before.0 s h.stands.right before.1 there running,
        )

    pub was_running : RanToLast k old.guest blocks → (j : ℕ) → j < k → IsRunningAfter (admission_of old) (first + j)
    was_running last j less = by_count k refl less
      where
        by_count : (m : ℕ) → k ≡ m → j < k → IsRunningAfter (admission_of old) (first + j)
        by_count zero is low = absurd (omega (arith, is, low))
        by_count (suc l) is low =
            let place : first + k ≡ first + l + 1 = omega (arith, is) in
            let before =
            earlier h.stands.judged files budget feeds (first + l) 1 w.stands.state
            (subst (λ (n : ℕ). alone h.stands.judged files budget feeds n ≡ Ok w.stands.state) place ran) in
            running_to l before.0 before.1 (last files budget feeds first addresses h.stands l before.0 (sym is) before.1) j (omega (arith, is, low))

    was_running_too : IsAnswered after true → (j : ℕ) → j < k + 1 → IsRunningAfter (admission_of old) (first + j)
    was_running_too runs j less =
        running_to k w.stands.state ran
        ((runs files budget feeds (first + k) (addresses ++ w.more) blocks_after w.stands).0 refl) j (omega (arith, less))

    over_now : IsAnswered after false → IsOverAfter (admission_of old) (first + k)
    over_now over = (
      observation h.stands.judged.verdicts (first + k) w.stands.state,
      shows_at (first + k) w.stands.state ran,
      λ running. absurd (let runs = (over files budget feeds (first + k) (addresses ++ w.more) blocks_after w.stands).1 running in cc),
    )

    pub had_turn :
        (limit left : ℕ) → RanToLast k old.guest blocks → (0 < left → IsAnswered after false) → k ≤ limit
        → (left ≡ 0 → k < limit → first + k ≡ 2 ^ 64 - 1) → first + k < 2 ^ 64 → HadTurn (admission_of old) limit k
    had_turn limit left last over most whole countable = record {
      most = most;
      running = was_running last;
      full = by_left left refl;
      countable = countable;
    }
      where
        by_left : (m : ℕ) → left ≡ m → k < limit → IsOverAfter (admission_of old) (first + k) ⊎ (first + k ≡ 2 ^ 64 - 1)
        by_left zero is less = inr (whole is less)
        by_left (suc m) is less = inl (over_now (over (omega (arith, is))))

    pub had_cut_turn :
        (limit : ℕ) → IsAnswered after true → k < limit → first + k < 2 ^ 64 - 1 → HadCutTurn (admission_of old) limit k
    had_cut_turn limit runs early countable = record { early = early; running = was_running_too runs; countable = countable }

    pub goes : Goes now addresses blocks blocks_after
    goes = record {
      more = w.more;
      held = record {
        stands = subst (λ (n : ℕ). GuestStands files budget feeds n (addresses ++ w.more) after blocks_after) (sym w.stands.steps_are) w.stands;
        came = h.came;
        few = h.few;
        least = h.least;
        most = h.most;
      };
      grows = w.grows;
    }

    pub admission_now : admission_of now ≡ stepped k (admission_of old)
    admission_now = ap (λ (n : ℕ). record (admission_of old) { steps = n }) w.stands.steps_are

    pub ended_now : (running : Bool) → IsAnswered after running → HasEnded after blocks_after → running ≡ false
    ended_now true answered ended =
        absurd (ended files budget feeds (first + k) (addresses ++ w.more) w.stands
        ((answered files budget feeds (first + k) (addresses ++ w.more) blocks_after w.stands).0 refl))
    ended_now false answered ended = refl
