-- Bytes that come to a guest's input.
use Rattle.std.proofs.Common.{◌≡◌, ℕ, ◌+◌, ◌<◌, ◌≤◌, List, [], ◌∷◌, ◌++◌, Some, None, length, map, refl, sym, ap, subst, ◌∙◌, arith}
use Rattle.std.proofs.lemmas.Bool.{lt-ltb, le-ltb}
use Rattle.std.specs.Prelude.{Bool, cond}
use Rattle.jv_meaning_machine.specs.Start.{Budget as BudgetOfMachine}
use Rattle.jv_meaning_machine.specs.Alone.{GuestFiles as FilesOfGuest, Feed}
use Rattle.jv_interp_heap.specs.ObjectsInBlocks.{Blocks}
use Rattle.jv_interp.specs.Started.{budget_of}
use Rattle.jv_interp.specs.Standing.{GuestStands, IsFed, StandsStill}
use Rattle.jv_limits.specs.declared.fault.FeedFault.TheVariants as faults
use Rattle.jv_host.specs.declared.admission.Fed.{Fed}
use Rattle.jv_host.specs.declared.admission.Admitted.{Admitted}
use Rattle.jv_host.specs.Files.{guest_of}
use Rattle.jv_host.specs.Host.{Admission, fed_now, fed_bytes, input_bytes}
use Rattle.jv_host.specs.Limits.{feed_refusal_of}
use Rattle.jv_host.specs.Inside.Holding.{feed_of, admission_of, IsHeld, StaysHeld}
use Rattle.jv_host.proofs.Places.{map_of_more}

-- ---- how many came

bytes_of_more : (feeds : List Feed) (feed : Feed) → fed_bytes (feeds ++ feed ∷ []) ≡ fed_bytes feeds + length feed.bytes
bytes_of_more [] feed = omega arith
bytes_of_more (f ∷ feeds) feed = let rest = bytes_of_more feeds feed in omega (arith, rest)

pub too_long :
    (a : Admission) (count came : ℕ) → came ≡ input_bytes a → 16777216 < came + count → feed_refusal_of (Some a) count ≡ Some faults.InputTooLong
too_long a count came is more =
    ap (λ (b : Bool). cond b (Some faults.InputTooLong) None) (lt-ltb 16777216 (input_bytes a + count) (omega (arith, is, more)))

pub not_too_long : (a : Admission) (count came : ℕ) → came ≡ input_bytes a → came + count ≤ 16777216 → feed_refusal_of (Some a) count ≡ None
not_too_long a count came is few =
    ap (λ (b : Bool). cond b (Some faults.InputTooLong) None) (le-ltb 16777216 (input_bytes a + count) (omega (arith, is, few)))

-- ---- a guest whose feeds, count and state are those of another value

module _ (a d : Admitted) where
  abbrev files : FilesOfGuest
  files = guest_of a.files

  abbrev budget : BudgetOfMachine
  budget = budget_of a.budget

  abbrev feeds : List Feed
  feeds = map feed_of a.feeds.items

  abbrev now : Admitted
  now = record a { feeds = d.feeds; came = d.came; guest = d.guest }

  abbrev admission_with : List Feed → ℕ → Admission
  admission_with feeds steps = record { guest = files; budget = budget; feeds = feeds; steps = steps }

  -- nothing has changed
  pub same_held : d.feeds.items ≡ a.feeds.items → d.came ≡ a.came → StandsStill a.guest d.guest → StaysHeld a now
  same_held items came still addresses blocks h =
      let stands = still files budget feeds a.guest.steps addresses blocks h.stands in
      record {
        stands =
            subst (λ (l : List Fed). GuestStands files budget (map feed_of l) d.guest.steps addresses d.guest blocks) (sym items)
            (subst (λ (n : ℕ). GuestStands files budget feeds n addresses d.guest blocks) (sym stands.steps_are) stands);
        came = let old = h.came in let all = ap (λ (l : List Fed). fed_bytes (map feed_of l)) items in omega (arith, old, came, all);
        few = let old = h.few in omega (arith, old, came);
        least = h.least;
        most = h.most;
      }

  pub same_admission :
      d.feeds.items ≡ a.feeds.items → StandsStill a.guest d.guest → (addresses : List ℕ) (blocks : Blocks) → IsHeld a addresses blocks
      → admission_of now ≡ admission_of a
  same_admission items still addresses blocks h =
      ap (λ (l : List Fed). admission_with (map feed_of l) d.guest.steps) items
      ∙ ap (λ (n : ℕ). admission_with feeds n) (still files budget feeds a.guest.steps addresses blocks h.stands).steps_are

  -- bytes came
  module _ (fed : Fed) (joined : IsFed fed.bytes.items a.guest d.guest) (items : d.feeds.items ≡ a.feeds.items ++ fed ∷ [])
      (step : fed.own_step ≡ a.guest.steps) where
    abbrev feed_now : ℕ → Feed
    feed_now step = record { own_step = step; bytes = fed.bytes.items }

    feeds_are : map feed_of d.feeds.items ≡ feeds ++ feed_now a.guest.steps ∷ []
    feeds_are =
        ap (λ (l : List Fed). map feed_of l) items ∙ map_of_more feed_of a.feeds.items fed
        ∙ ap (λ (n : ℕ). feeds ++ feed_now n ∷ []) step

    stands_fed :
        (addresses : List ℕ) (blocks : Blocks) → IsHeld a addresses blocks
        → GuestStands files budget (feeds ++ feed_now a.guest.steps ∷ []) a.guest.steps addresses d.guest blocks
    stands_fed addresses blocks h = joined files budget feeds a.guest.steps addresses blocks h.stands

    pub fed_held : d.came ≡ a.came + length fed.bytes.items → d.came ≤ 16777216 → StaysHeld a now
    fed_held came few addresses blocks h =
        let stands = stands_fed addresses blocks h in
        record {
          stands =
              subst (λ (l : List Feed). GuestStands files budget l d.guest.steps addresses d.guest blocks) (sym feeds_are)
              (subst (λ (n : ℕ). GuestStands files budget (feeds ++ feed_now a.guest.steps ∷ []) n addresses d.guest blocks) (sym stands.steps_are)
              stands);
          came =
              let old = h.came in
              let all = ap (λ (l : List Feed). fed_bytes l) feeds_are in
              let more = bytes_of_more feeds (feed_now a.guest.steps) in
              omega (arith, old, came, all, more);
          few = few;
          least = h.least;
          most = h.most;
        }

    fed_so : (bytes : List ℕ) → bytes ≡ fed.bytes.items → 0 < length bytes → fed_now bytes (admission_of a) ≡ admission_with (feeds ++ feed_now a.guest.steps ∷ []) a.guest.steps
    fed_so [] same some = absurd (omega (arith, some))
    fed_so (byte ∷ bytes) same some =
        ap (λ (l : List ℕ). admission_with (feeds ++ record { own_step = a.guest.steps; bytes = l } ∷ []) a.guest.steps) same

    pub fed_admission :
        (addresses : List ℕ) (blocks : Blocks) → IsHeld a addresses blocks → 0 < length fed.bytes.items
        → admission_of now ≡ fed_now fed.bytes.items (admission_of a)
    fed_admission addresses blocks h some =
        ap (λ (l : List Feed). admission_with l d.guest.steps) feeds_are
        ∙ ap (λ (n : ℕ). admission_with (feeds ++ feed_now a.guest.steps ∷ []) n) (stands_fed addresses blocks h).steps_are
        ∙ sym (fed_so fed.bytes.items refl some)
