-- Steps one after the other (JVMS 2.11).
use Rattle.std.proofs.Common.{◌≡◌, ℕ, zero, suc, ◌+◌, Bool, List, [], ◌∷◌, ◌++◌, Ok, length, refl, sym, ap, subst, ◌∙◌, arith, append_assoc, append-nil}
use Rattle.jv_meaning_world.specs.World.{World}
use Rattle.jv_meaning_machine.specs.Faults.{OrFault, ◌>>=◌}
use Rattle.jv_meaning_machine.specs.Frames.{Frame}
use Rattle.jv_meaning_machine.specs.State.{Program, State}
use Rattle.jv_meaning_machine.specs.Step.{step, after_steps}
use Rattle.jv_interp_words.specs.declared.registers.Registers.{Registers}
use Rattle.jv_interp_words.proofs.Gave.{bound_gave}
use Rattle.jv_interp_held.specs.Growing.{Grows}
use Rattle.jv_interp_held.proofs.Growths.{grows_not, then_grows}
use Rattle.jv_interp_control.specs.Standing.{Kept, StateStands, Reaches}
use Rattle.jv_interp_control.specs.Running.{StateRuns}
use Rattle.jv_interp_steps.specs.Guests.{TakesStep}
use Rattle.jv_interp_steps.specs.Stepping.{StepsIn, RunsOn}
use Rattle.jv_interp_steps.specs.Running.{Leads, IsSafe, RunsFrom, Ran, RunsIn, RanOn, RanOnTo}

-- ---- the machine's steps

same_number : (n m : ℕ) → n ≡ m → suc n ≡ suc m
same_number n m e = ap suc e

pub bound_again : (o : OrFault State) (next : State → OrFault State) (t u : State) → o ≡ Ok t → next t ≡ Ok u → (o >>= next) ≡ Ok u
bound_again o next t u e f = subst (λ (r : OrFault State). (r >>= next) ≡ Ok u) (sym e) f

-- the state behind them
pub after_them : (program : Program) (k : ℕ) (s t : State) → Leads program k s t → after_steps program k s ≡ Ok t
after_them program zero s t l = ap (λ (x : State). Ok x) (sym l)
after_them program (suc k) s t l = bound_again (after_steps program k s) (step program) l.0 t (after_them program k s l.0 l.1) l.3

steps_join :
    (program : Program) (k j : ℕ) (s t u : State) → after_steps program k s ≡ Ok t → after_steps program j t ≡ Ok u → after_steps program (k + j) s ≡ Ok u
steps_join program k zero s t u e f =
    let none : k + 0 ≡ k = omega arith in
    subst (λ (n : ℕ). after_steps program n s ≡ Ok u) (sym none) (e ∙ f)
steps_join program k (suc j) s t u e f =
    let last = bound_gave (after_steps program j t) (step program) u f in
    let up : k + suc j ≡ suc (k + j) = omega arith in
    subst (λ (n : ℕ). after_steps program n s ≡ Ok u) (sym up)
    (bound_again (after_steps program (k + j) s) (step program) last.0 u (steps_join program k j s t last.0 e last.1) last.2)

pub leads_on : (program : Program) (k j : ℕ) (s t u : State) → Leads program k s t → Leads program j t u → Leads program (k + j) s u
leads_on program k zero s t u l m =
    let none : k + 0 ≡ k = omega arith in
    subst (λ (n : ℕ). Leads program n s u) (sym none) (subst (λ (x : State). Leads program k s x) (sym m) l)
leads_on program k (suc j) s t u l m =
    let up : k + suc j ≡ suc (k + j) = omega arith in
    subst (λ (n : ℕ). Leads program n s u) (sym up) (m.0, leads_on program k j s t m.0 l m.1, m.2, m.3)

pub safe_later : (program : Program) (k : ℕ) (s t : State) → IsSafe program s → Leads program k s t → IsSafe program t
safe_later program k s t safe l = λ n later f. safe (k + n) later (steps_join program k n s t later (after_them program k s t l) f)

-- ---- what stands

pub reaches_join :
    (program : Program) (texts : List (List ℕ)) (t u : State) (addresses : List ℕ) (before between after : Kept) (r : Reaches program texts t addresses before between)
    → Reaches program texts u (addresses ++ r.more) between after → Reaches program texts u addresses before after
reaches_join program texts t u addresses before between after r q = record {
  more = r.more ++ q.more;
  stands = subst (λ (l : List ℕ). StateStands program texts u l after) (append_assoc addresses r.more q.more) q.stands;
  grows = then_grows addresses r.more q.more before.blocks between.blocks after.blocks r.grows q.grows;
}

pub runs_reach :
    (program : Program) (texts : List (List ℕ)) (t u : State) (addresses : List ℕ) (at : Registers) (before between after : Kept)
    (r : RunsOn program texts t addresses at before between) → Reaches program texts u (addresses ++ r.more) between after → Reaches program texts u addresses before after
runs_reach program texts t u addresses at before between after r q = record {
  more = r.more ++ q.more;
  stands = subst (λ (l : List ℕ). StateStands program texts u l after) (append_assoc addresses r.more q.more) q.stands;
  grows = then_grows addresses r.more q.more before.blocks between.blocks after.blocks r.grows q.grows;
}

pub runs_join :
    (program : Program) (texts : List (List ℕ)) (t u : State) (addresses : List ℕ) (at at_after : Registers) (before between after : Kept)
    (r : RunsOn program texts t addresses at before between) → RunsOn program texts u (addresses ++ r.more) at_after between after
    → RunsOn program texts u addresses at_after before after
runs_join program texts t u addresses at at_after before between after r q = record {
  more = r.more ++ q.more;
  runs = subst (λ (l : List ℕ). StateRuns program texts u l at_after after) (append_assoc addresses r.more q.more) q.runs;
  grows = then_grows addresses r.more q.more before.blocks between.blocks after.blocks r.grows q.grows;
}

pub some_frame : {x : Frame} {xs : List Frame} (fs : List Frame) → fs ≡ x ∷ xs → fs ≡ [] → ⊥
some_frame fs is none = let long = ap length (sym none ∙ is) in absurd (omega (arith, long))

-- nothing was done yet
pub runs_not :
    (world : World) (verified : List Bool) (at : Registers) (program : Program) (texts : List (List ℕ)) (s : State) (addresses : List ℕ) (before : Kept)
    → RunsIn world verified at program texts s addresses before → RanOn 0 program texts s addresses at before before
runs_not world verified at program texts s addresses before h = record {
  t = s;
  does = refl;
  runs = record {
    more = [];
    runs = subst (λ (l : List ℕ). StateRuns program texts s l at before) (sym (append-nil addresses)) h.runs;
    grows = grows_not addresses before.blocks;
  };
}

pub ran_not :
    (world : World) (verified : List Bool) (program : Program) (texts : List (List ℕ)) (s : State) (addresses : List ℕ) (before : Kept)
    → RunsFrom world verified program texts s addresses before → Ran 0 program texts s addresses before before
ran_not world verified program texts s addresses before h = record {
  t = s;
  does = refl;
  reaches = record {
    more = [];
    stands = subst (λ (l : List ℕ). StateStands program texts s l before) (sym (append-nil addresses)) h.stands;
    grows = grows_not addresses before.blocks;
  };
}

-- a method that ran so far, in its record
pub ran_stands :
    (k : ℕ) (program : Program) (texts : List (List ℕ)) (s : State) (addresses : List ℕ) (at : Registers) (before now after : Kept)
    (r : RanOn k program texts s addresses at before now) → StateStands program texts r.t (addresses ++ r.runs.more) after → after.blocks ≡ now.blocks
    → Ran k program texts s addresses before after
ran_stands k program texts s addresses at before now after r stands same = record {
  t = r.t;
  does = r.does;
  reaches = record { more = r.runs.more; stands = stands; grows = subst (λ b. Grows addresses r.runs.more before.blocks b) (sym same) r.runs.grows };
}

-- over the same blocks
pub ran_again :
    (k : ℕ) (program : Program) (texts : List (List ℕ)) (s : State) (addresses : List ℕ) (first second after : Kept) → second.blocks ≡ first.blocks
    → Ran k program texts s addresses first after → Ran k program texts s addresses second after
ran_again k program texts s addresses first second after same r = record {
  t = r.t;
  does = r.does;
  reaches = record {
    more = r.reaches.more;
    stands = r.reaches.stands;
    grows = subst (λ b. Grows addresses r.reaches.more b after.blocks) (sym same) r.reaches.grows;
  };
}

-- what ran so far stands in other frames
pub ran_kept :
    (k : ℕ) (program : Program) (texts : List (List ℕ)) (s : State) (addresses : List ℕ) (before now after : Kept)
    (r : Ran k program texts s addresses before now) → StateStands program texts r.t (addresses ++ r.reaches.more) after → after.blocks ≡ now.blocks
    → Ran k program texts s addresses before after
ran_kept k program texts s addresses before now after r stands same = record {
  t = r.t;
  does = r.does;
  reaches = record { more = r.reaches.more; stands = stands; grows = subst (λ b. Grows addresses r.reaches.more before.blocks b) (sym same) r.reaches.grows };
}

-- one step
pub ran_one :
    (program : Program) (texts : List (List ℕ)) (s t : State) (addresses : List ℕ) (first second after : Kept) → (s.frames ≡ [] → ⊥)
    → step program s ≡ Ok t → second.blocks ≡ first.blocks → Reaches program texts t addresses first after → Ran 1 program texts s addresses second after
ran_one program texts s t addresses first second after some does same r =
    ran_again 1 program texts s addresses first second after same (record { t = t; does = (s, refl, some, does); reaches = r })

-- ---- a method that ran so far runs on

module _ (world : World) (verified : List Bool) (start : Registers) (program : Program) (texts : List (List ℕ)) (s : State) (addresses : List ℕ) (before : Kept)
    (h : RunsIn world verified start program texts s addresses before) (k : ℕ) (at : Registers) (now : Kept)
    (r : RanOn k program texts s addresses at before now) where
  pub safe_now : IsSafe program r.t
  safe_now = safe_later program k s r.t h.safe r.does

  abbrev pub next : State
  next = (safe_now 0 r.t refl).0

  abbrev pub takes : TakesStep program r.t next
  takes = (safe_now 0 r.t refl).1

  pub steps_in : StepsIn world verified at program texts r.t next (addresses ++ r.runs.more) now
  steps_in = record { guest = h.guest; takes = takes; runs = r.runs.runs }

  pub ran_on :
      (at_after : Registers) (after : Kept) → RunsOn program texts next (addresses ++ r.runs.more) at_after now after
      → RanOn (suc k) program texts s addresses at_after before after
  ran_on at_after after q = record {
    t = next;
    does = (r.t, r.does, some_frame r.t.frames r.runs.runs.running.frames_are, takes.does);
    runs = runs_join program texts r.t next addresses at at_after before now after r.runs q;
  }

  pub ran_out : (after : Kept) → Reaches program texts next (addresses ++ r.runs.more) now after → Ran (suc k) program texts s addresses before after
  ran_out after q = record {
    t = next;
    does = (r.t, r.does, some_frame r.t.frames r.runs.runs.running.frames_are, takes.does);
    reaches = runs_reach program texts r.t next addresses at before now after r.runs q;
  }

  pub runs_in : RunsIn world verified at program texts r.t (addresses ++ r.runs.more) now
  runs_in = record { guest = h.guest; safe = safe_now; runs = r.runs.runs }

  -- and a number of steps more
  pub ran_more :
      (j : ℕ) (at_after : Registers) (after : Kept) → RanOnTo j world verified texts at now at_after after
      → RanOn (k + j) program texts s addresses at_after before after
  ran_more j at_after after more =
      let q = more program r.t (addresses ++ r.runs.more) runs_in in
      record {
        t = q.t;
        does = leads_on program k j s r.t q.t r.does q.does;
        runs = runs_join program texts r.t q.t addresses at at_after before now after r.runs q.runs;
      }

-- ---- a guest that ran so far runs on

module _ (world : World) (verified : List Bool) (program : Program) (texts : List (List ℕ)) (s : State) (addresses : List ℕ) (before : Kept)
    (h : RunsFrom world verified program texts s addresses before) (k : ℕ) (now : Kept) (r : Ran k program texts s addresses before now) where
  pub from_now : RunsFrom world verified program texts r.t (addresses ++ r.reaches.more) now
  from_now = record { guest = h.guest; safe = safe_later program k s r.t h.safe r.does; stands = r.reaches.stands }

  pub ran_then :
      (j : ℕ) (after : Kept) → Ran j program texts r.t (addresses ++ r.reaches.more) now after → Ran (k + j) program texts s addresses before after
  ran_then j after q = record {
    t = q.t;
    does = leads_on program k j s r.t q.t r.does q.does;
    reaches = reaches_join program texts r.t q.t addresses before now after r.reaches q.reaches;
  }
