-- A judged guest's machine goes on (JVMS 4.10): so a guest that stands can take its steps.
use Rattle.std.proofs.Common.{◌≡◌, ℕ, zero, suc, Bool, ◌+◌, List, [], ◌∷◌, Ok, Err, IsOk, IsTrue, Contains, refl, sym, ap, subst, ◌∙◌, arith}
use Rattle.jv_meaning_world.specs.World.{World}
use Rattle.jv_meaning_world.specs.Verdicts.{is_loadable}
use Rattle.jv_meaning_machine.specs.Faults.{Fault, OrFault, ◌>>=◌}
use Rattle.jv_meaning_machine.specs.Frames.{InitializationFrame, Frame}
use Rattle.jv_meaning_machine.specs.Frames.Frame.{Runs, Initializes}
use Rattle.jv_meaning_machine.specs.State.{Program, End, State}
use Rattle.jv_meaning_machine.specs.State.End.{Running, Returned, Threw, NoMain}
use Rattle.jv_meaning_machine.specs.Start.{Budget}
use Rattle.jv_meaning_machine.specs.Alone.{GuestFiles, Feed, came_at, fed, alone}
use Rattle.jv_meaning_machine.specs.Step.{step, after_steps}
use Rattle.jv_meaning_machine.specs.Laws.Runs.{AloneStepsOn}
use Rattle.jv_meaning_machine.specs.Laws.Ends.{EndFitsAlone}
use Rattle.jv_sound.specs.Law.{NeverFaults, ObjectsAreLoadable, InitializationsAreLoadable}
use Rattle.jv_interp_heap.specs.ObjectsInBlocks.{Blocks}
use Rattle.jv_interp_steps.specs.Guests.{IsGuest, IsLoadableOnTop}
use Rattle.jv_interp_steps.specs.Running.{Leads, IsSafe, RunsFrom}
use Rattle.jv_interp_steps.proofs.Runs.{after_them}
use Rattle.jv_interp.specs.declared.guest.Guest.{Guest}
use Rattle.jv_interp.specs.Standing.{kept_of, GuestStands}

not_ok : (fault : Fault) → IsOk {T = State} (Err fault) → ⊥
not_ok fault h = cc

-- what is fed behind a step, behind a state that there is
taken : (program : Program) (bytes : List ℕ) (o : OrFault State) (later : State) → o ≡ Ok later → IsOk (o >>= step program >>= λ s. Ok (fed bytes s)) → (t : State) × (step program later ≡ Ok t)
taken program bytes o later e ok =
    by_step (step program later) refl (subst (λ (r : OrFault State). IsOk (r >>= step program >>= λ s. Ok (fed bytes s))) e ok)
  where
    by_step : (r : OrFault State) → step program later ≡ r → IsOk (step program later >>= λ s. Ok (fed bytes s)) → (t : State) × (step program later ≡ Ok t)
    by_step (Ok t) is ok = (t, is)
    by_step (Err fault) is ok = absurd (not_ok fault (subst (λ (r : OrFault State). IsOk (r >>= λ s. Ok (fed bytes s))) is ok))

on_top :
    (world : World) (fs : List Frame) → ((frame : InitializationFrame) → Contains fs (Initializes frame) → IsTrue (is_loadable world frame.class))
    → IsLoadableOnTop world fs
on_top world [] h = tt
on_top world (Runs f ∷ below) h = tt
on_top world (Initializes f ∷ below) h = h f (0, omega arith, refl)

returned : Returned ≡ Running → ⊥
returned e = cc

threw : (class : List ℕ) → Threw class ≡ Running → ⊥
threw class e = cc

no_main : NoMain ≡ Running → ⊥
no_main e = cc

module _ (never : NeverFaults) (objects : ObjectsAreLoadable) (initializations : InitializationsAreLoadable) (on : AloneStepsOn) (g : GuestFiles)
    (b : Budget) (feeds : List Feed) (n : ℕ) (addresses : List ℕ) (guest : Guest) (blocks : Blocks)
    (h : GuestStands g b feeds n addresses guest blocks) where
  abbrev pub program : Program
  program = h.judged.program

  pub later_alone : (k : ℕ) (later : State) → after_steps program k h.state ≡ Ok later → alone h.judged g b feeds (n + k) ≡ Ok later
  later_alone k later e = on h.judged g b feeds n k h.state h.ran (h.came k) ∙ e

  pub safe : IsSafe program h.state
  safe k later e =
      let here = later_alone k later e in
      let next =
      taken program (came_at (suc (n + k)) feeds) (alone h.judged g b feeds (n + k)) later here (never h.judged g b feeds (suc (n + k)) h.right h.library_stands) in (
        next.0,
        record {
          objects = objects h.judged g b feeds (n + k) later h.right h.library_stands here;
          initialized = on_top program.world later.frames (initializations h.judged g b feeds (n + k) later h.right h.library_stands here);
          does = next.1;
        },
      )

  pub is_guest : IsGuest guest.judged.world guest.verified.items program
  is_guest = record {
    world_is = h.world_is;
    guests = record {
      library = g.library;
      given = h.right.given;
      gives = h.right.gives;
      files = g.files;
      contents = h.right.contents;
      held = h.right.held;
      world_is = h.right.world;
    };
    few = h.tables.few;
    finds = h.right.instructions;
    units = h.right.units;
    are = h.verified_are;
  }

  pub runs_from :
      (world : World) (verified : List Bool) → world ≡ guest.judged.world → verified ≡ guest.verified.items
      → RunsFrom world verified program guest.texts.names h.state addresses (kept_of guest blocks)
  runs_from world verified same told =
      subst (λ (w : World). RunsFrom w verified program guest.texts.names h.state addresses (kept_of guest blocks)) (sym same)
      (subst (λ (v : List Bool). RunsFrom guest.judged.world v program guest.texts.names h.state addresses (kept_of guest blocks)) (sym told)
      (record { guest = is_guest; safe = safe; stands = h.stands }))

  -- it had not ended before the last of the steps that it took
  pub ran_to_last :
      EndFitsAlone → (t : State) (k j : ℕ) (s : State) → Leads program k h.state t → suc j ≡ k → alone h.judged g b feeds (n + j) ≡ Ok s
      → s.control.end ≡ Running
  ran_to_last fits t zero j s l is here = let none = is in absurd (omega (arith, none))
  ran_to_last fits t (suc m) j s l is here =
      let same : j ≡ m = omega (arith, is) in
      let before : alone h.judged g b feeds (n + j) ≡ Ok l.0 =
      later_alone j l.0 (after_them program j h.state l.0 (subst (λ (i : ℕ). Leads program i h.state l.0) (sym same) l.1)) in
      let one : l.0 ≡ s = same_state l.0 s (sym before ∙ here) in
      by_end s.control.end refl
      (λ ended. l.2 (ap (λ (x : State). x.frames) one ∙ (fits h.judged g b feeds (n + j) s h.right here).1 (λ running. ended running)))
    where
      same_state : (x y : State) → ◌≡◌ {A = OrFault State} (Ok x) (Ok y) → x ≡ y
      same_state x y e = cc

      by_end : (e : End) → s.control.end ≡ e → ((s.control.end ≡ Running → ⊥) → ⊥) → s.control.end ≡ Running
      by_end Running is not_ended = is
      by_end Returned is not_ended = absurd (not_ended (λ running. returned (sym is ∙ running)))
      by_end (Threw class) is not_ended = absurd (not_ended (λ running. threw class (sym is ∙ running)))
      by_end NoMain is not_ended = absurd (not_ended (λ running. no_main (sym is ∙ running)))
