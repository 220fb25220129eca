-- Steps that work on the words of their frame alone, among a method's steps (JVMS 2.11).
use Rattle.std.proofs.Common.{◌≡◌, ℕ, zero, suc, ◌+◌, Bool, List, [], ◌++◌, Ok, IsOk, refl, sym, ap, subst, ◌∙◌, arith, append-nil}
use Rattle.jv_meaning_world.specs.World.{World}
use Rattle.jv_meaning_machine.specs.Faults.{OrFault}
use Rattle.jv_meaning_machine.specs.Frames.{Frame}
use Rattle.jv_meaning_machine.specs.State.{Program, Memory, Control, State}
use Rattle.jv_meaning_machine.specs.Step.{step, step_in, after_steps}
use Rattle.jv_interp_words.specs.declared.records.FrameRecord.{FrameRecord}
use Rattle.jv_interp_words.specs.declared.registers.Registers.{Registers}
use Rattle.jv_interp_words.specs.StatesInWords.{RunningStands}
use Rattle.jv_interp_words.proofs.Gave.{bound_gave}
use Rattle.jv_interp_held.specs.declared.held.Held.{Held}
use Rattle.jv_interp_held.specs.HeldInWords.{MemoryStands}
use Rattle.jv_interp_held.proofs.Growths.{grows_not}
use Rattle.jv_interp_heap.specs.ObjectsInBlocks.{Blocks}
use Rattle.jv_interp_control.specs.declared.frames.Frames.{Frames}
use Rattle.jv_interp_control.specs.declared.control.Control.{Control as KeptControl}
use Rattle.jv_interp_control.specs.ControlStands.{ControlStands}
use Rattle.jv_interp_control.specs.Standing.{Kept, kept}
use Rattle.jv_interp_control.specs.Running.{StateRuns}
use Rattle.jv_interp_words.specs.Stepping.{Stepped}
use Rattle.jv_interp_words.specs.Running.{StandsHere, CanRun, RunsTo}
use Rattle.jv_interp_steps.specs.Inside.Words.{OnlyInWords}
use Rattle.jv_interp_steps.specs.Stepping.{RunsOn}
use Rattle.jv_interp_steps.specs.Running.{Leads, IsSafe, RunsIn, RanOn}
use Rattle.jv_interp_steps.proofs.Runs.{bound_again, leads_on, safe_later, some_frame, runs_join}

-- ---- no number of steps meets a fault

reached : (program : Program) (s : State) → IsSafe program s → (n : ℕ) → (t : State) × (after_steps program n s ≡ Ok t)
reached program s safe zero = (s, refl)
reached program s safe (suc n) =
    let so_far = reached program s safe n in
    let last = safe n so_far.0 so_far.1 in
    (last.0, bound_again (after_steps program n s) (step program) so_far.0 last.0 so_far.1 last.1.does)

never_faults : (program : Program) (s : State) → IsSafe program s → (n : ℕ) → IsOk (after_steps program n s)
never_faults program s safe n =
    let there = reached program s safe n in subst (λ (o : OrFault State). IsOk o) (sym there.1) refl

-- ---- where frames are left, each step was taken from some

ended :
    (program : Program) (memory : Memory) (frames : List Frame) (control : Control) (t : State) → frames ≡ []
    → step_in program memory frames control ≡ Ok t → t.frames ≡ []
ended program memory frames control t none does =
    sym (ap (λ (o : OrFault State). frames_of o) (subst (λ (fs : List Frame). step_in program memory fs control ≡ Ok t) none does))
  where
    frames_of : OrFault State → List Frame
    frames_of (Ok s) = s.frames
    frames_of _ = []

pub leads_to :
    (program : Program) (k : ℕ) (s t : State) → after_steps program k s ≡ Ok t → (t.frames ≡ [] → ⊥) → Leads program k s t
leads_to program zero s t e some = same s t e
  where
    same : (a b : State) → ◌≡◌ {A = OrFault State} (Ok a) (Ok b) → b ≡ a
    same a b e = cc
leads_to program (suc k) s t e some =
    let last = bound_gave (after_steps program k s) (step program) t e in
    let before = last.0 in
    let some_before : before.frames ≡ [] → ⊥ = λ none. some (ended program before.memory before.frames before.control t none last.2) in
    (before, leads_to program k s before last.1 some_before, some_before, last.2)

-- ---- the method goes on in its registers

module _ (world : World) (verified : List Bool) (start : Registers) (program : Program) (texts : List (List ℕ)) (s : State) (addresses : List ℕ) (before : Kept)
    (h : RunsIn world verified start program texts s addresses before) (k : ℕ) (at : Registers) (frames : Frames) (control : KeptControl) (held : Held) (blocks : Blocks)
    (r : RanOn k program texts s addresses at before (kept frames control held blocks)) where
  stands_here : StandsHere program r.t (addresses ++ r.runs.more) frames.records.items at frames.words.items
  stands_here = record {
    running = r.runs.runs.running;
    apart = r.runs.runs.memory.objects.are;
    finds = h.guest.finds;
  }

  pub can_run : CanRun at frames.words.items
  can_run = record {
    program = program;
    s = r.t;
    addresses = addresses ++ r.runs.more;
    waiting = frames.records.items;
    stands = stands_here;
    never_faults = never_faults program r.t (safe_later program k s r.t h.safe r.does);
  }

  module _ (j : ℕ) (at_after : Registers) (after : Frames) (ran : RunsTo j at frames.words.items at_after after.words.items) (only : OnlyInWords frames after) where
    there : (t : State) × (after_steps program j r.t ≡ Ok t)
    there = reached program r.t (safe_later program k s r.t h.safe r.does) j

    abbrev t : State
    t = there.0

    now : Stepped program r.t t (addresses ++ r.runs.more) frames.records.items at at_after after.words.items
    now = ran program r.t t (addresses ++ r.runs.more) frames.records.items stands_here there.1

    runs : StateRuns program texts t (addresses ++ r.runs.more) at_after (kept after control held blocks)
    runs = record {
      running =
          subst (λ (rs : List FrameRecord). RunningStands program (addresses ++ r.runs.more) t.frames at_after rs after.words.items t.control.words)
          (sym only.records) now.running;
      rooms =
          let size = only.size in
          let few = r.runs.runs.rooms.few in
          let fit = r.runs.runs.rooms.records_fit in
          let capacity = only.capacity in
          record {
            left_is = ap (λ (c : Control). c.words) now.same_control ∙ r.runs.runs.rooms.left_is ∙ sym only.left;
            room = now.running.room;
            few = omega (arith, few, size);
            records_fit = omega (arith, fit, size, capacity);
          };
      control = subst (λ (c : Control). ControlStands program.world c control) (sym now.same_control) r.runs.runs.control;
      memory =
          subst (λ (m : Memory). MemoryStands program.world texts m (addresses ++ r.runs.more) held blocks) (sym now.same_memory) r.runs.runs.memory;
    }

    runs_on : RunsOn program texts t (addresses ++ r.runs.more) at_after (kept frames control held blocks) (kept after control held blocks)
    runs_on = record {
      more = [];
      runs =
          subst (λ (l : List ℕ). StateRuns program texts t l at_after (kept after control held blocks)) (sym (append-nil (addresses ++ r.runs.more))) runs;
      grows = grows_not (addresses ++ r.runs.more) blocks;
    }

    pub ran_and_ran : RanOn (k + j) program texts s addresses at_after before (kept after control held blocks)
    ran_and_ran = record {
      t = t;
      does =
          leads_on program k j s r.t t r.does
          (leads_to program j r.t t there.1 (some_frame t.frames now.running.frames_are));
      runs = runs_join program texts r.t t addresses at at_after before (kept frames control held blocks) (kept after control held blocks) r.runs runs_on;
    }
