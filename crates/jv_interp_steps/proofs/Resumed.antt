-- Another method goes on in the registers behind steps of one that ran in them (JVMS 2.6, 2.11).
use Rattle.std.proofs.Common.{ℕ, ◌++◌, Bool, List, refl}
use Rattle.jv_meaning_world.specs.World.{World}
use Rattle.jv_meaning_machine.specs.State.{Program, State}
use Rattle.jv_interp_words.specs.declared.registers.Registers.{Registers}
use Rattle.jv_interp_heap.specs.ObjectsInBlocks.{Blocks}
use Rattle.jv_interp_held.specs.declared.held.Held.{Held}
use Rattle.jv_interp_control.specs.declared.frames.Frames.{Frames}
use Rattle.jv_interp_control.specs.declared.control.Control.{Control}
use Rattle.jv_interp_control.specs.Standing.{Kept, kept}
use Rattle.jv_interp_control.specs.Acting.{AreAsBefore}
use Rattle.jv_interp_control.specs.Resuming.{Resumed}
use Rattle.jv_interp_steps.specs.Running.{RunsFrom, Ran, RunsIn, RanOn}
use Rattle.jv_interp_steps.proofs.Records.{runs_in, stands_again}
use Rattle.jv_interp_steps.proofs.Runs.{safe_later, ran_kept}

module _ (world : World) (verified : List Bool) (start : Registers) (program : Program) (texts : List (List ℕ)) (s : State) (addresses : List ℕ) (before : Kept)
    (h : RunsIn world verified start program texts s addresses before) (k : ℕ) (frames : Frames) (control : Control) (held : Held) (blocks : Blocks)
    (r : Ran k program texts s addresses before (kept frames control held blocks)) where
  pub left_all : RunsFrom world verified program texts r.t (addresses ++ r.reaches.more) (kept frames control held blocks)
  left_all = record { guest = h.guest; safe = safe_later program k s r.t h.safe r.does; stands = r.reaches.stands }

  pub goes_on :
      (at : Registers) (after : Frames) → Resumed program (addresses ++ r.reaches.more) r.t.frames r.t.control.words at after
      → RanOn k program texts s addresses at before (kept after control held blocks)
  goes_on at after resumed = record {
    t = r.t;
    does = r.does;
    runs = record {
      more = r.reaches.more;
      runs = (runs_in world verified program texts r.t (addresses ++ r.reaches.more) frames control held blocks left_all at after resumed).runs;
      grows = r.reaches.grows;
    };
  }

  pub waits : (after : Frames) → AreAsBefore frames after → Ran k program texts s addresses before (kept after control held blocks)
  waits after same =
      ran_kept k program texts s addresses before (kept frames control held blocks) (kept after control held blocks) r
      (stands_again world verified program texts r.t (addresses ++ r.reaches.more) frames control held blocks left_all after same)
      refl
