-- `<clinit>` is entered: nothing is passed to it (JVMS 5.5, step 9).
use Rattle.std.proofs.Common.{◌≡◌, ℕ, ◌+◌, List, [], Some, None, refl, ap, arith, slice_get}
use Rattle.jv_meaning_world.specs.World.{World}
use Rattle.jv_meaning_machine.specs.State.{Program, State}
use Rattle.jv_interp_words.specs.FramesInWords.{in_use, methods_of}
use Rattle.jv_interp_heap.specs.ObjectsInBlocks.{Blocks}
use Rattle.jv_interp_held.specs.declared.held.Held.{Held}
use Rattle.jv_interp_control.specs.declared.frames.Frames.{Frames}
use Rattle.jv_interp_control.specs.declared.control.Control.{Control}
use Rattle.jv_interp_control.specs.Moves.{Entering}
use Rattle.jv_interp_control.specs.Standing.{kept, Moves}
use Rattle.jv_interp_control.specs.Inside.DoingTasks.{RunningInitializer}

pub initializer_enters :
    (world : World) (names : List (List ℕ)) (class member method : ℕ) (program : Program) (s t : State) (addresses : List ℕ) (frames : Frames) (control : Control)
    (held : Held) (blocks : Blocks) (h : Moves world (RunningInitializer class member) program names s t addresses (kept frames control held blocks))
    → slice_get (methods_of program.world) method ≡ Some h.does.d
    → Moves world (Entering method frames) program names s t addresses (kept frames control held blocks)
initializer_enters world names class member method program s t addresses frames control held blocks h at =
    let within = h.stands.frames.top_within in
    let none : frames.top + 0 ≡ frames.top = omega arith in
    record {
      world_is = h.world_is;
      guests = h.guests;
      stands = h.stands;
      does = record {
        d = h.does.d;
        receiver = None;
        arguments = [];
        has_number = at;
        count = 0;
        count_is = refl;
        within = omega (arith, within);
        on_top = ap (in_use frames.words.items) none;
        memory = s.memory;
        same_words = λ texts held blocks m. m;
        does = h.does.does;
      };
    }
