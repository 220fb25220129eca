-- What is thrown goes up all frames of a guest (JVMS 2.10).
use Rattle.std.specs.Prelude.{◌≡◌, ℕ, List, Ok}
use Rattle.jv_meaning_world.specs.World.{World}
use Rattle.jv_meaning_machine.specs.Frames.{Frame}
use Rattle.jv_meaning_machine.specs.State.{Program, Control as ControlOfNames, State}
use Rattle.jv_meaning_machine.specs.Throws.{Thrown as ThrownOfNames, unwound}
use Rattle.jv_interp_heap.specs.SystemNumbers.{IsGuestsWorld}
use Rattle.jv_interp_control.specs.declared.throwing.Thrown.{Thrown}
use Rattle.jv_interp_control.specs.FramesStand.{FramesStand}
use Rattle.jv_interp_control.specs.ControlStands.{ControlStands}
use Rattle.jv_interp_control.specs.Standing.{Kept, Reaches}
use Rattle.jv_interp_control.specs.Inside.Walking.{with_throws, ThrownStands}

pub record Unwinding (world : World) (thrown : Thrown) (program : Program) (texts : List (List ℕ)) (frames : List Frame)
    (control : ControlOfNames) (t : ThrownOfNames) (goes_to : State) (addresses : List ℕ) (before : Kept) : Type 0 where
  pub world_is : program.world ≡ world
  pub guests : IsGuestsWorld program.world
  pub frames_stand : FramesStand program addresses frames before.frames control.words
  pub control_stands : ControlStands program.world control before.control
  pub control_is : t.control ≡ with_throws t.control control
  pub thrown_stands : ThrownStands program texts t addresses thrown before.held before.blocks
  pub goes : unwound program.world t frames ≡ Ok goes_to

pub record CanUnwind (world : World) (thrown : Thrown) (before : Kept) : Type 0 where
  pub program : Program
  pub texts : List (List ℕ)
  pub frames : List Frame
  pub control : ControlOfNames
  pub t : ThrownOfNames
  pub goes_to : State
  pub addresses : List ℕ
  pub unwinding : Unwinding world thrown program texts frames control t goes_to addresses before

abbrev pub Unwinds : World → Thrown → Kept → Kept → Type 0
Unwinds world thrown before after =
    (program : Program) (texts : List (List ℕ)) (frames : List Frame) (control : ControlOfNames) (t : ThrownOfNames) (goes_to : State)
    (addresses : List ℕ)
    → Unwinding world thrown program texts frames control t goes_to addresses before → Reaches program texts goes_to addresses before after
