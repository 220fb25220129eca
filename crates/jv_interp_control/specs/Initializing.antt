-- One step of the initialization that is on top (JVMS 5.5): a static field gets its constant, a class or interface is initialized first,
-- `<clinit>` is entered, or the class is initialized; where it was the last frame, main is entered.
use Rattle.std.specs.Prelude.{◌≡◌, ℕ, Bool, List, ◌∷◌, Ok, IsTrue}
use Rattle.jv_meaning_world.specs.World.{World}
use Rattle.jv_meaning_world.specs.Verdicts.{is_loadable}
use Rattle.jv_meaning_machine.specs.Frames.{InitializationFrame, Frame}
use Rattle.jv_meaning_machine.specs.Frames.Frame.{Initializes}
use Rattle.jv_meaning_machine.specs.State.{Program, State}
use Rattle.jv_meaning_machine.specs.Alone.{AreUnits}
use Rattle.jv_meaning_machine.specs.Initialization.{initialization_step}
use Rattle.jv_interp_control.specs.declared.control.Control.{Control}
use Rattle.jv_interp_control.specs.Moves.{AreVerified}
use Rattle.jv_interp_control.specs.Standing.{Kept, Moves, Reaches}

-- ---- the step

-- The class of the initialization can be loaded (5.3.5): no other is begun.
pub record Initializing (verified : List Bool) (program : Program) (addresses : List ℕ) (s t : State) : Type 0 where
  pub frame : InitializationFrame
  pub below : List Frame
  pub frames_are : s.frames ≡ Initializes frame ∷ below
  pub are : AreVerified program verified
  pub units : AreUnits program.units
  pub loadable : IsTrue (is_loadable program.world frame.class)
  pub does : initialization_step program s.memory frame below s.control ≡ Ok t

-- ---- what is done to a state whose literals are of these texts

pub record CanMoveWith (world : World) (texts : List (List ℕ)) (part : Program → List ℕ → State → State → Type 0) (before : Kept)
    : Type 0 where
  pub program : Program
  pub s : State
  pub t : State
  pub addresses : List ℕ
  pub moves : Moves world part program texts s t addresses before

abbrev pub MovedWith : World → List (List ℕ) → (Program → List ℕ → State → State → Type 0) → Kept → Kept → Type 0
MovedWith world texts part before after =
    (program : Program) (s t : State) (addresses : List ℕ) → Moves world part program texts s t addresses before
    → Reaches program texts t addresses before after

-- ---- refusals: a control is as it was, though a state was set and set back

pub record IsAsBefore (before after : Control) : Type 0 where
  pub states : after.states.items ≡ before.states.items
  pub throws : after.throws ≡ before.throws
  pub last : after.last ≡ before.last
  pub place : after.place ≡ before.place
  pub main : after.main ≡ before.main
  pub end : after.end ≡ before.end
