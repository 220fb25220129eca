-- How a guest that has its memory begins (JVMS 5.2; own): main's class is begun.
use Rattle.std.specs.Prelude.{◌≡◌, ℕ, Bool, List, [], Option, Ok}
use Rattle.jv_meaning_machine.specs.State.{Program, State}
use Rattle.jv_meaning_machine.specs.State.End.{Running}
use Rattle.jv_meaning_machine.specs.Initialization.{main_method}
use Rattle.jv_meaning_machine.specs.Start.{Budget, start_control, start_with}
use Rattle.jv_lookups.specs.declared.place.Place.{Place}
use Rattle.jv_lookups.specs.Places.{IsMethodFound}
use Rattle.jv_interp_control.specs.Moves.{AreVerified}

-- In a state without frames the class of the main method, which is at this place, is begun; where there is none the guest has ended.
pub record Opening (place : Option Place) (verified : List Bool) (program : Program) (addresses : List ℕ) (s t : State) : Type 0 where
  pub main : List ℕ
  pub budget : Budget
  pub found : IsMethodFound program.world place (main_method program.world main)
  pub are : AreVerified program verified
  pub none : s.frames ≡ []
  pub control : s.control ≡ start_control main budget Running
  pub does : start_with program main budget s.memory (main_method program.world main) ≡ Ok t
