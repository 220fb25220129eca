-- What beginning an initialization comes to, by the class's state, and for a class that is untouched by whether it is verified: the
-- definition with these as arguments, for lemmas by cases on them.
use Rattle.std.proofs.Common.{Bool, true, false, List, ◌∷◌, Ok}
use Rattle.jv_meaning_world.specs.World.{Loaded}
use Rattle.jv_meaning_typing.specs.LinkErrors.{error_class}
use Rattle.jv_meaning_typing.specs.LinkErrors.LinkError.{NoClassDefFoundError, VerifyError}
use Rattle.jv_meaning_machine.specs.Faults.{OrFault}
use Rattle.jv_meaning_machine.specs.Frames.{Frame}
use Rattle.jv_meaning_machine.specs.Frames.Frame.{Initializes}
use Rattle.jv_meaning_machine.specs.State.{Program, Memory, Control, State, state_of, with_state, ClassState}
use Rattle.jv_meaning_machine.specs.State.ClassState.{Untouched, Begun, Initialized, Erroneous}
use Rattle.jv_meaning_machine.specs.Costs.{initialization_words}
use Rattle.jv_meaning_machine.specs.Throws.{raise}
use Rattle.jv_meaning_machine.specs.Entering.{within_words}
use Rattle.jv_meaning_machine.specs.Initialization.{initialization_of, is_verified}

abbrev pub begun_if : Program → Memory → List Frame → Control → Loaded → Bool → OrFault State
begun_if program memory frames control l verified = elim verified [
  | false ↦ raise program.world memory frames control (error_class VerifyError)
  | true ↦ within_words program.world memory frames control initialization_words (λ given.
      Ok (state_of memory (Initializes (initialization_of program.world l) ∷ frames) (with_state Begun l given)))
]

abbrev pub begun_in : Program → Memory → List Frame → Control → Loaded → ClassState → OrFault State
begun_in program memory frames control l state = elim state [
  | Begun ↦ Ok (state_of memory frames control)
  | Initialized ↦ Ok (state_of memory frames control)
  | Erroneous ↦ raise program.world memory frames control (error_class NoClassDefFoundError)
  | Untouched ↦ begun_if program memory frames control l (is_verified program l)
]
