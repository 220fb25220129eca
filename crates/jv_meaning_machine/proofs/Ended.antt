-- States that have ended.
use Rattle.std.proofs.Common.{zero, suc, List, Ok, refl, sym, ap, ◌∙◌}
use Rattle.jv_meaning_machine.specs.Faults.{OrFault, ◌>>=◌}
use Rattle.jv_meaning_machine.specs.Frames.{Frame}
use Rattle.jv_meaning_machine.specs.State.{State, state_of}
use Rattle.jv_meaning_machine.specs.Step.{step, step_in}
use Rattle.jv_meaning_machine.specs.Laws.Ends.{EndedStays, EndedStaysOver}

abbrev itself : State → List Frame → OrFault State
itself s frames = Ok (state_of s.memory frames s.control)

pub ended_stays : EndedStays
ended_stays program s e =
    ap (λ (frames : List Frame). step_in program s.memory frames s.control) e ∙ ap (λ (frames : List Frame). itself s frames) (sym e)

pub ended_stays_over : EndedStaysOver
ended_stays_over program zero s e = refl
ended_stays_over program (suc n) s e =
    ap (λ (r : OrFault State). r >>= step program) (ended_stays_over program n s e) ∙ ended_stays program s e
