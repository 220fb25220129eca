use Rattle.std.proofs.Common.{◌∷◌, set, subst, ◌∙◌}
use Rattle.jv_interp_held.specs.declared.class_state.ClassState.{ClassState}
use Rattle.jv_interp_held.specs.ClassStates.{AreClassStates}
use Rattle.jv_interp_control.proofs.StatesSet.{system_stays, guests_set}
use Rattle.jv_interp_control.proofs.states.set_state.Goals as goal

pub returns-then-not-by_system : goal.returns-then-not-by_system
returns-then-not-by_system c = λ world numbers l states new at system is are.
    subst (λ (s : ClassState). AreClassStates world ((l.class.name, new) ∷ states) (set c.args.states.now c.args.class s)) is
    (guests_set world numbers c.args.class l states new c.args.states.now at are (system ∙ search c.if-not-by_system.true))

pub returns-else-not-by_system : goal.returns-else-not-by_system
returns-else-not-by_system c = λ world numbers l states new at system is are.
    system_stays world numbers c.args.class l states new c.args.states.now at are (system ∙ search c.if-not-by_system.false)
