use Rattle.std.proofs.Common.{arith}
use Rattle.jv_meaning_machine.specs.State.{class_state}
use Rattle.jv_interp_held.specs.ClassStates.{kept_state}
use Rattle.jv_link_cache.proofs.Eachwise.{within_list}
use Rattle.jv_interp_members.proofs.linking.is_ready.Goals as goal

pub returns-else-class-states : goal.returns-else-class-states
returns-else-class-states c = λ world known l are at.
    let less = within_list c.args.states.now c.args.class (kept_state (class_state known l)) (are c.args.class l at) in
    absurd (omega (arith, less, c.if-class-states.false))
