use Rattle.jv_verify_rules.proofs.OnStack.{pushed_within, not_within}
use Rattle.jv_verify_rules.proofs.words.push_within.Goals as goal

pub returns-in_ok-push : goal.returns-in_ok-push
returns-in_ok-push c = λ names env same.
    pushed_within names env c.args.frame.now c.args.item c.args.max_stack same c.push.new.self c.has_room.result c.has_room.ensures c.if-has_room.true c.in_ok-push.ensures.ok

pub returns-else-has_room : goal.returns-else-has_room
returns-else-has_room c = λ names env same.
    not_within names env c.args.frame.now c.args.item c.args.max_stack same c.has_room.result c.has_room.ensures c.if-has_room.false
