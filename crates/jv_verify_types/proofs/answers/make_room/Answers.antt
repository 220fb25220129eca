use Rattle.std.proofs.Common.{None}
use Rattle.std.proofs.lemmas.List.Elements.{All-push}
use Rattle.jv_verify_types.specs.Inside.Answered.{IsEntry}
use Rattle.jv_verify_types.proofs.answers.make_room.Goals as goal

pub loop-preserved : goal.loop-preserved
loop-preserved c = λ world pool before. rw c.in_ok-push.ensures.items (All-push (IsEntry world pool) _ None (c.loop.invariant world pool before) tt)
