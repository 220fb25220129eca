use Rattle.std.proofs.Common.{Some}
use Rattle.std.proofs.lemmas.List.Elements.{All-set}
use Rattle.jv_verify_types.specs.Inside.Answered.{IsEntry}
use Rattle.jv_verify_types.proofs.answers.keep.Goals as goal

pub returns-then-at-len : goal.returns-then-at-len
returns-then-at-len c = λ world pool before right.
    All-set (IsEntry world pool) c.make_room.new.entries.items c.args.at (Some c.args.answer) right (c.in_ok-make_room.ensures world pool before)
