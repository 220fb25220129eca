use Rattle.std.proofs.Common.{refl}
use Rattle.jv_interp_control.proofs.Suspended.{base_fits, room_for_it, suspended}
use Rattle.jv_interp_control.proofs.suspending.suspend.Goals as goal

pub overflow_cast-at : goal.overflow_cast-at
overflow_cast-at c =
    let w = c.requires in
    record { fits = base_fits c.args.at c.args.top c.args.frames.now w.program w.addresses w.frame w.others w.left w.suspending }

pub push_record-requires : goal.push_record-requires
push_record-requires c =
    let w = c.requires in
    room_for_it c.args.at c.args.top c.args.frames.now w.program w.addresses w.frame w.others w.left w.suspending

pub returns-clause-suspends : goal.returns-clause-suspends
returns-clause-suspends c = λ program addresses frame others left h.
    suspended c.args.at c.args.top c.args.frames.now program addresses frame others left h
    (record c.args.frames.now { records = c.push_record.new.records; top = c.args.top }) refl c.push_record.ensures.items c.push_record.ensures.capacity refl refl
