use Rattle.std.proofs.Common.{◌-◌, ◌<◌, length, arith}
use Rattle.std.specs.Vec.{vec_len}
use Rattle.jv_verify_types.proofs.Neighbouring.{room_made, one_kept}
use Rattle.jv_verify_types.proofs.packages.keep.Goals as goal

pub returns-then-by-len : goal.returns-then-by-len
returns-then-by-len c = λ world current right is.
    let within : c.args.by < length c.resize.new.self.items = omega (arith, c.if-by-len.true, c.len.ensures, c.resize.new.self.ok.0) in
    one_kept world current c.resize.new.self.items c.args.by c.args.is_same within
    (room_made world current c.args.packages.now.items c.resize.new.self.items c.args.count (c.args.count - vec_len c.args.packages.now) c.in_ok-resize.ensures.items right) is

pub returns-else-by-len : goal.returns-else-by-len
returns-else-by-len c = λ world current right is.
    room_made world current c.args.packages.now.items c.resize.new.self.items c.args.count (c.args.count - vec_len c.args.packages.now) c.in_ok-resize.ensures.items right
