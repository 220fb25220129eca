use Rattle.std.proofs.Common.{rules, ◌≤◌, arith}
use Rattle.jv_beyond.proofs.InUse.{no_use_left}
use Rattle.jv_beyond.proofs.finding.first_use.Goals as goal

pub returns : goal.returns
returns c =
    let count = c.method_count-place-end.ensures in
    let end : c.method_count-place-end.result ≤ c.loop-place.place = search rules in
    no_use_left c.args.parts.now c.loop-place.place (omega (arith, count, end)) c.loop-place.invariant
