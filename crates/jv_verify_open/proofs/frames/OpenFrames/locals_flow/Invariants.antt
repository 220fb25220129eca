use Rattle.std.proofs.Common.{◌<◌, ◌-◌, get_or, length, ℕ}
use Rattle.jv_verify_open.specs.Open.{AreOpenAsBefore, AreWanting}
use Rattle.jv_verify_open.specs.Inside.Finding.{BlockFlows}
use Rattle.jv_verify_open.proofs.frames.OpenFrames.locals_flow.Given as goal

abbrev pub invariant-loop-written : goal.invariant-loop-written
invariant-loop-written l =
    ((k : ℕ) → k < l.block → l.fn.self.handled < get_or l.known.writes.numbers k 0
    → BlockFlows l.at.types.now l.at.words.now l.fn.self l.at.offset l.frame.locals k)
    × AreWanting l.at.types.now l.at.words.now l.self l.at.offset
    × AreOpenAsBefore l.fn.self l.self

abbrev pub decreases-loop-written : goal.decreases-loop-written
decreases-loop-written l = length l.known.writes.numbers - l.block
