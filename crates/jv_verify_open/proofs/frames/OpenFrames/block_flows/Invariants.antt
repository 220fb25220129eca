use Rattle.std.proofs.Common.{◌≤◌, ◌<◌, ◌-◌, ◌*◌, length, ℕ}
use Rattle.jv_verify_known.specs.Known.{local_at}
use Rattle.jv_verify_open.specs.Open.{AreOpenAsBefore, AreWanting, FlowsToOpen}
use Rattle.jv_verify_open.proofs.frames.OpenFrames.block_flows.Given as goal

abbrev pub invariant-loop-local : goal.invariant-loop-local
invariant-loop-local l =
    (l.block * 16 ≤ l.local) × (l.local ≤ 65535)
    × ((k : ℕ) → l.block * 16 ≤ k → k < l.local → k < length l.frame.locals
    → FlowsToOpen l.at.types.now l.at.words.now l.fn.self l.at.offset k (local_at l.at.types.now l.frame.locals k))
    × AreWanting l.at.types.now l.at.words.now l.self l.at.offset
    × AreOpenAsBefore l.fn.self l.self

abbrev pub decreases-loop-local : goal.decreases-loop-local
decreases-loop-local l = 65535 - l.local
