use Rattle.std.proofs.Common.{◌≡◌, ◌≤◌, ◌-◌, length}
use Rattle.jv_verify_open.specs.Open.{AreOpenAsBefore}
use Rattle.jv_verify_open.specs.Inside.Finding.{AreFoundBelow}
use Rattle.jv_verify_open.proofs.frames.OpenFrames.find.Given as goal

abbrev pub invariant-loop-opened : goal.invariant-loop-opened
invariant-loop-opened l =
    (l.place ≤ length l.at.words.now.frames)
    × AreFoundBelow l.at.types.now l.at.words.now l.at.offset l.place l.block l.since l.fn.self l.self.wants
    × AreOpenAsBefore l.fn.self l.self
    × (l.self.found ≡ l.initial.self.found)

abbrev pub decreases-loop-opened : goal.decreases-loop-opened
decreases-loop-opened l = length l.at.words.now.frames - l.place
