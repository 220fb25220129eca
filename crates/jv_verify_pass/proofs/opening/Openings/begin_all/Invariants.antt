use Rattle.std.proofs.Common.{◌≡◌, ◌-◌, length}
use Rattle.jv_verify_known.specs.Known.{IsKnown}
use Rattle.jv_verify_open.specs.Open.{AllFlow}
use Rattle.jv_verify_pass.specs.Inside.Opening.{AreOpenings}
use Rattle.jv_verify_pass.proofs.opening.Openings.begin_all.Given as goal

abbrev pub invariant-loop-self : goal.invariant-loop-self
invariant-loop-self l =
    AreOpenings l.pass l.known.words l.offset l.self
    × AllFlow l.pass.types l.known.words l.self.frames l.offset l.frame.locals
    × IsKnown l.pass.types l.known l.frame.locals
    × (l.known.words ≡ l.fn.known.words)
    × (l.self.sorted ≡ l.fn.self.sorted)

abbrev pub decreases-loop-self : goal.decreases-loop-self
decreases-loop-self l = length l.self.sorted - l.self.next
