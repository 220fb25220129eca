use Rattle.std.proofs.Common.{rules}
use Rattle.jv_verify_pass.proofs.targets.pairs_hold.Goals as goal

pub distance_holds-requires : goal.distance_holds-requires
distance_holds-requires c = record { seen = (c.requires.seen.0, c.loop-key.invariant.1 c.requires.seen.0 c.requires.seen.1) }

pub returns-then-not-distance_holds-clause-seen : goal.returns-then-not-distance_holds-clause-seen
returns-then-not-distance_holds-clause-seen c = λ at seen. c.if-not-distance_holds.ensures.seen at (c.loop-key.invariant.1 at seen)

pub loop-key-preserved : goal.loop-key-preserved
loop-key-preserved c = (search rules, λ at seen. c.if-not-distance_holds.ensures.seen at (c.loop-key.invariant.1 at seen))
