use Rattle.std.proofs.Common.{arith}
use Rattle.std.proofs.lemmas.Grind.{elements}
use Rattle.jv_pool.proofs.Kept.{known_there, known_nowhere}
use Rattle.jv_pool.proofs.known.known_in.Goals as goal

pub returns-in-Some : goal.returns-in-Some
returns-in-Some c = known_there c.args.facts.now c.args.place c.in-Some.facts.now (omega (arith, c.if-place-eq0.false)) (grind (arith, elements))

pub returns-in-None : goal.returns-in-None
returns-in-None c = known_nowhere c.args.facts.now c.args.place (omega (arith, c.if-place-eq0.false)) (grind (arith, elements))
