use Rattle.std.proofs.Common.{◌∙◌, sym, arith}
use Rattle.std.proofs.lemmas.Grind.{elements}
use Rattle.jv_pool.proofs.Places.{entry_there, entry_past}
use Rattle.jv_pool.proofs.table.entry_at.Goals as goal

pub returns-in-Some : goal.returns-in-Some
returns-in-Some c = c.constant_of.ensures ∙ sym (entry_there c.args.bytes.now c.args.places.now c.args.index c.in-Some.place.now (omega (arith, c.if-index-eq0.false)) (grind (arith, elements)))

pub returns-in-None : goal.returns-in-None
returns-in-None c = sym (entry_past c.args.bytes.now c.args.places.now c.args.index (omega (arith, c.if-index-eq0.false)) (grind (arith, elements)))
