use Rattle.std.proofs.Common.{sym, subst}
use Rattle.jv_loader.specs.Straight.{AreStraight}
use Rattle.jv_loader.proofs.Straightness.{are_straight}
use Rattle.jv_loader.proofs.classes.are_straight.Goals as goal

pub returns : goal.returns
returns c = subst AreStraight (sym c.requires.2) (are_straight c.requires.0 c.requires.1 c.above_by_ways.ensures c.loadable_by_all.ensures)
