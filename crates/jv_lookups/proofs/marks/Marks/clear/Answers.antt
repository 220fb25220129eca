use Rattle.std.proofs.Common.{sym}
use Rattle.jv_lookups.proofs.Stamped.{none_marked_again, none_marked_after}
use Rattle.jv_lookups.proofs.marks.Marks.clear.Goals as goal

pub returns-then-self : goal.returns-then-self
returns-then-self c =
    none_marked_again _ c.self.inside.stamp c.self.inside.stamps.items c.fill.new.self.items c.args.self.now (c.fill.ensures.items (λ y e. e)) (sym c.self.inside.stamps.ok.0) c.self.view_is

pub returns-else-self : goal.returns-else-self
returns-else-self c = none_marked_after c.self.inside.stamp c.self.inside.stamps.items c.args.self.now c.self.invariant c.self.view_is
