use Rattle.jv_stackmap.proofs.Packing.{pushed_far}
use Rattle.jv_stackmap.proofs.nodes.Nodes.push_far.Goals as goal

pub invariant_of-self-2 : goal.invariant_of-self-2
invariant_of-self-2 c =
    (pushed_far c.self.inside.far.items c.reserve.new.self.items c.push_reserved.new.self.items c.self.inside.nodes.items c.push.new.self.items
    (record { number = c.args.number; below = c.args.below }) c.packed.result
    c.args.self.now c.args.entry c.self.invariant c.self.view_is c.requires.number c.requires.below c.packed.ensures.entry c.packed.ensures.distance
    c.in_ok-reserve.ensures.items c.push_reserved.ensures.items
    c.in_ok-push.ensures.items).packed

pub returns-clause-pushed : goal.returns-clause-pushed
returns-clause-pushed c =
    (pushed_far c.self.inside.far.items c.reserve.new.self.items c.push_reserved.new.self.items c.self.inside.nodes.items c.push.new.self.items
    (record { number = c.args.number; below = c.args.below }) c.packed.result
    c.args.self.now c.args.entry c.self.invariant c.self.view_is c.requires.number c.requires.below c.packed.ensures.entry c.packed.ensures.distance
    c.in_ok-reserve.ensures.items c.push_reserved.ensures.items
    c.in_ok-push.ensures.items).chains
