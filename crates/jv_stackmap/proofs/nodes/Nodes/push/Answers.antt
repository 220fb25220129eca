use Rattle.jv_stackmap.proofs.Packing.{pushed_near}
use Rattle.jv_stackmap.proofs.nodes.Nodes.push.Goals as goal

pub invariant_of-self-2 : goal.invariant_of-self-2
invariant_of-self-2 c =
    (pushed_near c.self.inside.far.items c.self.inside.nodes.items c.push.new.self.items c.packed.result c.args.self.now c.args.entry c.in_ok-number.number c.args.below c.in-Some.distance
    c.self.invariant c.self.view_is c.requires c.in_ok-number.ensures ((c.in-Some.ensures {u = tt}).below c.self.inside.far.items)
    c.packed.ensures.entry c.packed.ensures.distance c.in_ok-push.ensures.items).packed

pub returns-clause-pushed : goal.returns-clause-pushed
returns-clause-pushed c =
    (pushed_near c.self.inside.far.items c.self.inside.nodes.items c.push.new.self.items c.packed.result c.args.self.now c.args.entry c.in_ok-number.number c.args.below c.in-Some.distance
    c.self.invariant c.self.view_is c.requires c.in_ok-number.ensures ((c.in-Some.ensures {u = tt}).below c.self.inside.far.items)
    c.packed.ensures.entry c.packed.ensures.distance c.in_ok-push.ensures.items).chains
