use Rattle.std.proofs.Common.{◌≡◌, ◌-◌, ◌≤◌, length, List, ap, sym, arith}
use Rattle.std.proofs.lemmas.Bool.{ltb-true, ltb-false}
use Rattle.jv_stackmap.specs.declared.nodes.PackedNode.{PackedNode}
use Rattle.jv_stackmap.specs.Inside.Nodes.{nodes_in}
use Rattle.jv_stackmap.proofs.Chains.{first_empty, past_empty}
use Rattle.jv_stackmap.proofs.Packing.{as_many, looked_at}
use Rattle.jv_stackmap.proofs.nodes.Nodes.at.Goals as goal

pub returns-then-top-eq0-clause-entry : goal.returns-then-top-eq0-clause-entry
returns-then-top-eq0-clause-entry c = rw (c.if-top-eq0.true, ← c.self.view_is) (first_empty (nodes_in c.self.inside.far.items c.self.inside.nodes.items))

pub returns-in-None-clause-entry : goal.returns-in-None-clause-entry
returns-in-None-clause-entry c =
    let past : length c.deref.result.now ≤ c.args.top - 1 = ltb-false _ _ (sym (c.in-None.ensures {u = tt}).lookup.0) in
    let len : length c.deref.result.now ≡ length c.self.inside.nodes.items = ap (λ (l : List PackedNode). length l) c.deref.ensures.value in
    let all = nodes_in c.self.inside.far.items c.self.inside.nodes.items in
    rw (← c.self.view_is) (past_empty all c.args.top (omega (arith, past, len, c.if-top-eq0.false, as_many c.self.inside.far.items 1 c.self.inside.nodes.items)))

pub returns-in-Some-clause-entry : goal.returns-in-Some-clause-entry
returns-in-Some-clause-entry c =
    let found = (c.in-Some.ensures {u = tt}).lookup in
    (looked_at c.self.inside.far.items c.self.inside.nodes.items c.args.self.now c.args.top c.deref-in-Some.result.now c.deref.result.now c.in-Some.packed.now c.node_with-node.result
    c.self.invariant c.self.view_is c.deref-in-Some.ensures.value c.deref.ensures.value (omega (arith, c.if-top-eq0.false)) (ltb-true _ _ (sym found.0)) found.1 c.node_with-node.ensures).0.chain_is

pub returns-in-Some-clause-below : goal.returns-in-Some-clause-below
returns-in-Some-clause-below c =
    let found = (c.in-Some.ensures {u = tt}).lookup in
    (looked_at c.self.inside.far.items c.self.inside.nodes.items c.args.self.now c.args.top c.deref-in-Some.result.now c.deref.result.now c.in-Some.packed.now c.node_with-node.result
    c.self.invariant c.self.view_is c.deref-in-Some.ensures.value c.deref.ensures.value (omega (arith, c.if-top-eq0.false)) (ltb-true _ _ (sym found.0)) found.1 c.node_with-node.ensures).1
