use Rattle.std.proofs.Common.{◌≤◌, ℕ, List, length, subst}
use Rattle.jv_stackmap.specs.declared.entry.FrameEntry.{FrameEntry}
use Rattle.jv_stackmap.specs.Inside.Nodes.{chain, nodes_in}
use Rattle.jv_stackmap.proofs.Chains.{are_short}
use Rattle.jv_stackmap.proofs.nodes.Nodes.are_numbered.Goals as goal

pub returns : goal.returns
returns c =
    subst (λ (cs : List (List FrameEntry)). (top : ℕ) → length (chain cs top) ≤ top) c.self.view_is (are_short (nodes_in c.self.inside.far.items c.self.inside.nodes.items) c.self.invariant.laid)
