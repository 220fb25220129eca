use Rattle.std.proofs.Common.{◌-◌, ◌≡◌, ◌≤◌, ◌+◌}
use Rattle.std.specs.Prelude.{drop}
use Rattle.jv_stackmap.specs.Inside.Nodes.{chain}
use Rattle.jv_stackmap.proofs.nodes.Nodes.above_shared.Given as goal

-- both nodes are so many below those from which the way began, within the bound
abbrev pub invariant-loop-first : goal.invariant-loop-first
invariant-loop-first l =
    (l.above_first + l.above_second ≤ l.most)
    × (chain l.self l.first ≡ drop l.above_first (chain l.self l.initial.first))
    × (chain l.self l.second ≡ drop l.above_second (chain l.self l.initial.second))

abbrev pub decreases-loop-first : goal.decreases-loop-first
decreases-loop-first l = l.most - (l.above_first + l.above_second)
