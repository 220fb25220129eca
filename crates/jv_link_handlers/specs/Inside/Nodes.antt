-- Functions from offsets and ranks to places: those of offsets, halved by ranks.
use Rattle.std.specs.Prelude.{◌≡◌, ℕ, zero, suc, ◌<◌, ◌≤◌, List, Option, Some, None, if◌then◌else◌, nat_lt, min, length, slice_get}
use Rattle.jv_link_handlers.specs.declared.tree.Node.{Node}
use Rattle.jv_link_handlers.specs.Inside.Pieces.{place_in, Rise}

-- how many of the nodes before one are asked after it
abbrev pub left_after : Node → ℕ → ℕ → ℕ
left_after node before rank = if nat_lt rank node.middle then min node.below before else before

-- the place that a node says, or what is found after it, if that is less
abbrev pub asked : Option Node → (ℕ → ℕ) → ℕ → ℕ → ℕ → ℕ
asked None rest before offset rank = 65535
asked (Some node) rest before offset rank = min (place_in node.pieces.items offset) (rest (left_after node before rank))

-- what is found from the last of so many nodes on, in so many steps
abbrev pub found_to : List Node → ℕ → ℕ → ℕ → ℕ → ℕ
found_to nodes zero left offset rank = 65535
found_to nodes (suc steps) zero offset rank = 65535
found_to nodes (suc steps) (suc before) offset rank =
    asked (slice_get nodes before) (λ left. found_to nodes steps left offset rank) before offset rank

abbrev pub found : List Node → ℕ → ℕ → ℕ
found nodes offset rank = found_to nodes (length nodes) (length nodes) offset rank

abbrev pub Rises : List Node → Type 0
Rises nodes = (k : ℕ) (node : Node) → slice_get nodes k ≡ Some node → Rise node.pieces.items

-- the nodes of before stand in front
pub record Lengthens (before after : List Node) : Type 0 where
  pub longer : length before ≤ length after
  pub same : (k : ℕ) → k < length before → slice_get after k ≡ slice_get before k
