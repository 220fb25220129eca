-- Which of a list of reaches holds an offset and a rank first.
use Rattle.std.specs.Prelude.{◌≡◌, ℕ, ◌<◌, Bool, List, ◌&&◌}
use Rattle.std.specs.List.{position}
use Rattle.jv_link_handlers.specs.declared.reach.Reach.{Reach}
use Rattle.jv_link_handlers.specs.declared.firsts.Firsts.{Firsts}
use Rattle.jv_link_handlers.specs.Inside.Finding.{has_offset, has_rank, place_or_none}
use Rattle.jv_link_handlers.specs.Inside.Nodes.{found, Rises}

-- it reaches from an offset up to another one, and from a rank up to another one
abbrev pub reaches_to : ℕ → ℕ → Reach → Bool
reaches_to offset rank r = has_offset offset r && has_rank rank r

-- it answers for each offset and each rank which reach holds both first
pub record AreFirsts (reaches : List Reach) (firsts : Firsts) : Type 0 where
  pub rise : Rises firsts.nodes.items
  pub found :
      (offset rank : ℕ) → rank < 65535
      → place_or_none (found firsts.nodes.items offset rank) ≡ position (reaches_to offset rank) reaches
