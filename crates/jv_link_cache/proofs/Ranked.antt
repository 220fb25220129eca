-- Spans of ranks, class by class.
use Rattle.std.proofs.Common.{ℕ, ◌<◌, ◌≤◌, List, length, arith}
use Rattle.jv_meaning_world.specs.World.{World}
use Rattle.jv_link_cache.specs.declared.ranks.Span.{Span}
use Rattle.jv_link_cache.specs.Inside.Ranks.{IsTold, IsSpan}
use Rattle.jv_link_cache.proofs.Eachwise.{within_list}

pub all_told : (world : World) (ranks : List ℕ) (class count : ℕ) (span : Span) → length world ≤ count
    → ((other : ℕ) → other < count → IsTold world ranks span class other) → IsSpan world ranks class span
all_told world ranks class count span all told other l at =
    let within = within_list world other l at in told other (omega (arith, within)) l at
