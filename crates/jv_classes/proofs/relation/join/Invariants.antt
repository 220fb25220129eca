use Rattle.std.proofs.Common.{◌≡◌, ℕ, ◌<◌, ◌≤◌, ◌||◌, length, false}
use Rattle.std.specs.Prelude.{get_or}
use Rattle.jv_classes.proofs.relation.join.Given as goal

abbrev pub invariant-loop-to : goal.invariant-loop-to
invariant-loop-to l =
    (length l.row ≡ length l.fn.row)
    × ((q : ℕ) → q < l.to → get_or l.row q false ≡ (get_or l.fn.row q false || get_or l.other q false))
    × ((q : ℕ) → l.to ≤ q → get_or l.row q false ≡ get_or l.fn.row q false)
