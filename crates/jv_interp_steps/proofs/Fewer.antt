-- Cells only fall (own).
use Rattle.std.proofs.Common.{◌≡◌, ◌+◌, ◌≤◌, ap, ◌∙◌, arith}
use Rattle.std.specs.Prelude.{sum_by}
use Rattle.std.proofs.lemmas.List.Sums.{sum_by-append}
use Rattle.jv_meaning_world.specs.World.{World}
use Rattle.jv_meaning_machine.specs.State.{Memory}
use Rattle.jv_meaning_machine.specs.Laws.Shapes.{shapes, shape_cells, used_cells}
use Rattle.jv_meaning_machine.specs.Laws.Kept.{Keeps}

pub cells_fall : (world : World) (before after : Memory) → Keeps world before after → after.cells ≤ before.cells
cells_fall world before after k =
    let sum : used_cells after ≡ used_cells before + sum_by shape_cells k.objects.0 =
    ap (sum_by shape_cells) k.objects.1 ∙ sum_by-append shape_cells (shapes before) k.objects.0 in
    let all = k.cells_budget in
    omega (arith, sum, all)
