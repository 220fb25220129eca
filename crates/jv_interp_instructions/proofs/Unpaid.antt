-- An instruction that pays no cells makes no object.
use Rattle.std.proofs.Common.{◌≡◌, ℕ, ◌+◌, ◌≤◌, List, [], ◌∷◌, ◌++◌, Ok, length, refl, sym, ap, ◌∙◌, arith, length-append}
use Rattle.std.specs.Prelude.{sum_by}
use Rattle.std.proofs.lemmas.List.{length-map}
use Rattle.std.proofs.lemmas.List.Sums.{sum_by-cons, sum_by-append}
use Rattle.jv_code.specs.Insns.{Instruction}
use Rattle.jv_meaning_world.specs.World.{World}
use Rattle.jv_meaning_machine.specs.State.{Memory}
use Rattle.jv_meaning_machine.specs.Effects.{Effect, Context}
use Rattle.jv_meaning_machine.specs.Instructions.{execute}
use Rattle.jv_meaning_machine.specs.Laws.Shapes.{Shape, shape_of, shapes, shape_cells, used_cells}
use Rattle.jv_meaning_machine.specs.Laws.Shapes.Shape.{ObjectShape, ArrayShape}
use Rattle.jv_meaning_machine.specs.Laws.Steps.{ExecutionKeeps}
use Rattle.jv_interp_heap.specs.ObjectsInBlocks.{Blocks}
use Rattle.jv_interp_held.specs.declared.held.Held.{Held}
use Rattle.jv_interp_held.specs.HeldInWords.{MemoryStands}

each_costs : (s : Shape) → 1 ≤ shape_cells s
each_costs (ObjectShape class fields) = omega arith
each_costs (ArrayShape components count) = omega arith

all_cost : (all : List Shape) → length all ≤ sum_by shape_cells all
all_cost [] = omega arith
all_cost (s ∷ more) =
    let one = each_costs s in let rest = all_cost more in let sum = sum_by-cons shape_cells s more in omega (arith, one, rest, sum)

pub none_joined :
    ExecutionKeeps → (c : Context) (insn : Instruction) (done : Memory × Effect) → execute c insn ≡ Ok done → done.0.cells ≡ c.memory.cells
    → length done.0.objects ≡ length c.memory.objects
none_joined kept c insn done e same =
    let keeps = kept c insn done.0 done.1 e in
    let more = keeps.objects.0 in
    let sum : used_cells done.0 ≡ used_cells c.memory + sum_by shape_cells more =
    ap (sum_by shape_cells) keeps.objects.1 ∙ sum_by-append shape_cells (shapes c.memory) more in
    let none = all_cost more in
    let budget = keeps.cells_budget in
    let after = length-map done.0.objects shape_of in
    let before = length-map c.memory.objects shape_of in
    let long : length (shapes done.0) ≡ length (shapes c.memory) + length more = ap length keeps.objects.1 ∙ length-append (shapes c.memory) more in
    omega (arith, sum, none, budget, after, before, long, same)

pub no_more :
    ExecutionKeeps → (world : World) (texts : List (List ℕ)) (c : Context) (insn : Instruction) (done : Memory × Effect) (addresses more : List ℕ) (held after : Held)
    (blocks blocks_after : Blocks) → execute c insn ≡ Ok done → MemoryStands world texts c.memory addresses held blocks
    → MemoryStands world texts done.0 (addresses ++ more) after blocks_after → after.cells ≡ held.cells → more ≡ []
no_more kept world texts c insn done addresses more held after blocks blocks_after e before then same =
    let count = none_joined kept c insn done e (then.cells ∙ same ∙ sym before.cells) in
    none more (let a = before.objects.count in let b = then.objects.count in let l = length-append addresses more in omega (arith, a, b, l, count))
  where
    none : (xs : List ℕ) → length xs ≡ 0 → xs ≡ []
    none [] h = refl
    none (x ∷ xs) h = absurd (omega (arith, h))
