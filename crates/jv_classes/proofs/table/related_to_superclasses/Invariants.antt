use Rattle.std.proofs.Common.{◌≡◌, ℕ, length, take, map}
use Rattle.jv_classes.specs.Ways.{related}
use Rattle.jv_meaning_world.specs.Numbers.{superclass_number}
use Rattle.jv_classes.proofs.Rows.{told_at}
use Rattle.jv_classes.proofs.table.related_to_superclasses.Given as goal

abbrev pub invariant-loop-from : goal.invariant-loop-from
invariant-loop-from l =
    (length l.relation ≡ length l.classes) × ((a b : ℕ) → related l.relation a b ≡ told_at (take l.from (map (λ c. superclass_number l.classes c.class) l.classes)) a b)
