use Rattle.std.proofs.Common.{◌≡◌, ℕ, length, take}
use Rattle.jv_classes.specs.Ways.{related}
use Rattle.jv_classes.proofs.Each.{each_of}
use Rattle.jv_classes.proofs.relation.Relation.relate_each.Given as goal

abbrev pub invariant-loop-number : goal.invariant-loop-number
invariant-loop-number l =
    (length l.self ≡ length l.fn.self) × ((a b : ℕ) → related l.self a b ≡ each_of l.fn.self l.from (take l.number-index l.to) a b)
