use Rattle.std.proofs.Common.{◌≡◌, map, take}
use Rattle.jv_classes.specs.Once.{direct_numbers}
use Rattle.jv_classes.specs.Inside.Rows.{numbers_of}
use Rattle.jv_classes.proofs.table.all_supers.Given as goal

abbrev pub invariant-loop-class : goal.invariant-loop-class
invariant-loop-class l =
    (l.class-items ≡ l.list) × (numbers_of l.all.items ≡ map (λ c. direct_numbers l.list c.class) (take l.class-index l.list))
