use Rattle.std.proofs.Common.{◌≡◌, drop}
use Rattle.std.specs.Prelude.{map}
use Rattle.jv_stackmap.specs.Seen.{seen_type}
use Rattle.jv_operands.specs.Seen.{seen_want}
use Rattle.jv_operands.specs.Unmet.{first_unmet_item}
use Rattle.jv_operands.proofs.first.first_unmet_item.Given as goal

abbrev pub invariant-loop-depth : goal.invariant-loop-depth
invariant-loop-depth l =
    first_unmet_item l.table l.depth (drop l.depth (map seen_want l.wants)) (drop l.depth (map seen_type l.stack))
    ≡ first_unmet_item l.table 0 (map seen_want l.wants) (map seen_type l.stack)
