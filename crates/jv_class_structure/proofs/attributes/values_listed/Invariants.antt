use Rattle.std.proofs.Common.{◌≡◌, ◌-◌, None}
use Rattle.jv_class_structure.specs.Inside.Reading.{gathered, value_kept}
use Rattle.jv_class_structure.proofs.attributes.values_listed.Given as goal

abbrev pub invariant-loop : goal.invariant-loop
invariant-loop l =
    gathered (value_kept l.pool l.is_static) (l.count - l.counter) l.found l.rest
    ≡ gathered (value_kept l.pool l.is_static) l.count None l.bytes
