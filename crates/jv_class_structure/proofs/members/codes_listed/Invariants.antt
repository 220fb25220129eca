use Rattle.std.proofs.Common.{◌≡◌, ◌-◌, None}
use Rattle.jv_class_structure.specs.Inside.Kept.{seen_codes}
use Rattle.jv_class_structure.specs.Inside.Reading.{gathered, method_attribute_kept}
use Rattle.jv_class_structure.proofs.members.codes_listed.Given as goal

abbrev pub invariant-loop : goal.invariant-loop
invariant-loop l =
    gathered (method_attribute_kept l.pool) (l.count - l.counter) (seen_codes l.found) l.rest
    ≡ gathered (method_attribute_kept l.pool) l.count None l.bytes
