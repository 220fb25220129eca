use Rattle.std.proofs.Common.{◌≡◌, ◌-◌, None}
use Rattle.jv_class_structure.specs.Inside.Kept.{seen_found}
use Rattle.jv_class_structure.specs.Inside.Reading.{gathered, stack_map_kept}
use Rattle.jv_class_structure.specs.Inside.Within.{AreFoundIn}
use Rattle.jv_class_structure.proofs.attributes.stack_maps_listed.Given as goal

abbrev pub invariant-loop : goal.invariant-loop
invariant-loop l = record {
  same :
      gathered (stack_map_kept l.pool) (l.count - l.counter) (seen_found l.found) l.rest
      ≡ gathered (stack_map_kept l.pool) l.count None l.bytes;
  there : AreFoundIn l.bytes l.found l.rest;
}
