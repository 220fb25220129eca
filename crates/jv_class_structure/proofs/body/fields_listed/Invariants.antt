use Rattle.std.proofs.Common.{◌≡◌, ◌-◌}
use Rattle.std.specs.Prelude.{map}
use Rattle.jv_format.specs.Readers.{list_read}
use Rattle.jv_class_structure.specs.Inside.Reading.{field_kept}
use Rattle.jv_format.proofs.Laws.{with_front}
use Rattle.jv_class_structure.specs.Seen.{seen_field}
use Rattle.jv_class_structure.proofs.body.fields_listed.Given as goal

abbrev pub invariant-loop : goal.invariant-loop
invariant-loop l = with_front (map seen_field l.fields.items) (list_read (field_kept l.pool) (l.count - l.counter) l.rest) ≡ list_read (field_kept l.pool) l.count l.bytes
