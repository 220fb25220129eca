use Rattle.std.proofs.Common.{◌≡◌, ◌-◌}
use Rattle.std.specs.Prelude.{map}
use Rattle.jv_format.specs.Format.{half}
use Rattle.jv_format.specs.Readers.{list_read}
use Rattle.jv_format.proofs.Laws.{with_front}
use Rattle.jv_class_structure.specs.Seen.{seen_index}
use Rattle.jv_class_structure.proofs.body.interfaces_listed.Given as goal

abbrev pub invariant-loop : goal.invariant-loop
invariant-loop l = with_front (map seen_index l.interfaces.items) (list_read half (l.count - l.counter) l.rest) ≡ list_read half l.count l.bytes
