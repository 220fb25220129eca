use Rattle.std.proofs.Common.{◌≡◌, ◌-◌, length}
use Rattle.jv_format.specs.Readers.{list_read}
use Rattle.jv_class_structure.specs.Inside.Reading.{method_kept}
use Rattle.jv_format.proofs.Laws.{with_front}
use Rattle.jv_class_structure.specs.Inside.Kept.{seen_list, AreNumbered}
use Rattle.jv_class_structure.proofs.body.methods_listed.Given as goal

abbrev pub invariant-loop : goal.invariant-loop
invariant-loop l = record {
  same : with_front (seen_list l.methods) (list_read (method_kept l.pool) (l.count - l.counter) l.rest) ≡ list_read (method_kept l.pool) l.count l.bytes;
  numbered : AreNumbered l.methods;
  many : length l.methods.kept.items ≡ l.counter;
}
