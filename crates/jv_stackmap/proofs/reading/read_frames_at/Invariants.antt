use Rattle.std.proofs.Common.{◌≡◌, ◌-◌, length}
use Rattle.jv_stackmap.specs.Inside.Steps.{frames_read}
use Rattle.jv_stackmap.proofs.reading.read_frames_at.Given as goal

abbrev pub invariant-loop : goal.invariant-loop
invariant-loop l = record {
  so_far : frames_read l.pool l.limits (l.count - l.counter) l.table l.rest ≡ frames_read l.pool l.limits l.count l.fn.table l.bytes;
  count : length l.table.frames ≡ l.counter;
}
