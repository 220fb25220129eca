use Rattle.std.proofs.Common.{◌≡◌, ℕ, ◌<◌, get_or, length}
use Rattle.jv_verify_known.proofs.known.Known.new.Given as goal

abbrev pub invariant-loop-block : goal.invariant-loop-block
invariant-loop-block l = record {
  many : length l.writes.numbers ≡ length l.initial.writes.numbers;
  next : l.writes.next ≡ 2;
  written : (block : ℕ) → block < l.block → block < length l.writes.numbers → get_or l.writes.numbers block 0 ≡ 2;
}
