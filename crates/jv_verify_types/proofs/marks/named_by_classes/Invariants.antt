use Rattle.std.proofs.Common.{◌≡◌, length}
use Rattle.jv_pool.specs.Constants.{pool_count}
use Rattle.jv_verify_types.specs.Inside.KeptTexts.{AreMarkedBelow}
use Rattle.jv_verify_types.proofs.marks.named_by_classes.Given as goal

abbrev pub invariant-loop-index : goal.invariant-loop-index
invariant-loop-index l = record {
  size : length l.marks.items ≡ pool_count l.pool;
  marked : AreMarkedBelow l.index l.pool l.marks.items;
}
