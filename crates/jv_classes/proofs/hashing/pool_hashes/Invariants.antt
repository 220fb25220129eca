use Rattle.std.proofs.Common.{◌≡◌, length}
use Rattle.jv_classes.specs.Hashes.{AreHashes}
use Rattle.jv_classes.proofs.hashing.pool_hashes.Given as goal

abbrev pub invariant-loop-index : goal.invariant-loop-index
invariant-loop-index l = (length l.hashes.items ≡ l.index) × AreHashes l.seed l.pool l.hashes.items
