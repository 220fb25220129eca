use Rattle.std.proofs.Common.{◌≡◌, ◌<◌, take}
use Rattle.std.specs.Prelude.{map}
use Rattle.jv_pool.specs.Constants.{pool_count}
use Rattle.jv_pool.specs.Seen.{seen}
use Rattle.jv_asm.proofs.writer.count_of.Given as goal

abbrev pub invariant-loop-constant : goal.invariant-loop-constant
invariant-loop-constant l = record { count : l.count ≡ pool_count (map seen (take l.constant-index l.pool)); small : l.count < 65536 }
