use Rattle.jv_pool.specs.Seen.{seen}
use Rattle.std.proofs.Common.{arith}
use Rattle.jv_asm.proofs.Lengths.{count_more}
use Rattle.jv_asm.proofs.writer.count_of.Goals as goal

pub returns-then-count-gt65535-clause-many : goal.returns-then-count-gt65535-clause-many
returns-then-count-gt65535-clause-many c = λ _.
    let next = count_more seen c.args.pool.now c.loop-constant.constant-index _ c.loop-constant.count c.entries-count.result c.loop-constant-test.true
    c.loop-constant.invariant.count c.entries-count.ensures in
    omega arith

pub loop-constant-preserved : goal.loop-constant-preserved
loop-constant-preserved c =
    let next = count_more seen c.args.pool.now c.loop-constant.constant-index _ c.loop-constant.count c.entries-count.result c.loop-constant-test.true
    c.loop-constant.invariant.count c.entries-count.ensures in
    record { count = next.0; small = omega arith }
