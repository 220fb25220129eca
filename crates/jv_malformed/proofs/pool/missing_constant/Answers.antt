use Rattle.std.proofs.Common.{arith}
use Rattle.jv_pool.specs.Seen.{seen}
use Rattle.jv_malformed.proofs.Walking.{walk_start, walk_on, walk_missing, cut_count, walk_done}
use Rattle.jv_malformed.proofs.pool.missing_constant.Goals as goal

pub returns-in_default : goal.returns-in_default
returns-in_default c = cut_count c.args.bytes.now c.in_default.ensures

pub loop-index-init : goal.loop-index-init
loop-index-init c = walk_start c.args.bytes.now c.in-Some.behind.now c.in-Some.count (λ i. omega (arith, c.type_inv.bytes i)) c.in-Some.ensures

pub loop-index-preserved : goal.loop-index-preserved
loop-index-preserved c =
    walk_on c.in-Some.count c.loop-index.index c.loop-index.rest.now c.in-Some-constant_at.after.now c.args.bytes.now (seen c.in-Some-constant_at.constant)
    c.indices_of-index.result (λ i. omega (arith, c.type_inv.bytes i)) c.loop-index-test.true c.in-Some-constant_at.ensures c.indices_of-index.ensures.all
    c.indices_of-index.ensures.few c.loop-index.invariant

pub returns-in_default-constant_at : goal.returns-in_default-constant_at
returns-in_default-constant_at c =
    walk_missing c.in-Some.count c.loop-index.index c.loop-index.rest.now c.args.bytes.now c.loop-index-test.true c.in_default-constant_at.ensures
    c.loop-index.invariant

pub returns : goal.returns
returns c = walk_done c.in-Some.count c.loop-index.index c.loop-index.rest.now c.args.bytes.now c.loop-index-test.false c.requires c.loop-index.invariant
