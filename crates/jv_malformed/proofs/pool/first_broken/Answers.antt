use Rattle.std.proofs.Common.{ℕ, arith, ap}
use Rattle.jv_pool.specs.Constants.{pool_count, at_index}
use Rattle.jv_pool.specs.Rules.{KeepsRules}
use Rattle.jv_pool.specs.Inside.Known.{IsKept}
use Rattle.jv_pool.proofs.Kept.{below_or_here, every_at}
use Rattle.jv_malformed.proofs.Walking.{broken_found}
use Rattle.jv_malformed.proofs.pool.first_broken.Goals as goal

pub returns-in-Some : goal.returns-in-Some
returns-in-Some c = broken_found c.args.known.now c.loop-index.index c.in-Some.kind c.in-Some.ensures c.loop-index.invariant

pub loop-index-preserved : goal.loop-index-preserved
loop-index-preserved c =
    let P : ℕ → Type 0 = λ k. IsKept c.args.known.now (at_index c.args.known.now k) in
    below_or_here P c.loop-index.index c.loop-index.invariant c.in_default.ensures

pub returns : goal.returns
returns c =
    let count = c.count-index-end.ensures in
    let table = ap pool_count c.table.ensures in
    every_at (KeepsRules c.args.known.now) c.args.known.now c.loop-index.index (omega (arith, count, table, c.loop-index-test.false)) c.loop-index.invariant
