use Rattle.std.proofs.Common.{List, ap, arith, subst, ◌∙◌}
use Rattle.jv_pool.specs.Constants.{Entry, pool_count}
use Rattle.jv_class.specs.Inside.Reading.{IsSupportedAt}
use Rattle.jv_beyond.specs.Uses.{IsConstantBeyond}
use Rattle.jv_beyond.proofs.InOrder.{constant_fails, constant_there, no_constant, no_constant_at, none_more}
use Rattle.jv_beyond.proofs.finding.first_constant.Goals as goal

pub returns-then-not-is_supported_entry : goal.returns-then-not-is_supported_entry
returns-then-not-is_supported_entry c =
    constant_there c.args.parts.now c.loop-index.index
    (subst (λ (pool : List Entry). IsConstantBeyond pool c.loop-index.index) c.pool-pool.ensures
    (constant_fails c.pool-pool.result.now c.loop-index.index c.is_supported_entry.result c.is_supported_entry.ensures.1 c.if-not-is_supported_entry.true)) c.loop-index.invariant

pub loop-index-preserved : goal.loop-index-preserved
loop-index-preserved c =
    none_more c.args.parts.now 5 c.loop-index.index
    (no_constant_at c.args.parts.now c.loop-index.index
    (subst (λ (pool : List Entry). IsSupportedAt pool c.loop-index.index) c.pool-pool.ensures (c.is_supported_entry.ensures.0 c.if-not-is_supported_entry.false)))
    c.loop-index.invariant

pub returns : goal.returns
returns c =
    let count = c.count-index-end.ensures ∙ ap (λ (pool : List Entry). pool_count pool) c.pool-pool.ensures in
    let end = c.loop-index-test.false in
    no_constant c.args.parts.now c.loop-index.index (omega (arith, count, end)) c.loop-index.invariant
