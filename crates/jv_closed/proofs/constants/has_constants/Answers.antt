use Rattle.std.proofs.Common.{◌≡◌, ◌+◌, ◌≤◌, suc, ◌&&◌, ap, ◌∙◌, arith}
use Rattle.jv_pool.specs.Constants.{pool_count}
use Rattle.jv_closed.specs.There.{constants_are_there}
use Rattle.jv_closed.proofs.There.{pool_is_there}
use Rattle.jv_closed.proofs.constants.has_constants.Goals as goal

pub loop-index-preserved : goal.loop-index-preserved
loop-index-preserved c =
    let next : suc c.loop-index.index ≡ c.loop-index.index + 1 = omega arith in
    c.both-all.ensures ∙ ap (λ b. b && c.in_ok-is_there.is_there) c.loop-index.invariant
    ∙ ap (λ b. constants_are_there c.args.table.now c.args.pool.now c.loop-index.index && b) c.in_ok-is_there.ensures
    ∙ ap (constants_are_there c.args.table.now c.args.pool.now) next

pub returns : goal.returns
returns c =
    let le : pool_count c.args.pool.now ≤ c.loop-index.index = omega (arith, c.count-index-end.ensures, c.loop-index-test.false) in
    c.loop-index.invariant ∙ pool_is_there c.args.table.now c.args.pool.now c.loop-index.index le
