use Rattle.std.proofs.Common.{◌≡◌, Err}
use Rattle.std.proofs.lemmas.Result.{err_from_is_err_and}
use Rattle.jv_stackmap.specs.Inside.Reading.{item}
use Rattle.jv_stackmap.specs.Inside.Steps.{laid_item, items_laid}
use Rattle.jv_stackmap.proofs.Faults.{fails_on, gives_fault}
use Rattle.jv_stackmap.proofs.Stepping.{step_on, step_ends}
use Rattle.jv_stackmap.proofs.reading.lay_items.Goals as goal

pub loop-preserved : goal.loop-preserved
loop-preserved c =
    step_on item (laid_item c.args.pool.now) c.args.count c.loop.counter c.loop.table c.lay_item.new.table c.loop.rest.now c.in_ok-rest.rest.now _
    c.loop-test.true c.in_ok-rest.ensures c.loop.invariant

pub returns-in_err-rest : goal.returns-in_err-rest
returns-in_err-rest c =
    let p = err_from_is_err_and c.from_residual.result c.from_residual.ensures.1 in
    let e = c.in_err-rest.field-0.0 in
    let is : c.from_residual.result ≡ Err e = cc (p.1, p.2) in
    gives_fault e (items_laid c.args.pool.now c.args.count c.args.table.now c.args.bytes.now) _ c.from_residual.result is
    (fails_on e _ _ (λ none. step_ends item (laid_item c.args.pool.now) c.args.count c.loop.counter c.loop.table c.loop.rest.now _ c.loop-test.true none c.loop.invariant) c.in_err-rest.ensures)
