use Rattle.std.proofs.Common.{◌≡◌, ◌+◌, length, Err, arith}
use Rattle.std.proofs.lemmas.Result.{err_from_is_err_and}
use Rattle.jv_stackmap.specs.Inside.Reading.{form}
use Rattle.jv_stackmap.specs.Inside.Steps.{form_done, frames_read}
use Rattle.jv_stackmap.proofs.Faults.{fails_on, gives_fault}
use Rattle.jv_stackmap.proofs.Stepping.{step_on, step_ends}
use Rattle.jv_stackmap.proofs.Counts.{read_counts}
use Rattle.jv_stackmap.proofs.reading.read_frames_at.Goals as goal

pub loop-preserved : goal.loop-preserved
loop-preserved c =
    let more : length c.read_frame.new.table.frames ≡ length c.loop.table.frames + 1 =
    read_counts c.args.pool.now c.args.limits c.loop.table c.read_frame.new.table c.loop.rest.now c.in_ok-rest.rest.now c.in_ok-rest.ensures in
    record {
      so_far = step_on form (form_done c.args.pool.now c.args.limits) c.args.count c.loop.counter c.loop.table c.read_frame.new.table c.loop.rest.now
          c.in_ok-rest.rest.now _ c.loop-test.true c.in_ok-rest.ensures c.loop.invariant.so_far;
      count = omega (arith, more, c.loop.invariant.count);
    }

pub returns-in_err-rest : goal.returns-in_err-rest
returns-in_err-rest c =
    let p = err_from_is_err_and c.from_residual.result c.from_residual.ensures.1 in
    let e = c.in_err-rest.field-0.0 in
    let is : c.from_residual.result ≡ Err e = cc (p.1, p.2) in
    gives_fault e (frames_read c.args.pool.now c.args.limits c.args.count c.args.table.now c.args.bytes.now) _ c.from_residual.result is
    (fails_on e _ _ (λ none. step_ends form (form_done c.args.pool.now c.args.limits) c.args.count c.loop.counter c.loop.table c.loop.rest.now _
    c.loop-test.true none c.loop.invariant.so_far) c.in_err-rest.ensures)
