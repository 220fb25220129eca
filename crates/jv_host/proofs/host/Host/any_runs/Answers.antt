use Rattle.std.proofs.Common.{arith}
use Rattle.jv_host.proofs.Rounding.{none_runs, one_more_over}
use Rattle.jv_host.proofs.host.Host.any_runs.Goals as goal

pub loop-id-init : goal.loop-id-init
loop-id-init g c = λ k less. absurd (omega (arith, less))

pub loop-id-preserved : goal.loop-id-preserved
loop-id-preserved g c = one_more_over c.args.self.now c.loop-id.id c.loop-id.invariant (c.is_running.ensures.over c.if-is_running.false)

pub returns-clause-none : goal.returns-clause-none
returns-clause-none g c = λ e.
    let over = c.loop-id-test.false in
    let count = c.count-id-end.ensures in
    none_runs c.args.self.now c.loop-id.id (omega (arith, over, count)) c.loop-id.invariant
