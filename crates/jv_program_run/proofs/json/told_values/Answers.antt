use Rattle.std.proofs.Common.{rules, ◌≡◌, ◌∷◌, ◌++◌, []}
use Rattle.jv_program_base.proofs.Places.{item_at}
use Rattle.jv_program_run.proofs.Reports.{pushed_value}
use Rattle.jv_program_run.proofs.json.told_values.Goals as goal

pub loop-report-preserved : goal.loop-report-preserved
loop-report-preserved c =
    let reports = c.args.reports.now in
    let k = c.loop-report.report-index in
    let before = c.loop-report.values.items in
    let pushed : c.push.new.self.items ≡ before ++ c.in_ok-value.value ∷ [] = search rules in
    pushed_value reports k _ before c.push.new.self.items c.in_ok-value.value (item_at reports k c.report-item.result c.loop-report-test.true c.report-item.is) pushed
    (c.in_ok-value.ensures {u = tt}) c.loop-report.invariant
