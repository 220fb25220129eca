use Rattle.std.proofs.Common.{rules, ◌≡◌, [], ◌∷◌, ◌++◌, map, subst, sym}
use Rattle.jv_program_run.specs.Inside.Brought.{named_guest_of}
use Rattle.jv_program_run.specs.Inside.Play.{AreReportsOn, IsReportOn, told_of}
use Rattle.jv_program_base.proofs.Places.{found_in_map, item_at}
use Rattle.jv_program_run.proofs.Reports.{pushed_report, reports-more}
use Rattle.jv_program_run.proofs.play.reports_on.Goals as goal

pub loop-place-preserved : goal.loop-place-preserved
loop-place-preserved c =
    let brought = c.args.guests.now in
    let guests = map named_guest_of brought in
    let k = c.loop-place.place in
    let guest = c.index-guests-place.result in
    let r = c.in_ok-report.report in
    let found = found_in_map named_guest_of brought k guest (item_at brought k guest c.loop-place-test.true c.index-guests-place.is) in
    let last : IsReportOn c.args.places guests c.args.host.now k (told_of r) =
    record { named = named_guest_of guest; found = found; is = c.in_ok-report.ensures {u = tt} } in
    let items : c.push.new.self.items ≡ c.loop-place.reports.items ++ r ∷ [] = search rules in
    subst (AreReportsOn c.args.places guests c.args.host.now _) (sym (pushed_report c.loop-place.reports.items r c.push.new.self.items items))
    (reports-more c.args.places guests c.args.host.now k (map told_of c.loop-place.reports.items) (told_of r) c.loop-place.invariant last)
