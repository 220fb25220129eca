use Rattle.std.proofs.Common.{map}
use Rattle.jv_program_run.specs.Inside.Brought.{named_guest_of}
use Rattle.jv_program_run.specs.Inside.Play.{AreReportsOn, told_of}
use Rattle.jv_program_run.proofs.play.reports_on.Given as goal

abbrev pub invariant-loop-place : goal.invariant-loop-place
invariant-loop-place l = AreReportsOn l.places (map named_guest_of l.guests) l.host l.place (map told_of l.reports.items)
