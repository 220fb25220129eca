use Rattle.std.proofs.Common.{◌≡◌, map, take}
use Rattle.jv_host.specs.Started.{budget_of}
use Rattle.jv_program_run.specs.Inside.Brought.{named_guest_of}
use Rattle.jv_program_run.specs.Inside.Play.{at_start}
use Rattle.jv_program_run.specs.Outcome.{AreAllowed}
use Rattle.jv_program_run.proofs.play.admit_all.Given as goal

abbrev pub invariant-loop-guest : goal.invariant-loop-guest
invariant-loop-guest l = record {
  held : l.host ≡ map (at_start (budget_of l.budget)) (map named_guest_of (take l.guest-index l.guests));
  allowed : AreAllowed (budget_of l.budget) (map named_guest_of l.guests) l.guest-index;
}
