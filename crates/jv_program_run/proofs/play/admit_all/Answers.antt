use Rattle.std.proofs.Common.{ap, ◌∙◌, map, Err, arith}
use Rattle.jv_host.specs.Started.{budget_of}
use Rattle.jv_host.specs.Files.{guest_of}
use Rattle.jv_program_base.specs.Failure.{failure_of}
use Rattle.jv_program_run.specs.Inside.Brought.{named_guest_of}
use Rattle.jv_program_run.specs.Inside.Play.{IsAdmitFailure}
use Rattle.jv_program_run.proofs.Admitted.{allowed_too, held-more, refused}
use Rattle.jv_program_base.proofs.Places.{item_at, passed_on}
use Rattle.jv_program_run.proofs.play.admit_all.Goals as goal

pub returns-in_err-admit-clause-err : goal.returns-in_err-admit-clause-err
returns-in_err-admit-clause-err c =
    let b = budget_of c.args.budget in
    let guests = c.args.guests.now in
    let k = c.loop-guest.guest-index in
    let guest = c.guest-item.result in
    let fault = c.in_err-admit.field-0.0 in
    let was = c.in_err-admit.was {u = tt} in
    passed_on c.from_residual.result (failure_of fault) (IsAdmitFailure b (map named_guest_of guests)) c.from_residual.ensures.1
    (refused b guests k guest (item_at guests k guest c.loop-guest-test.true c.guest-item.is) c.loop-guest-test.true c.loop-guest.host c.loop-guest.invariant.held
    (guest_of c.guest_files.result) c.guest_files.ensures fault c.loop-guest.invariant.allowed (c.in_err-admit.ensures {u = tt}).refused
    (λ e. c.admit.ensures.memory (was ∙ ap Err e)))

pub loop-guest-preserved : goal.loop-guest-preserved
loop-guest-preserved c =
    let b = budget_of c.args.budget in
    let guests = c.args.guests.now in
    let k = c.loop-guest.guest-index in
    let guest = c.guest-item.result in
    let found = item_at guests k guest c.loop-guest-test.true c.guest-item.is in
    let told = c.in_ok-admit.ensures {u = tt} in
    let files = guest_of c.guest_files.result in
    record {
      held = held-more b guests k guest found c.loop-guest-test.true c.loop-guest.host c.loop-guest.invariant.held files c.guest_files.ensures c.admit.new.self told.admitted;
      allowed =
          allowed_too b guests k guest found c.loop-guest-test.true c.loop-guest.host c.loop-guest.invariant.held files c.guest_files.ensures
          told.allowed told.stands c.loop-guest.invariant.allowed;
    }

pub returns-clause-allowed : goal.returns-clause-allowed
returns-clause-allowed c = λ place named lt there.
    let done = c.loop-guest-test.false in
    c.loop-guest.invariant.allowed place named (omega (arith, lt, done)) there
