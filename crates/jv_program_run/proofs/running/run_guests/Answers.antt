use Rattle.std.proofs.Common.{map}
use Rattle.jv_program_base.specs.declared.failure.Failure.TheVariants.{OutOfMemory}
use Rattle.jv_program_base.proofs.Places.{passed_on}
use Rattle.jv_program_run.specs.Inside.Brought.{named_guest_of}
use Rattle.jv_program_run.specs.Outcome.{IsGuestsFailure}
use Rattle.jv_program_run.proofs.Played.{unfed_unread}
use Rattle.jv_program_run.proofs.running.run_guests.Goals as goal

-- memory was refused behind the turns
pub returns-in_err-said_of-clause-err : goal.returns-in_err-said_of-clause-err
returns-in_err-said_of-clause-err g c =
    let s = c.args.settings in
    let b0 = g.I.Read.remaining c.args.input.now in
    let b1 = g.I.Read.remaining c.play.new.input in
    let run = (c.in_ok-play.ensures {u = tt}).ok in
    passed_on c.from_residual-in_err-said_of.result OutOfMemory (IsGuestsFailure s (map named_guest_of c.args.guests.now) b0 b1)
    c.from_residual-in_err-said_of.ensures.1 (λ none. unfed_unread s.stdin run.rounds run.feeds b0 b1 none run.input)
