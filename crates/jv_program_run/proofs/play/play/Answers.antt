use Rattle.std.proofs.Common.{ℕ, map, subst, sym}
use Rattle.std.proofs.lemmas.List.{length-map}
use Rattle.jv_host.specs.Started.{budget_of}
use Rattle.jv_program_run.specs.Outcome.{AreAllowed, IsGuestsFailure}
use Rattle.jv_program_run.specs.Inside.Brought.{named_guest_of}
use Rattle.jv_program_base.proofs.Places.{passed_on}
use Rattle.jv_program_run.proofs.Played.{failed_later, not_admitted}
use Rattle.jv_program_run.proofs.play.play.Goals as goal

pub returns-in_err-admit_all-clause-err : goal.returns-in_err-admit_all-clause-err
returns-in_err-admit_all-clause-err g c =
    let s = c.args.settings in
    let guests = map named_guest_of c.args.guests.now in
    let b0 = g.I.Read.remaining c.args.input.now in
    passed_on c.from_residual.result c.in_err-admit_all.field-0.0 (IsGuestsFailure s guests b0 b0) c.from_residual.ensures.1
    (not_admitted s guests b0 c.in_err-admit_all.field-0.0 (c.in_err-admit_all.ensures {u = tt}).err)

pub returns-clause-err : goal.returns-clause-err
returns-clause-err g c =
    let s = c.args.settings in
    let guests = map named_guest_of c.args.guests.now in
    failed_later s guests (g.I.Read.remaining c.args.input.now) (g.I.Read.remaining c.run_all.new.input) c.run_all.result
    (subst (λ (k : ℕ). AreAllowed (budget_of s.budget) guests k) (sym (length-map c.args.guests.now named_guest_of)) (c.in_ok-admit_all.ensures {u = tt}).allowed)
    c.run_all.ensures.err
