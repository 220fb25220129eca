use Rattle.std.proofs.Common.{List, ap, refl, subst, ◌∙◌}
use Rattle.std.specs.Prelude.{IfErr, map}
use Rattle.jv_program_run.specs.Inside.Brought.{named_guest_of}
use Rattle.jv_program_base.specs.declared.failure.Failure.TheVariants.{OutOfMemory}
use Rattle.jv_program_base.proofs.Places.{passed_on}
use Rattle.jv_program_run.specs.Guests.{NamedGuest, named_guest}
use Rattle.jv_program_run.specs.Outcome.{IsGuestsFailure}
use Rattle.jv_program_run.proofs.running.run_folders.Goals as goal

pub returns-clause-err : goal.returns-clause-err
returns-clause-err g c =
    subst
    (λ (guests : List NamedGuest).
    IfErr c.run_guests.result (IsGuestsFailure c.args.settings guests (g.I.Read.remaining c.args.input.now) (g.I.Read.remaining c.run_guests.new.input)))
    (ap (map named_guest_of) c.as_slice.ensures.value ∙ c.in_ok-guests.ensures) c.run_guests.ensures.err

-- memory was refused before anything was read
pub returns-in_err-guests-clause-err : goal.returns-in_err-guests-clause-err
returns-in_err-guests-clause-err g c =
    let b0 = g.I.Read.remaining c.args.input.now in
    passed_on c.from_residual.result OutOfMemory (IsGuestsFailure c.args.settings (map (named_guest c.args.system.now) c.args.folders.now) b0 b0)
    c.from_residual.ensures.1 (λ none. refl)
