use Rattle.std.proofs.Common.{Bor, List, ℕ, map, inr, subst}
use Rattle.std.specs.Prelude.{string_bytes}
use Rattle.jv_limits.specs.Bytes.{bytes_of}
use Rattle.jv_program_base.proofs.Places.{passed_on}
use Rattle.jv_program_words.specs.declared.asked.Settings.{Settings}
use Rattle.jv_program_words.specs.Settings.{IsAskedIn, text_of, texts_of}
use Rattle.jv_program_run.specs.Named.{IsRunFailure}
use Rattle.jv_program.specs.Command.{settings_of}
use Rattle.jv_program.specs.Inside.Stops.{IsEarly}
use Rattle.jv_program.specs.declared.stop.Stop.TheVariants.{Run}
use Rattle.jv_program.proofs.Ends.{alone, run_failed}
use Rattle.jv_program.proofs.program.outcome_for.Goals as goal

pub returns-in_err-options-clause-err : goal.returns-in_err-options-clause-err
returns-in_err-options-clause-err g c =
    let disk = g.F.Folders.disk c.args.folders.now in
    let line = map string_bytes c.args.words.now in
    let input = g.I.Read.remaining c.args.input.now in
    passed_on c.from_residual.result c.in_err-options.field-0.0 (IsEarly disk line input input) c.from_residual.ensures.1
    ((c.in_err-options.ensures {u = tt}).err disk input)

pub returns-in_err-run_for-in-Run-clause-err : goal.returns-in_err-run_for-in-Run-clause-err
returns-in_err-run_for-in-Run-clause-err g c =
    let disk = g.F.Folders.disk c.args.folders.now in
    let line = map string_bytes c.args.words.now in
    let before = g.I.Read.remaining c.args.input.now in
    let after = g.I.Read.remaining c.run_for.new.input in
    let failure = c.in_err-run_for-in-Run.field-0.0 in
    let asked = subst (λ (s : Settings). IsAskedIn line s) c.in-Run.is (c.in_ok-options.ensures {u = tt}).ok in
    let failed : IsRunFailure disk (settings_of c.in-Run.options) (text_of c.in-Run.library) (texts_of c.in-Run.named) before after failure =
    subst (λ (names : List (Bor (List ℕ))). IsRunFailure disk (settings_of c.in-Run.options) (text_of c.in-Run.library) (map bytes_of names) before after failure)
    c.as_slice-named.ensures.value (c.in_err-run_for-in-Run.ensures {u = tt}).err in
    passed_on c.from_residual-in_err-run_for-in-Run.result (Run failure) (IsEarly disk line before after) c.from_residual-in_err-run_for-in-Run.ensures.1
    (run_failed disk line before after c.in-Run.options (text_of c.in-Run.library) (texts_of c.in-Run.named) failure asked failed)

pub returns-in_err-run_for-in-Run-clause-alone : goal.returns-in_err-run_for-in-Run-clause-alone
returns-in_err-run_for-in-Run-clause-alone g c = λ none.
    let line = map string_bytes c.args.words.now in
    let asked = subst (λ (s : Settings). IsAskedIn line s) c.in-Run.is (c.in_ok-options.ensures {u = tt}).ok in
    let quiet = alone line c.in-Run.options (text_of c.in-Run.library) (texts_of c.in-Run.named) asked none in
    c.run_for.ensures.alone quiet.0 quiet.1

pub returns-in_ok-run_for-in-Run-clause-alone : goal.returns-in_ok-run_for-in-Run-clause-alone
returns-in_ok-run_for-in-Run-clause-alone g c = λ none.
    let line = map string_bytes c.args.words.now in
    let asked = subst (λ (s : Settings). IsAskedIn line s) c.in-Run.is (c.in_ok-options.ensures {u = tt}).ok in
    let quiet = alone line c.in-Run.options (text_of c.in-Run.library) (texts_of c.in-Run.named) asked none in
    c.run_for.ensures.alone quiet.0 quiet.1

pub returns-in_err-explain_for-in-Explain-clause-unread : goal.returns-in_err-explain_for-in-Explain-clause-unread
returns-in_err-explain_for-in-Explain-clause-unread g c = λ none.
    let line = map string_bytes c.args.words.now in
    let asked = subst (λ (s : Settings). IsAskedIn line s) c.in-Explain.is (c.in_ok-options.ensures {u = tt}).ok in
    absurd (none (inr (inr (c.in-Explain.options, text_of c.in-Explain.library, texts_of c.in-Explain.names, asked))))

pub returns-in_ok-explain_for-in-Explain-clause-unread : goal.returns-in_ok-explain_for-in-Explain-clause-unread
returns-in_ok-explain_for-in-Explain-clause-unread g c = λ none.
    let line = map string_bytes c.args.words.now in
    let asked = subst (λ (s : Settings). IsAskedIn line s) c.in-Explain.is (c.in_ok-options.ensures {u = tt}).ok in
    absurd (none (inr (inr (c.in-Explain.options, text_of c.in-Explain.library, texts_of c.in-Explain.names, asked))))
