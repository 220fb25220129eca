use Rattle.std.proofs.Common.{◌≡◌, ◌∙◌, true, ap, codes, refl}
use Rattle.std.proofs.lemmas.Result.{IfOk-weaker}
use Rattle.clap.specs.Words.{App, Shape, app_of, new_app, with_subcommand}
use Rattle.clap.specs.Simple.{app_of_fields, on_top}
use Rattle.jv_program_words.specs.CommandLine.{check_line, explain_line, run_line}
use Rattle.jv_program_words.proofs.Lines.{joins}
use Rattle.jv_program_words.proofs.command_line.command_line.Goals as goal

abbrev versioned : Shape → Shape
versioned s = record s { has_version = true }

abbrev needing : Shape → Shape
needing s = record s { subcommand_required = true }

pub returns : goal.returns
returns c =
    let about : app_of c.about.result ≡ new_app (codes "jvhost") = ap app_of_fields c.about.ensures ∙ c.new.ensures.app in
    let version : app_of c.version.result ≡ on_top versioned (new_app (codes "jvhost")) =
    ap app_of_fields c.version.ensures ∙ ap (on_top versioned) about in
    let top : app_of c.subcommand_required.result ≡ on_top needing (on_top versioned (new_app (codes "jvhost"))) =
    ap app_of_fields c.subcommand_required.ensures ∙ ap (on_top needing) version in
    let run = joins _ _ _ run_line c.in_ok-subcommand.ensures c.in_ok-run_line.ensures refl ∙ ap (λ (a : App). with_subcommand a run_line.top) top in
    let check = joins _ _ _ check_line c.in_ok-subcommand-2.ensures c.in_ok-check_line.ensures refl ∙ ap (λ (a : App). with_subcommand a check_line.top) run in
    IfOk-weaker c.subcommand-3.result _ _ (λ line h. joins _ _ line explain_line h c.in_ok-explain_line.ensures refl
    ∙ ap (λ (a : App). with_subcommand a explain_line.top) check)
    c.subcommand-3.ensures
