use Rattle.std.proofs.Common.{rules, ◌≡◌, ◌∙◌, List, [], ◌∷◌, ap, codes, subst}
use Rattle.std.proofs.lemmas.Result.{IfOk-weaker}
use Rattle.clap.specs.Words.{App, app_of, new_app}
use Rattle.clap.specs.Simple.{app_of_fields}
use Rattle.clap.specs.Built.{AddsArg, AddsInTurn}
use Rattle.clap.specs.declared.builder.arg.Arg.{Arg}
use Rattle.jv_program_words.specs.CommandLine.{explain_line}
use Rattle.jv_program_words.proofs.Lines.{app_of_chain, with_rules}
use Rattle.jv_program_words.proofs.command_line.explain_line.Goals as goal

pub returns : goal.returns
returns c =
    let args : List Arg = c.words-files.result ∷ c.library.result ∷ c.json.result ∷ c.flag-links.result ∷ c.flag-frames.result ∷ [] in
    let items : c.in_ok-from_array.field-0.items ≡ args = search rules in
    let start : app_of c.about.result ≡ new_app (codes "explain") = ap app_of_fields c.about.ensures ∙ c.new.ensures.app in
    let from_start : with_rules (app_of c.about.result) args ≡ with_rules (new_app (codes "explain")) args = ap (λ (a : App). with_rules a args) start in
    let lines : with_rules (new_app (codes "explain")) args ≡ explain_line = search rules in
    IfOk-weaker c.args-2.result _ _ (λ line h.
    let chain : AddsInTurn AddsArg c.about.result args line = subst (λ (xs : List Arg). AddsInTurn AddsArg c.about.result xs line) items h in
    app_of_chain args c.about.result line chain
    (c.words-files.ensures.local, (c.library.ensures.local, (c.json.ensures.local, (c.flag-links.ensures.local, (c.flag-frames.ensures.local, tt))))) ∙ (from_start ∙ lines))
    c.args-2.ensures
