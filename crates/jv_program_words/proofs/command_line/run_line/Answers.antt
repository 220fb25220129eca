use Rattle.std.proofs.Common.{rules, ◌≡◌, ◌∙◌, List, [], ◌∷◌, ap, codes, subst}
use Rattle.std.proofs.lemmas.Result.{IfOk-weaker}
use Rattle.clap.specs.Words.{App, app_of, new_app}
use Rattle.clap.specs.Simple.{app_of_fields}
use Rattle.clap.specs.Built.{AddsArg, AddsInTurn}
use Rattle.clap.specs.declared.builder.arg.Arg.{Arg}
use Rattle.jv_program_words.specs.CommandLine.{run_line}
use Rattle.jv_program_words.proofs.Lines.{AllLocal, app_of_chain, with_rules}
use Rattle.jv_program_words.proofs.command_line.run_line.Goals as goal

pub returns : goal.returns
returns c =
    let args : List Arg = c.words.result ∷ c.library.result ∷ c.number.result ∷ c.number-2.result ∷ c.number-3.result ∷ c.number-4.result ∷ c.number-5.result
    ∷ c.number-6.result ∷ c.number-7.result ∷ c.json.result ∷ c.flag.result ∷ c.flag-2.result ∷ c.flag-3.result ∷ [] in
    let items : c.in_ok-from_array.field-0.items ≡ args = search rules in
    let start : app_of c.about.result ≡ new_app (codes "run") = ap app_of_fields c.about.ensures ∙ c.new.ensures.app in
    let from_start : with_rules (app_of c.about.result) args ≡ with_rules (new_app (codes "run")) args = ap (λ (a : App). with_rules a args) start in
    let lines : with_rules (new_app (codes "run")) args ≡ run_line = search rules in
    IfOk-weaker c.args-2.result _ _ (λ line h.
    let chain : AddsInTurn AddsArg c.about.result args line = subst (λ (xs : List Arg). AddsInTurn AddsArg c.about.result xs line) items h in
    let streams : AllLocal (c.number-6.result ∷ c.number-7.result ∷ c.json.result ∷ c.flag.result ∷ c.flag-2.result ∷ c.flag-3.result ∷ []) = (
      c.number-6.ensures.local,
      (c.number-7.ensures.local, (c.json.ensures.local, (c.flag.ensures.local, (c.flag-2.ensures.local, (c.flag-3.ensures.local, tt))))),
    ) in
    app_of_chain args c.about.result line chain (
      c.words.ensures.local,
      (
        c.library.ensures.local,
        (c.number.ensures.local, (c.number-2.ensures.local, (c.number-3.ensures.local, (c.number-4.ensures.local, (c.number-5.ensures.local, streams))))),
      ),
    )
    ∙ (from_start ∙ lines))
    c.args-2.ensures
