use Rattle.std.proofs.Common.{rules, ℕ, List, Option, length, map, string_bytes, ap, ◌∙◌}
use Rattle.jv_meaning_typing.specs.declared.verdict.Verdict.{Verdict}
use Rattle.jv_limits.specs.Bytes.{bytes_of}
use Rattle.jv_verify.specs.Files.{AreFilesOf}
use Rattle.jv_program_check.specs.Text.{check_status}
use Rattle.jv_program_explain.specs.Text.{explain_report}
use Rattle.jv_program_explain.proofs.explaining.explained.Goals as goal

pub said_of-requires : goal.said_of-requires
said_of-requires c = (c.args.system.now, c.in-Ok.ensures)

pub returns-clause-ok : goal.returns-clause-ok
returns-clause-ok c =
    let files = map bytes_of c.args.files.now in
    let names = map bytes_of c.args.names.now in
    let found = c.in-Ok.verified in
    let said = map string_bytes c.in_ok-said.said.items in
    let are : AreFilesOf c.args.system.now files found = c.in-Ok.ensures in
    record {
      allowed = c.requires;
      found = found;
      right = are;
      stands = search rules;
      said = said;
      explained = c.in_ok-said.ensures are.given are.contents are.read are.found;
      lines = c.in_ok-lines.lines.items;
      lined = c.in_ok-lines.ensures ∙ ap (λ (vs : List Verdict). length vs) c.verdicts-verdicts.ensures;
      report = c.in_ok-outcome_of.ensures.report
          ∙ (ap (λ (vs : List Verdict). explain_report c.args.settings.json names vs c.as_slice.result.now (map string_bytes c.as_slice-2.result.now)) c.verdicts-verdicts.ensures
          ∙ (ap (λ (ls : List (Option ℕ)). explain_report c.args.settings.json names found.verdicts ls (map string_bytes c.as_slice-2.result.now)) c.as_slice.ensures.value
          ∙ ap (λ told. explain_report c.args.settings.json names found.verdicts c.in_ok-lines.lines.items (map string_bytes told)) c.as_slice-2.ensures.value));
      alone = c.in_ok-outcome_of.ensures.raw;
      status = c.in_ok-outcome_of.ensures.status ∙ ap check_status c.verdicts-verdicts.ensures;
    }
