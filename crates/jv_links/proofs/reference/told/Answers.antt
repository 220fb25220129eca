use Rattle.std.proofs.Common.{◌≡◌, List, ℕ, ◌++◌, ap, ◌∙◌}
use Rattle.std.proofs.lemmas.Result.{IfOk-weaker}
use Rattle.jv_code.specs.Insns.{instruction_of}
use Rattle.jv_explain.specs.Text.{place_text}
use Rattle.jv_link.specs.Seen.{error_of}
use Rattle.jv_meaning_typing.specs.LinkErrors.{error_class}
use Rattle.jv_links.specs.Inside.Shown.{throws_shown, why_shown}
use Rattle.jv_links.specs.Text.{operand_index, unless_text, why_text}
use Rattle.jv_links.proofs.reference.told.Goals as goal

pub returns : goal.returns
returns c =
    let world = c.args.classes.now.world in
    let pool = c.args.pool.now in
    let insn = instruction_of c.args.insn in
    let error = error_of c.args.error in
    let place = place_text pool c.args.offset c.args.line insn in
    let why : why_shown c.why_of.result ≡ why_text world pool (operand_index insn) error =
    c.why_of.ensures ∙ ap (λ (i : ℕ). why_text world pool i error) c.operand_index.ensures in
    IfOk-weaker c.to_string.result _ _
    (λ text h.
    h
    ∙ (ap (λ (t : List ℕ). place ++ throws_shown t c.unless_text.result.now (why_shown c.why_of.result)) c.error_class.ensures
    ∙ (ap (λ (t : List ℕ). place ++ throws_shown (error_class error) t (why_shown c.why_of.result)) c.unless_text.ensures
    ∙ ap (λ (t : List ℕ). place ++ throws_shown (error_class error) (unless_text insn) t) why)))
    c.to_string.ensures.ok
