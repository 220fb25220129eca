use Rattle.std.specs.Prelude.{string_bytes}
use Rattle.std.proofs.lemmas.Result.{IfOk-weaker}
use Rattle.jv_program_explain.proofs.ByBytes.{refused_otherwise}
use Rattle.jv_program_explain.proofs.said.refused_told.Goals as goal

pub returns-in_default : goal.returns-in_default
returns-in_default c =
    IfOk-weaker c.explain_refusal.result _ _
    (λ text told content is for.
    refused_otherwise c.args.classes.now.world c.args.bytes.now content c.args.why (string_bytes text) c.in_default.not-Version c.in_default.not-Format
    c.in_default.not-Unsupported (told content is))
    c.explain_refusal.ensures
