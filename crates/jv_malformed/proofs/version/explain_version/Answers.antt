use Rattle.std.specs.Prelude.{string_bytes}
use Rattle.std.proofs.lemmas.Result.{IfOk-weaker}
use Rattle.jv_malformed.proofs.Starting.{version_told}
use Rattle.jv_malformed.proofs.version.explain_version.Goals as goal

pub returns-in-Some : goal.returns-in-Some
returns-in-Some c =
    IfOk-weaker c.to_string.result _ _
    (λ text. version_told c.args.bytes.now c.in-Some.field-0-1.now c.in-Some.minor c.in-Some.major c.in-Some.ensures (string_bytes text))
    c.to_string.ensures.ok
