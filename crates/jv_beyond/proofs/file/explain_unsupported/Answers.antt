use Rattle.std.specs.Prelude.{string_bytes}
use Rattle.std.proofs.lemmas.Result.{IfOk-weaker}
use Rattle.jv_beyond.proofs.SomeBeyond.{told_beyond}
use Rattle.jv_beyond.proofs.file.explain_unsupported.Goals as goal

pub returns-in-Ok : goal.returns-in-Ok
returns-in-Ok c =
    IfOk-weaker c.explain_parts.result _ _
    (λ text told more.
    told_beyond c.one_behind_version.ensures c.some_is_beyond.ensures c.args.bytes.now c.in-Some.rest.now c.in-Some._minor c.in-Some.major c.in-Some.ensures
    c.in-Ok.parts c.in-Ok.ensures.ok (string_bytes text) told more)
    c.explain_parts.ensures
