use Rattle.std.proofs.Common.{sym, ◌∙◌, arith}
use Rattle.jv_class.specs.ClassFile.{IsClassFile}
use Rattle.jv_class.specs.Inside.Reading.{IsWholeBehind}
use Rattle.jv_class.proofs.Kept.{if_ok_same}
use Rattle.jv_class.proofs.Whole.{other_version, not_supported, class_from_behind, behind_class}
use Rattle.jv_class.proofs.reading.read_class.Goals as goal

pub returns-then-not-is_supported_version-clause-version : goal.returns-then-not-is_supported_version-clause-version
returns-then-not-is_supported_version-clause-version c = λ e.
    other_version c.args.bytes.now c.in-Some.rest.now c.in-Some.minor c.in-Some.major (λ i. omega (arith, c.type_inv.bytes i)) c.in-Some.ensures
    (not_supported c.in-Some.minor c.in-Some.major c.is_supported_version.result c.is_supported_version.ensures c.if-not-is_supported_version.true)

pub returns-clause-ok : goal.returns-clause-ok
returns-clause-ok c =
    if_ok_same c.class_behind.result (λ x. IsWholeBehind c.in-Some.major c.in-Some.rest.now x) (λ x. IsClassFile c.args.bytes.now x)
    (class_from_behind c.args.bytes.now c.in-Some.rest.now c.in-Some.minor c.in-Some.major (λ i. omega (arith, c.type_inv.bytes i)) c.in-Some.ensures
    (sym c.is_supported_version.ensures ∙ c.if-not-is_supported_version.false))
    c.class_behind.ensures.ok

pub returns-clause-unsupported : goal.returns-clause-unsupported
returns-clause-unsupported c = λ e.
    let found = c.class_behind.ensures.unsupported e in (
      found.0,
      class_from_behind c.args.bytes.now c.in-Some.rest.now c.in-Some.minor c.in-Some.major (λ i. omega (arith, c.type_inv.bytes i)) c.in-Some.ensures
          (sym c.is_supported_version.ensures ∙ c.if-not-is_supported_version.false) found.0 found.1,
      found.2,
    )

pub returns-clause-format_no_class : goal.returns-clause-format_no_class
returns-clause-format_no_class c = λ e d h.
    c.class_behind.ensures.format e d (behind_class c.args.bytes.now c.in-Some.rest.now c.in-Some.minor c.in-Some.major c.in-Some.ensures d h)
