use Rattle.std.proofs.Common.{◌≤◌, subst}
use Rattle.std.specs.Prelude.{IfOk}
use Rattle.jv_class_structure.specs.Parts.{CodeSeen}
use Rattle.jv_class_structure.specs.Seen.{seen_code, seen_method}
use Rattle.jv_code.specs.Places.{IsCode}
use Rattle.jv_meaning_typing.specs.Uses.{Site}
use Rattle.jv_meaning_typing.specs.declared.verdict.VerifyRule.TheVariants as rules
use Rattle.jv_meaning_typing.specs.Typing.{argument_words}
use Rattle.jv_verify_types.specs.PoolTypes.{typed_call}
use Rattle.jv_verify.specs.Judged.{IsVerdictOnMethod}
use Rattle.jv_verify.proofs.Environments.{environment, same_body}
use Rattle.jv_verify.proofs.Judging.{breaks_code, judged_at_start}
use Rattle.jv_verify.proofs.check.check_method.Goals as goal

pub check_typed-requires-clause-some : goal.check_typed-requires-clause-some
check_typed-requires-clause-some c =
    let found =
    environment c.args.class.now (seen_method c.args.method.now) (seen_code c.args.code.now) (typed_call c.args.class.now.types.names c.in-Some.types) c.requires.0 c.in-Ok.ensures.ok.0 c.requires.1
    c.in-Some.ensures.said c.in-Ok.ensures.ok.1 in
    (found.env, (found.of, record { described = found.described; fit = c.in-Some.ensures.fit found.env found.of }))

pub returns-in-Ok : goal.returns-in-Ok
returns-in-Ok c = λ site of.
    let found =
    environment c.args.class.now (seen_method c.args.method.now) (seen_code c.args.code.now) (typed_call c.args.class.now.types.names c.in-Some.types)
    site c.in-Ok.ensures.ok.0 of c.in-Some.ensures.said
    c.in-Ok.ensures.ok.1 in
    subst (λ (s : Site). IfOk c.check_typed.result (IsVerdictOnMethod c.args.class.now.types.world s)) found.there
    (c.check_typed.ensures found.env found.of (record { described = found.described; fit = c.in-Some.ensures.fit found.env found.of }))

pub returns-in_default : goal.returns-in_default
returns-in_default c = λ site of.
    let class = c.args.class.now in
    judged_at_start class.types.world site c.broken.result rules.Code c.broken.ensures.offset c.broken.ensures.rule
    (breaks_code class (seen_method c.args.method.now) (seen_code c.args.code.now) site of
    (λ env here is. (c.in_default.ensures {u = tt}).none env here
    (subst (λ (b : CodeSeen). argument_words env ≤ b.max_locals) (same_body class (seen_method c.args.method.now) (seen_code c.args.code.now) env
    here) is.arguments)))

pub returns-in-Err : goal.returns-in-Err
returns-in-Err c = λ site of.
    let class = c.args.class.now in
    judged_at_start class.types.world site c.broken-in-Err.result rules.Code c.broken-in-Err.ensures.offset c.broken-in-Err.ensures.rule
    (breaks_code class (seen_method c.args.method.now) (seen_code c.args.code.now) site of
    (λ env here is. c.in-Err.ensures.bad env.instructions
    (subst (λ (b : CodeSeen). IsCode b.code env.instructions) (same_body class (seen_method c.args.method.now) (seen_code c.args.code.now) env
    here) here.is.instructions)))
