use Rattle.std.proofs.Common.{subst}
use Rattle.jv_meaning_typing.specs.declared.verdict.VerifyRule.TheVariants as rules
use Rattle.jv_verify_pass.specs.Tables.{MapsTo}
use Rattle.jv_verify.specs.Inside.Read.{types_of}
use Rattle.jv_verify.proofs.Judging.{breaks_map, judged_at_start}
use Rattle.jv_verify.proofs.tables.check_frames.Goals as goal

pub returns-in_default : goal.returns-in_default
returns-in_default c = λ env of right.
    let method = c.args.method.now in
    judged_at_start method.class.types.world env.site c.broken.result rules.MapFrames c.broken.ensures.offset c.broken.ensures.rule
    (breaks_map method.class.types.world env of.class.world of.code right (subst (MapsTo (types_of method) method.body.max_locals env) c.in_default.is (c.in_ok-frames.ensures.map env of)))

pub check_instructions-requires-clause-some : goal.check_instructions-requires-clause-some
check_instructions-requires-clause-some c =
    let method = c.args.method.now in
    let env = c.requires.some.0 in
    let of = c.requires.some.1.0 in (
      env,
      record {
        of = of;
        handlers = c.requires.some.1.1;
        maps = subst (MapsTo (types_of method) method.body.max_locals env) c.in-Some.is (c.in_ok-frames.ensures.map env of);
      },
    )

pub returns : goal.returns
returns c = λ env of right.
    let method = c.args.method.now in
    c.check_instructions.ensures env
    (record { of = of; handlers = right; maps = subst (MapsTo (types_of method) method.body.max_locals env) c.in-Some.is (c.in_ok-frames.ensures.map env of) })
