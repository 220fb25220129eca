use Rattle.std.proofs.Common.{◌≤◌, refl, subst}
use Rattle.std.proofs.lemmas.Result.{IfOk-weaker}
use Rattle.jv_class_structure.specs.Parts.{CodeSeen}
use Rattle.jv_class_structure.specs.Seen.{seen_code, seen_method}
use Rattle.jv_meaning_typing.specs.Typing.{argument_words}
use Rattle.jv_verify_types.specs.PoolTypes.{typed_call}
use Rattle.jv_verify.proofs.Environments.{same_body}
use Rattle.jv_verify.proofs.StandingBefore.{described_by, took_so}
use Rattle.jv_verify.proofs.check.tell_in_method.Goals as goal

pub unreachable-requires : goal.unreachable-requires
unreachable-requires g c =
    let env = c.requires.0 in
    let of = c.requires.1.0 in
    (c.in_default.ensures {u = tt}).none env of
    (subst (λ (b : CodeSeen). argument_words env ≤ b.max_locals) (same_body c.args.class.now (seen_method c.args.method.now) (seen_code c.args.body.now) env of) c.requires.1.1.code.arguments)

pub tell_typed-requires : goal.tell_typed-requires
tell_typed-requires g c κs =
    let class = c.args.class.now in
    let env = c.requires.0 in
    let of = c.requires.1.0 in (
      (refl, tt),
      (
        env,
        (
          (
            of,
            record {
              described =
                  described_by class (seen_method c.args.method.now) (seen_code c.args.body.now) (typed_call class.types.names c.in-Some.types) env of c.in-Some.ensures.said;
              fit = c.in-Some.ensures.fit env of;
            },
          ),
          c.requires.1.1,
        ),
      ),
    )

pub returns-clause-took : goal.returns-clause-took
returns-clause-took g c =
    let class = c.args.class.now in
    IfOk-weaker c.tell_typed.result _ _
    (λ stop took.
    took_so g.S.FrameSink.takes c.args.sink.now c.tell_typed.new.sink _ _
    (λ all are env of keeps.
    are env (
      of,
      record {
        described = described_by class (seen_method c.args.method.now) (seen_code c.args.body.now) (typed_call class.types.names c.in-Some.types) env of c.in-Some.ensures.said;
        fit = c.in-Some.ensures.fit env of;
      },
    )
    keeps)
    took)
    c.tell_typed.ensures.took
