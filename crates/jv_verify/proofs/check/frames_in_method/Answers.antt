use Rattle.std.proofs.Common.{◌≤◌, subst}
use Rattle.jv_class_structure.specs.Parts.{CodeSeen}
use Rattle.jv_class_structure.specs.Seen.{seen_code, seen_method}
use Rattle.jv_code.specs.Places.{IsCode}
use Rattle.jv_meaning_typing.specs.Typing.{argument_words}
use Rattle.jv_verify_types.specs.PoolTypes.{typed_call}
use Rattle.jv_verify.proofs.Environments.{same_body}
use Rattle.jv_verify.proofs.StandingBefore.{described_by}
use Rattle.jv_verify.proofs.check.frames_in_method.Goals as goal

pub unreachable-requires : goal.unreachable-requires
unreachable-requires c =
    let env = c.requires.0 in
    let of = c.requires.1.0 in
    (c.in_default.ensures {u = tt}).none env of
    (subst (λ (b : CodeSeen). argument_words env ≤ b.max_locals) (same_body c.args.class.now (seen_method c.args.method.now) (seen_code c.args.body.now) env of) c.requires.1.1.code.arguments)

pub unreachable-requires-in_default-read : goal.unreachable-requires-in_default-read
unreachable-requires-in_default-read c =
    let env = c.requires.0 in
    let of = c.requires.1.0 in
    (c.in_default-read.ensures {u = tt}).bad env.instructions
    (subst (λ (b : CodeSeen). IsCode b.code env.instructions) (same_body c.args.class.now (seen_method c.args.method.now) (seen_code c.args.body.now) env of) of.is.instructions)

pub frames_typed-requires-clause-some : goal.frames_typed-requires-clause-some
frames_typed-requires-clause-some c =
    let class = c.args.class.now in
    let env = c.requires.0 in
    let of = c.requires.1.0 in (
      env,
      (
        (
          of,
          record {
            described = described_by class (seen_method c.args.method.now) (seen_code c.args.body.now) (typed_call class.types.names c.in-Some.types) env of c.in-Some.ensures.said;
            fit = c.in-Some.ensures.fit env of;
          },
        ),
        c.requires.1.1,
      ),
    )

pub returns : goal.returns
returns c = λ env of typed.
    let class = c.args.class.now in
    c.frames_typed.ensures env (
      of,
      record {
        described = described_by class (seen_method c.args.method.now) (seen_code c.args.body.now) (typed_call class.types.names c.in-Some.types) env of c.in-Some.ensures.said;
        fit = c.in-Some.ensures.fit env of;
      },
    )
    typed
