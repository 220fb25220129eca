use Rattle.std.proofs.Common.{subst}
use Rattle.jv_verify_pass.specs.Tables.{MapsTo}
use Rattle.jv_verify.specs.Inside.Read.{types_of}
use Rattle.jv_verify.proofs.tables.frames_in_tables.Goals as goal

pub unreachable-requires : goal.unreachable-requires
unreachable-requires c =
    let method = c.args.method.now in
    let env = c.requires.0 in
    let typed = c.requires.1.1 in
    subst (MapsTo (types_of method) method.body.max_locals env) c.in_default.is (c.in_ok-frames.ensures.map env c.requires.1.0) typed.maps typed.frames

pub frames_before-requires-clause-some : goal.frames_before-requires-clause-some
frames_before-requires-clause-some c =
    let method = c.args.method.now in
    let env = c.requires.0 in
    let of = c.requires.1.0 in
    let typed = c.requires.1.1 in (
      env,
      (
        record {
          of = of;
          handlers = typed.handlers;
          maps = subst (MapsTo (types_of method) method.body.max_locals env) c.in-Some.is (c.in_ok-frames.ensures.map env of);
        },
        typed,
      ),
    )

pub returns : goal.returns
returns c = λ env of typed.
    let method = c.args.method.now in
    c.frames_before.ensures env
    (record {
      of = of;
      handlers = typed.handlers;
      maps = subst (MapsTo (types_of method) method.body.max_locals env) c.in-Some.is (c.in_ok-frames.ensures.map env of);
    })
    typed
