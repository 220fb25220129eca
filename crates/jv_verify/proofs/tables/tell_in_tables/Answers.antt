use Rattle.std.proofs.Common.{rules, subst}
use Rattle.std.proofs.lemmas.Result.{IfOk-weaker}
use Rattle.jv_verify_pass.specs.Tables.{MapsTo}
use Rattle.jv_verify.specs.Inside.Read.{HasReadFrames, types_of}
use Rattle.jv_verify.specs.Inside.Typed.{IsSomeTypedBelow}
use Rattle.jv_verify.proofs.StandingBefore.{took_so}
use Rattle.jv_verify.proofs.tables.tell_in_tables.Goals as goal

pub unreachable-requires : goal.unreachable-requires
unreachable-requires g c =
    let method = c.args.method.now in
    let env = c.requires.0 in
    let typed = c.requires.1.1 in
    subst (MapsTo (types_of method) method.body.max_locals env) c.in_default.is (c.in_ok-frames.ensures.map env c.requires.1.0) typed.maps typed.frames

pub tell_frames-requires : goal.tell_frames-requires
tell_frames-requires g c κs =
    let method = c.args.method.now in
    let env = c.requires.0 in
    let of = c.requires.1.0 in
    let typed = c.requires.1.1 in
    let some : IsSomeTypedBelow (HasReadFrames method c.in-Some.frames) c.args.end = (
      env,
      (
        record {
          of = of;
          handlers = typed.handlers;
          maps = subst (MapsTo (types_of method) method.body.max_locals env) c.in-Some.is (c.in_ok-frames.ensures.map env of);
        },
        typed,
      ),
    ) in
    search rules

pub returns-clause-took : goal.returns-clause-took
returns-clause-took g c =
    let method = c.args.method.now in
    IfOk-weaker c.tell_frames.result _ _
    (λ stop took.
    took_so g.S.FrameSink.takes c.args.sink.now c.tell_frames.new.sink _ _
    (λ all are env of keeps.
    are env
    (record {
      of = of;
      handlers = keeps.handlers;
      maps = subst (MapsTo (types_of method) method.body.max_locals env) c.in-Some.is (c.in_ok-frames.ensures.map env of);
    })
    keeps)
    took)
    c.tell_frames.ensures.took
