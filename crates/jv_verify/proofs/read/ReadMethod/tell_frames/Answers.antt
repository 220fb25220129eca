use Rattle.std.proofs.Common.{refl, sym, ap, subst, ◌∙◌}
use Rattle.std.proofs.lemmas.Result.{IfOk-weaker}
use Rattle.jv_verify_rules.specs.Method.{MethodContext, IsOfMethod}
use Rattle.jv_verify_pass.specs.Before.{AreFramed, IsTypedBelow}
use Rattle.jv_verify_pass.specs.Pass.{IsOfPass, maps_of}
use Rattle.jv_verify.specs.Inside.Read.{ReadMethod}
use Rattle.jv_verify.proofs.Judging.{with_frames}
use Rattle.jv_verify.proofs.Parts.{of_pass, rooms_in}
use Rattle.jv_verify.proofs.StandingBefore.{took_so, with_others}
use Rattle.jv_verify.proofs.read.ReadMethod.tell_frames.Goals as goal

pub new-pass-requires-clause-frames : goal.new-pass-requires-clause-frames
new-pass-requires-clause-frames g c =
    rooms_in c.args.self.now c.entry_types-types.result c.self.inside.body.now.max_locals c.args.frames.now c.entry_types-types.ensures (ap (λ (m : ReadMethod). m.body.max_locals) c.self.view_is)
    c.requires.room

pub tell_frames-requires : goal.tell_frames-requires
tell_frames-requires g c κs =
    let env = c.requires.some.0 in
    let has = c.requires.some.1.0 in
    let typed = c.requires.some.1.1 in
    let of : IsOfPass c.new-pass.result env =
    of_pass c.args.self.now c.args.frames.now c.new-pass.result env has
    (subst (λ (m : MethodContext). IsOfMethod m env) (sym c.new-pass.ensures.context) (c.context-context.ensures.of env has.of))
    (c.new-pass.ensures.types ∙ c.entry_types-types.ensures) (c.new-pass.ensures.locals ∙ ap (λ (m : ReadMethod). m.body.max_locals) c.self.view_is)
    (c.new-pass.ensures.handlers ∙ ap (λ (m : ReadMethod). m.body.exception_table) c.self.view_is) c.new-pass.ensures.frames in
    ((refl, tt), (env, (of, with_others c.one_maps.ensures env typed.maps (maps_of c.new-pass.result) typed.frames of.maps (λ e ms. IsTypedBelow e ms c.args.end) typed.holds)))

pub returns-clause-took : goal.returns-clause-took
returns-clause-took g c =
    IfOk-weaker c.tell_frames.result _ _
    (λ stop took.
    took_so g.S.FrameSink.takes c.args.sink.now c.tell_frames.new.sink _ _
    (λ all are env has keeps.
    let of : IsOfPass c.new-pass.result env =
    of_pass c.args.self.now c.args.frames.now c.new-pass.result env has
    (subst (λ (m : MethodContext). IsOfMethod m env) (sym c.new-pass.ensures.context) (c.context-context.ensures.of env has.of))
    (c.new-pass.ensures.types ∙ c.entry_types-types.ensures) (c.new-pass.ensures.locals ∙ ap (λ (m : ReadMethod). m.body.max_locals) c.self.view_is)
    (c.new-pass.ensures.handlers ∙ ap (λ (m : ReadMethod). m.body.exception_table) c.self.view_is) c.new-pass.ensures.frames in
    with_frames c.args.self.now.class.types.world env (maps_of c.new-pass.result) has.of.class.world has.of.code has.handlers of.maps (λ e ms. AreFramed e ms 0 stop all)
    (are env of))
    took)
    c.tell_frames.ensures.took
