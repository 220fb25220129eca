use Rattle.std.proofs.Common.{sym, ap, subst, ◌∙◌}
use Rattle.jv_verify_rules.specs.Method.{MethodContext, IsOfMethod}
use Rattle.jv_verify_pass.specs.Before.{IsTypedTo}
use Rattle.jv_verify_pass.specs.Pass.{IsOfPass, maps_of}
use Rattle.jv_verify.specs.Inside.Read.{ReadMethod}
use Rattle.jv_verify.proofs.Parts.{of_pass, rooms_in}
use Rattle.jv_verify.proofs.StandingBefore.{stand, with_others}
use Rattle.jv_verify.proofs.read.ReadMethod.frames_before.Goals as goal

pub new-pass-requires-clause-frames : goal.new-pass-requires-clause-frames
new-pass-requires-clause-frames c =
    rooms_in c.args.self.now c.entry_types-types.result c.self.inside.body.now.max_locals c.args.frames.now c.entry_types-types.ensures (ap (λ (m : ReadMethod). m.body.max_locals) c.self.view_is)
    c.requires.room

pub frames_before-requires : goal.frames_before-requires
frames_before-requires c =
    let env = c.requires.some.0 in
    let has = c.requires.some.1.0 in
    let typed = c.requires.some.1.1 in
    let of : IsOfPass c.new-pass.result env =
    of_pass c.args.self.now c.args.frames.now c.new-pass.result env has
    (subst (λ (m : MethodContext). IsOfMethod m env) (sym c.new-pass.ensures.context) (c.context-context.ensures.of env has.of))
    (c.new-pass.ensures.types ∙ c.entry_types-types.ensures) (c.new-pass.ensures.locals ∙ ap (λ (m : ReadMethod). m.body.max_locals) c.self.view_is)
    (c.new-pass.ensures.handlers ∙ ap (λ (m : ReadMethod). m.body.exception_table) c.self.view_is) c.new-pass.ensures.frames in
    (env, (of, with_others c.one_maps.ensures env typed.maps (maps_of c.new-pass.result) typed.frames of.maps (λ e ms. IsTypedTo e ms c.args.offset) typed.holds))

pub returns : goal.returns
returns c = λ env has typed.
    let of : IsOfPass c.new-pass.result env =
    of_pass c.args.self.now c.args.frames.now c.new-pass.result env has
    (subst (λ (m : MethodContext). IsOfMethod m env) (sym c.new-pass.ensures.context) (c.context-context.ensures.of env has.of))
    (c.new-pass.ensures.types ∙ c.entry_types-types.ensures) (c.new-pass.ensures.locals ∙ ap (λ (m : ReadMethod). m.body.max_locals) c.self.view_is)
    (c.new-pass.ensures.handlers ∙ ap (λ (m : ReadMethod). m.body.exception_table) c.self.view_is) c.new-pass.ensures.frames in
    stand c.args.self.now.class.types.world env (maps_of c.new-pass.result) has.of.class.world has.of.code has.handlers of.maps c.args.offset c.frames_before.result
    (c.frames_before.ensures env of)
