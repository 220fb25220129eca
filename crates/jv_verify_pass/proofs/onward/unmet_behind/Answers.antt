use Rattle.std.proofs.Common.{◌≡◌, Option, Some, refl, ap, subst, ◌∙◌}
use Rattle.std.specs.Option.{option_map}
use Rattle.jv_stackmap.specs.Types.{FrameType}
use Rattle.jv_code.specs.Insns.{instruction_of}
use Rattle.jv_meaning_typing.specs.Rule.{handler_frame, rule, without_object}
use Rattle.jv_verify_types.specs.Numbered.{frame_of}
use Rattle.jv_verify_types.specs.Typed.{typed_all}
use Rattle.jv_verify_pass.specs.Before.{seen_unmet}
use Rattle.jv_verify_pass.specs.Onward.{begins_unmet, first_unhandled, left_unmet, unmet_behind}
use Rattle.jv_verify_pass.specs.Pass.{Pass, maps_of, names_in}
use Rattle.jv_verify_pass.specs.Inside.Kept.{IsPass}
use Rattle.jv_verify_pass.specs.Inside.Settled.{IsLeft}
use Rattle.jv_verify_pass.proofs.FlowsInto.{applied, as_many, constructed_is, is_left, is_none_left}
use Rattle.jv_verify_pass.proofs.GoingOn.{at_handler, at_none, at_target, if_ok_so}
use Rattle.jv_verify_pass.proofs.onward.unmet_behind.Goals as goal

pub returns-in-Some : goal.returns-in-Some
returns-in-Some c = λ env is.
    let pass = c.args.pass.now in
    let entries = c.pass.inside.initial.now in
    let count = c.pass.inside.words in
    let kept : IsPass pass entries count = subst (λ (p : Pass). IsPass p entries count) c.pass.view_is c.pass.invariant in
    let insn = instruction_of c.args.insn.now in
    let f = c.args.frame.now in
    let left : IsLeft env insn (names_in pass) f c.constructed_object-object.result =
    ap (λ (o : Option FrameType). without_object o (typed_all (names_in pass) f.locals))
    (constructed_is pass entries count kept env is c.pass.inside.context.now insn f c.constructed_object-object.result
    (ap (λ (p : Pass). p.context) c.pass.view_is) c.constructed_object-object.ensures) in
    if_ok_so c.unmet_at.result (λ found. option_map seen_unmet found ≡ begins_unmet env (maps_of pass) (handler_frame env insn (frame_of (names_in pass) f)) c.in-Some.handler)
    (λ found. option_map seen_unmet found ≡ unmet_behind env (maps_of pass) c.args.offset insn (frame_of (names_in pass) f))
    (λ found h. at_handler env (maps_of pass) c.args.offset insn (frame_of (names_in pass) f) (option_map seen_unmet found) c.in-Some.handler
    (first_unhandled env (maps_of pass) c.args.offset insn (frame_of (names_in pass) f)) (c.in-Some.ensures env insn is left) h) (c.unmet_at.ensures env insn is left)

pub returns-then-not-branch : goal.returns-then-not-branch
returns-then-not-branch c = λ env is.
    let pass = c.args.pass.now in
    let entries = c.pass.inside.initial.now in
    let count = c.pass.inside.words in
    let kept : IsPass pass entries count = subst (λ (p : Pass). IsPass p entries count) c.pass.view_is c.pass.invariant in
    let insn = instruction_of c.args.insn.now in
    let f = c.args.frame.now in
    let left : IsLeft env insn (names_in pass) f c.constructed_object-object.result =
    ap (λ (o : Option FrameType). without_object o (typed_all (names_in pass) f.locals))
    (constructed_is pass entries count kept env is c.pass.inside.context.now insn f c.constructed_object-object.result
    (ap (λ (p : Pass). p.context) c.pass.view_is) c.constructed_object-object.ensures) in
    at_none env (maps_of pass) c.args.offset insn (frame_of (names_in pass) f) (first_unhandled env (maps_of pass) c.args.offset insn (frame_of (names_in pass) f))
    (c.in_default.ensures env insn is left)
    (is_none_left (names_in pass) _ c.apply.new.frame _ c.if-not-branch.true
    (applied pass entries count kept env is c.pass.inside.context.now insn f c.apply.new.frame _ c.args.offset _ (ap (λ (p : Pass). p.context) c.pass.view_is) refl c.in_ok-apply.ensures))

pub unmet_left-requires : goal.unmet_left-requires
unmet_left-requires c =
    let pass = c.args.pass.now in
    let entries = c.pass.inside.initial.now in
    let count = c.pass.inside.words in
    let kept : IsPass pass entries count = subst (λ (p : Pass). IsPass p entries count) c.pass.view_is c.pass.invariant in
    let env = c.requires.method.0 in
    let is = c.requires.method.1 in
    let insn = instruction_of c.args.insn.now in
    let f = c.args.frame.now in
    let leaves : rule env c.args.offset insn (frame_of (names_in pass) f) ≡ Some (frame_of (names_in pass) c.apply.new.frame) =
    is_left (names_in pass) _ c.apply.new.frame _ c.if-not-branch.false
    (applied pass entries count kept env is c.pass.inside.context.now insn f c.apply.new.frame _ c.args.offset _ (ap (λ (p : Pass). p.context) c.pass.view_is) refl c.in_ok-apply.ensures) in
    as_many c.keeps_local_count.ensures env c.args.offset insn (names_in pass) f c.apply.new.frame leaves ∙ c.requires.locals

pub returns : goal.returns
returns c = λ env is.
    let pass = c.args.pass.now in
    let entries = c.pass.inside.initial.now in
    let count = c.pass.inside.words in
    let kept : IsPass pass entries count = subst (λ (p : Pass). IsPass p entries count) c.pass.view_is c.pass.invariant in
    let insn = instruction_of c.args.insn.now in
    let f = c.args.frame.now in
    let left : IsLeft env insn (names_in pass) f c.constructed_object-object.result =
    ap (λ (o : Option FrameType). without_object o (typed_all (names_in pass) f.locals))
    (constructed_is pass entries count kept env is c.pass.inside.context.now insn f c.constructed_object-object.result
    (ap (λ (p : Pass). p.context) c.pass.view_is) c.constructed_object-object.ensures) in
    let leaves : rule env c.args.offset insn (frame_of (names_in pass) f) ≡ Some (frame_of (names_in pass) c.apply.new.frame) =
    is_left (names_in pass) _ c.apply.new.frame _ c.if-not-branch.false
    (applied pass entries count kept env is c.pass.inside.context.now insn f c.apply.new.frame _ c.args.offset _ (ap (λ (p : Pass). p.context) c.pass.view_is) refl c.in_ok-apply.ensures) in
    if_ok_so c.unmet_left.result (λ found. option_map seen_unmet found ≡ left_unmet env (maps_of pass) c.args.offset insn (frame_of (names_in pass) c.apply.new.frame))
    (λ found. option_map seen_unmet found ≡ unmet_behind env (maps_of pass) c.args.offset insn (frame_of (names_in pass) f))
    (λ found h. at_target env (maps_of pass) c.args.offset insn (frame_of (names_in pass) f) (option_map seen_unmet found) (frame_of (names_in pass) c.apply.new.frame)
    (first_unhandled env (maps_of pass) c.args.offset insn (frame_of (names_in pass) f)) (c.in_default.ensures env insn is left) leaves h) (c.unmet_left.ensures env is)
