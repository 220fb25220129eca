use Rattle.std.proofs.Common.{subst, ◌∙◌}
use Rattle.jv_meaning_typing.specs.Rule.{handler_frame}
use Rattle.jv_verify_types.specs.Numbered.{frame_of}
use Rattle.jv_verify_types.specs.Typed.{typed}
use Rattle.jv_verify_pass.specs.Before.{seen_unmet}
use Rattle.jv_verify_pass.specs.Pass.{Pass, maps_of, names_in}
use Rattle.jv_verify_pass.specs.Inside.Kept.{IsPass}
use Rattle.jv_verify_pass.proofs.FlowsInto.{thrown_is}
use Rattle.jv_verify_pass.proofs.GoingOn.{begins_is, begins_none}
use Rattle.jv_verify_pass.proofs.onward.unmet_at.Goals as goal

pub returns-in_default : goal.returns-in_default
returns-in_default c = λ env insn is left.
    let pass = c.args.pass.now in
    begins_none env (maps_of pass) (handler_frame env insn (frame_of (names_in pass) c.args.frame.now)) c.args.handler (c.in_default.ensures env is)

pub unmet-requires : goal.unmet-requires
unmet-requires c = c.in_ok-begin.ensures.count ∙ c.requires

pub returns : goal.returns
returns c = λ env insn is left.
    let pass = c.args.pass.now in
    let entries = c.pass.inside.initial.now in
    let count = c.pass.inside.words in
    let kept : IsPass pass entries count = subst (λ (p : Pass). IsPass p entries count) c.pass.view_is c.pass.invariant in
    begins_is env (maps_of pass) (handler_frame env insn (frame_of (names_in pass) c.args.frame.now)) (frame_of (names_in pass) c.begin.new.frame) c.args.handler
    (typed (names_in pass) c.in-Some.thrown) c.from.result (seen_unmet c.in_ok-found.found) (c.in-Some.ensures env is)
    (c.in_ok-begin.ensures.ok (names_in pass) ∙ thrown_is pass entries count kept env is insn c.args.frame.now c.args.object c.in-Some.thrown left)
    c.from.ensures (c.in_ok-found.ensures env is)
