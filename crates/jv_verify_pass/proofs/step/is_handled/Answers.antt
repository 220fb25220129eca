use Rattle.std.proofs.Common.{Option, ap, subst, ◌∙◌}
use Rattle.jv_code.specs.Insns.{instruction_of}
use Rattle.jv_stackmap.specs.Types.{FrameType}
use Rattle.jv_meaning_typing.specs.Rule.{without_object}
use Rattle.jv_verify_types.specs.Typed.{typed_all}
use Rattle.jv_verify_open.proofs.Flowing.{if_ok}
use Rattle.jv_verify_pass.specs.Pass.{Pass, names_in}
use Rattle.jv_verify_pass.specs.Inside.Settled.{IsLeft}
use Rattle.jv_verify_pass.specs.Inside.Kept.{IsPass}
use Rattle.jv_verify_pass.proofs.FlowsInto.{constructed_is}
use Rattle.jv_verify_pass.proofs.step.is_handled.Goals as goal

pub returns-clause-hold : goal.returns-clause-hold
returns-clause-hold c =
    let pass = c.args.pass.now in
    let entries = c.pass.inside.initial.now in
    let count = c.pass.inside.words in
    let kept : IsPass pass entries count = subst (λ (p : Pass). IsPass p entries count) c.pass.view_is c.pass.invariant in
    let insn = instruction_of c.args.insn.now in
    let f = c.args.frame.now in
    if_ok c.hold.result (λ hold h env is.
    let left : IsLeft env insn (names_in pass) f c.object_in_locals-object.result =
    c.object_in_locals-object.ensures (names_in pass)
    ∙ ap (λ (o : Option FrameType). without_object o (typed_all (names_in pass) f.locals))
    (constructed_is pass entries count kept env is c.pass.inside.context.now insn f c.constructed_object.result
    (ap (λ (p : Pass). p.context) c.pass.view_is) c.constructed_object.ensures) in h env insn is left) c.hold.ensures.hold

pub returns-clause-seen : goal.returns-clause-seen
returns-clause-seen c =
    if_ok c.hold.result (λ hold h holds. record {
      locals = c.requires.seen.locals;
      few = c.requires.seen.few;
      words = c.hold.ensures.words ∙ c.requires.seen.words;
      known = c.hold.ensures.known;
      handled = h holds;
      stacks = c.requires.seen.stacks;
    }) c.hold.ensures.handled
