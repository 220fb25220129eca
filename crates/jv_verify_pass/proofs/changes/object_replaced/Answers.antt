use Rattle.std.proofs.Common.{Option, sym, ap, subst, ◌∙◌}
use Rattle.std.specs.Option.{option_map}
use Rattle.jv_code.specs.Insns.{instruction_of}
use Rattle.jv_stackmap.specs.Types.{FrameType}
use Rattle.jv_meaning_typing.specs.Rule.{constructed_object}
use Rattle.jv_verify_types.specs.Typed.{typed}
use Rattle.jv_verify_types.specs.Numbered.{frame_of}
use Rattle.jv_verify_pass.specs.Pass.{Pass, names_in}
use Rattle.jv_verify_pass.specs.Inside.Changes.{either_of}
use Rattle.jv_verify_pass.specs.Inside.Kept.{IsPass}
use Rattle.jv_verify_pass.proofs.FlowsInto.{constructed_is}
use Rattle.jv_verify_pass.proofs.changes.object_replaced.Goals as goal

pub returns-in-None : goal.returns-in-None
returns-in-None c = λ env is.
    let pass = c.args.pass.now in
    let entries = c.pass.inside.initial.now in
    let count = c.pass.inside.words in
    let kept : IsPass pass entries count = subst (λ (p : Pass). IsPass p entries count) c.pass.view_is c.pass.invariant in
    let insn = instruction_of c.args.insn.now in
    let object = constructed_object env insn (frame_of (names_in pass) c.args.frame.now) in
    constructed_is pass entries count kept env is c.pass.inside.context.now insn c.args.frame.now c.constructed_object.result (ap (λ (p : Pass). p.context) c.pass.view_is) c.constructed_object.ensures
    ∙ ap (λ (o : Option FrameType). either_of o object) (ap (option_map (typed (names_in pass))) (sym c.in-None.is) ∙ c.made_at.ensures (names_in pass))
