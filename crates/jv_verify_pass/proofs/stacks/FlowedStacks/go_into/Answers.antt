use Rattle.std.proofs.Common.{◌≡◌, Some, ap, sym, subst, ◌∙◌}
use Rattle.std.specs.Option.{option_map}
use Rattle.jv_code.specs.Insns.{instruction_of}
use Rattle.jv_meaning_typing.specs.Rule.{constructed_object}
use Rattle.jv_verify_types.specs.Typed.{typed}
use Rattle.jv_verify_types.specs.Numbered.{frame_of}
use Rattle.jv_verify_pass.specs.Pass.{Pass, names_in}
use Rattle.jv_verify_pass.specs.Inside.Kept.{IsPass}
use Rattle.jv_verify_pass.proofs.FlowingStacks.{all_without, below_flowed, below_without}
use Rattle.jv_verify_pass.proofs.FlowsInto.{constructed_is}
use Rattle.jv_verify_pass.proofs.stacks.FlowedStacks.go_into.Goals as goal

pub returns-in-Some-clause-stacks : goal.returns-in-Some-clause-stacks
returns-in-Some-clause-stacks c =
    below_flowed c.args.pass.now c.in-Some.object c.args.self.now.stacks.items c.go_below.new.self.stacks.items c.args.frame.now c.go_below.ensures c.requires

pub returns-in-Some-clause-object : goal.returns-in-Some-clause-object
returns-in-Some-clause-object c = λ env is.
    let pass = c.args.pass.now in
    let entries = c.pass.inside.initial.now in
    let count = c.pass.inside.words in
    let kept : IsPass pass entries count = subst (λ (p : Pass). IsPass p entries count) c.pass.view_is c.pass.invariant in
    let object : constructed_object env (instruction_of c.args.insn.now) (frame_of (names_in pass) c.args.frame.now) ≡ Some (typed (names_in pass) c.in-Some.object) =
    sym (constructed_is pass entries count kept env is c.pass.inside.context.now (instruction_of c.args.insn.now) c.args.frame.now c.constructed_object.result
    (ap (λ (p : Pass). p.context) c.pass.view_is) c.constructed_object.ensures) ∙ ap (option_map (typed (names_in pass))) c.in-Some.is in
    below_without pass c.in-Some.object (constructed_object env (instruction_of c.args.insn.now) (frame_of (names_in pass) c.args.frame.now))
    c.args.self.now.stacks.items c.go_below.new.self.stacks.items c.args.frame.now object c.go_below.ensures c.requires

pub returns-in-None-clause-object : goal.returns-in-None-clause-object
returns-in-None-clause-object c = λ env is.
    let pass = c.args.pass.now in
    let entries = c.pass.inside.initial.now in
    let count = c.pass.inside.words in
    let kept : IsPass pass entries count = subst (λ (p : Pass). IsPass p entries count) c.pass.view_is c.pass.invariant in
    all_without pass c.args.self.now.stacks.items (constructed_object env (instruction_of c.args.insn.now) (frame_of (names_in pass) c.args.frame.now))
    (sym (constructed_is pass entries count kept env is c.pass.inside.context.now (instruction_of c.args.insn.now) c.args.frame.now c.constructed_object.result
    (ap (λ (p : Pass). p.context) c.pass.view_is) c.constructed_object.ensures) ∙ ap (option_map (typed (names_in pass))) c.in-None.is)
