use Rattle.std.proofs.Common.{sym, subst, ◌∙◌}
use Rattle.jv_code.specs.Insns.{instruction_of}
use Rattle.jv_meaning_typing.specs.Rule.{effect}
use Rattle.jv_verify_types.specs.Typed.{TypeWorld}
use Rattle.jv_verify_types.specs.Numbered.{frame_of}
use Rattle.jv_verify_types.specs.Outcomes.{IsOutcome}
use Rattle.jv_verify_rules.specs.Inside.Over.{IsMethodOver}
use Rattle.jv_verify_rules.proofs.Arms.{over_class}
use Rattle.jv_verify_flow.proofs.rule.apply.Goals as goal

pub returns : goal.returns
returns c = λ env of.
    let names = c.args.context.now.class.types.names in
    let over : IsMethodOver c.args.context.now c.constants.result.now env =
    over_class c.args.context.now c.class.result.now c.constants.result.now c.class.ensures c.constants.ensures.types c.constants.ensures.pool env of in
    c.settle.ensures names env (effect env c.args.offset (instruction_of c.args.insn.now) (frame_of names c.args.frame.now)) (of.max_stack ∙ sym c.max_stack.ensures)
    (subst (λ (t : TypeWorld). IsOutcome t.names (effect env c.args.offset (instruction_of c.args.insn.now) (frame_of t.names c.args.frame.now)) c.effect.new.frame c.in_ok-outcome.outcome)
    (sym over.types) (c.in_ok-outcome.ensures env over))
