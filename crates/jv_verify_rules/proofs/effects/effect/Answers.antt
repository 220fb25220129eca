use Rattle.std.proofs.Common.{subst}
use Rattle.jv_code.specs.declared.kinds.ValueKind.{ValueKind}
use Rattle.jv_meaning_typing.specs.ValueRules.{store}
use Rattle.jv_verify_types.specs.Numbered.{frame_of}
use Rattle.jv_verify_types.specs.Outcomes.{IsOutcome}
use Rattle.jv_verify_rules.proofs.Arms.{at_insn}
use Rattle.jv_verify_rules.proofs.effects.effect.Goals as goal

pub returns-in-Load : goal.returns-in-Load
returns-in-Load c = λ env of.
    let names = c.args.constants.now.types.names in
    at_insn names env c.args.offset (frame_of names c.args.frame.now) c.args.frame.now c.load.result c.in-Load.is
    (c.load.ensures names)

pub returns-in-Store : goal.returns-in-Store
returns-in-Store c = λ env of.
    let names = c.args.constants.now.types.names in
    at_insn names env c.args.offset (frame_of names c.args.frame.now) c.store.new.frame c.store.result c.in-Store.is
    (subst (λ (k : ValueKind). IsOutcome names (store k c.in-Store.index (frame_of names c.args.frame.now)) c.store.new.frame c.store.result) c.value_kind.ensures (c.store.ensures names))
