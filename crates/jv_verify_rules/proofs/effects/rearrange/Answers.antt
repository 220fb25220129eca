use Rattle.std.proofs.Common.{subst}
use Rattle.jv_meaning_typing.specs.ValueRules.{move_words}
use Rattle.jv_verify_types.specs.Numbered.{frame_of}
use Rattle.jv_verify_types.specs.Outcomes.{IsFrame}
use Rattle.jv_verify_rules.proofs.effects.rearrange.Goals as goal

pub returns-then-branch : goal.returns-then-branch
returns-then-branch c = λ names.
    subst (λ b. IsFrame names (move_words c.args.form (frame_of names c.args.frame.now)) c.move_words.new.frame b) c.if-branch.true (c.in_ok-move_words.ensures names)

pub returns-else-branch : goal.returns-else-branch
returns-else-branch c = λ names.
    subst (λ b. IsFrame names (move_words c.args.form (frame_of names c.args.frame.now)) c.move_words.new.frame b) c.if-branch.false (c.in_ok-move_words.ensures names)
