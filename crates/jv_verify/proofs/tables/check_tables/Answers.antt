use Rattle.std.proofs.Common.{◌≡◌, Bool, true, false, sym, ◌∙◌}
use Rattle.jv_meaning_typing.specs.declared.verdict.VerifyRule.TheVariants as rules
use Rattle.jv_verify.proofs.Judging.{breaks_handlers, judged_at_start}
use Rattle.jv_verify.proofs.tables.check_tables.Goals as goal

pub check_frames-requires-clause-some : goal.check_frames-requires-clause-some
check_frames-requires-clause-some c =
    let env = c.requires.0 in
    let of = c.requires.1 in (env, (of, (c.handlers_keep_rules.ensures env of).0 c.if-handlers_keep_rules.true))

pub returns-then-handlers_keep_rules : goal.returns-then-handlers_keep_rules
returns-then-handlers_keep_rules c = λ env of. c.check_frames.ensures env of ((c.handlers_keep_rules.ensures env of).0 c.if-handlers_keep_rules.true)

pub returns : goal.returns
returns c = λ env of.
    let world = c.args.method.now.class.types.world in
    judged_at_start world env.site c.broken.result rules.HandlerTable c.broken.ensures.offset c.broken.ensures.rule
    (breaks_handlers world env of.class.world of.code (λ right. not_both c.handlers_keep_rules.result ((c.handlers_keep_rules.ensures env of).1 right) c.if-handlers_keep_rules.false))
  where
    not_both : (b : Bool) → b ≡ true → b ≡ false → ⊥
    not_both b on off = cc (sym on ∙ off)
