use Rattle.std.proofs.Common.{◌∙◌, sym}
use Rattle.jv_verify_frame.proofs.Storing.{set_before, same_before}
use Rattle.std.proofs.Common.{◌-◌}
use Rattle.jv_verify_frame.proofs.KeptTops.{set_top}
use Rattle.jv_verify_frame.proofs.Noting.{top_set}
use Rattle.jv_verify_frame.proofs.locals.cut_before.Goals as goal

pub returns-then-is_long-clause-cut : goal.returns-then-is_long-clause-cut
returns-then-is_long-clause-cut c = set_before c.args.index c.args.locals.now _ c.if-index-eq0.false c.requires (sym c.is_long.ensures ∙ c.if-is_long.true)

pub returns-else-is_long-clause-cut : goal.returns-else-is_long-clause-cut
returns-else-is_long-clause-cut c = same_before c.args.index c.args.locals.now _ c.if-index-eq0.false c.requires (sym c.is_long.ensures ∙ c.if-is_long.false)

pub returns-then-is_long-clause-tops : goal.returns-then-is_long-clause-tops
returns-then-is_long-clause-tops c = λ used h. set_top used c.args.locals.now (c.args.index - 1) h

pub returns-then-is_long-clause-objects : goal.returns-then-is_long-clause-objects
returns-then-is_long-clause-objects c = top_set c.args.locals.now (c.args.index - 1)
