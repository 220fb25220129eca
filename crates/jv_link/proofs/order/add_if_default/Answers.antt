use Rattle.std.proofs.Common.{◌∙◌, ap, sym}
use Rattle.jv_meaning_world.specs.Numbers.{classes_at}
use Rattle.jv_link.proofs.Defaulting.{added_default}
use Rattle.jv_link.proofs.order.add_if_default.Goals as goal

pub returns-clause-those : goal.returns-clause-those
returns-clause-those c = λ l at.
    ap (classes_at c.args.table.now) c.in_ok-push.ensures.items
    ∙ added_default c.args.table.now c.args.order.now.items c.args.interface l at (sym (c.declares_default.ensures l at) ∙ c.if-not-declares_default.false)
