use Rattle.jv_class.proofs.ShownOf.{members_shown, members_keep_rules}
use Rattle.jv_class.proofs.class_file.members_keep_rules.Goals as goal

pub returns : goal.returns
returns c = (
  λ on. members_keep_rules c.args.parts.now (c.shown_keep_rules.ensures.0 on),
  λ right. c.shown_keep_rules.ensures.1 (members_shown c.args.parts.now right),
)
