use Rattle.std.proofs.Common.{rules}
use Rattle.jv_classes.proofs.supers.stands_itself.Goals as goal

pub returns-then-have_right_kind : goal.returns-then-have_right_kind
returns-then-have_right_kind c = search rules

pub returns-else-have_right_kind : goal.returns-else-have_right_kind
returns-else-have_right_kind c = search rules
