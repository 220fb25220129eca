use Rattle.std.proofs.Common.{rules}
use Rattle.jv_classes.proofs.class_table.ClassTable.fault_of_supers.Goals as goal

pub returns-then-not-supers_have_right_kind : goal.returns-then-not-supers_have_right_kind
returns-then-not-supers_have_right_kind c = search rules
