use Rattle.std.proofs.Common.{sym, subst}
use Rattle.jv_meaning_world.specs.Laws.Above.{SystemStandsAlone}
use Rattle.jv_classes.proofs.class_table.ClassTable.of.Goals as goal

pub all_loadable-requires-clause-alone : goal.all_loadable-requires-clause-alone
all_loadable-requires-clause-alone c = subst SystemStandsAlone (sym c.classes-classes.ensures) c.requires
