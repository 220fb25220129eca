use Rattle.std.proofs.Common.{sym, subst}
use Rattle.jv_lookups.specs.Finals.{AreUnlike}
use Rattle.jv_classes.proofs.Followed.{some_class}
use Rattle.jv_loader.proofs.Unlike.{are_unlike}
use Rattle.jv_loader.proofs.verdicts.overrides_final.Goals as goal

pub breaks_final-requires-clause-unlike : goal.breaks_final-requires-clause-unlike
breaks_final-requires-clause-unlike c =
    let world = c.args.table.now in
    let above = c.superclasses in
    let class = some_class world c.args.number c.requires.number in
    subst (λ w. AreUnlike w c.args.number above.result.now) (sym c.classes.ensures)
    (are_unlike world c.args.number class.0 above.result.now class.1 (c.requires.circular class.0 class.1) (above.ensures.found class.0 class.1))
