use Rattle.std.proofs.Common.{◌∙◌, ◌||◌, ap}
use Rattle.std.specs.List.{list_any}
use Rattle.jv_meaning_world.specs.Numbers.{classes_at}
use Rattle.jv_lookups.specs.Inside.Members.{below_in}
use Rattle.jv_lookups.proofs.superinterface.marked_specifics.Goals as goal

pub specifics-requires-clause-above : goal.specifics-requires-clause-above
specifics-requires-clause-above c = λ class less l at by at_by.
    let world = c.args.table.now in
    c.mark_above_candidates.ensures.marked class l at by at_by
    ∙ ap (λ b. b || list_any (below_in world c.args.name.now c.args.descriptor.now l by) (classes_at world c.args.searched.now)) (c.requires.above class)
