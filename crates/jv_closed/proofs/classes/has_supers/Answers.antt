use Rattle.std.proofs.Common.{◌∙◌}
use Rattle.jv_meaning_world.specs.Above.{superclass_names}
use Rattle.jv_meaning_library.specs.Closed.{is_there}
use Rattle.jv_closed.proofs.There.{one_more_name}
use Rattle.jv_closed.proofs.classes.has_supers.Goals as goal

pub loop-k-preserved : goal.loop-k-preserved
loop-k-preserved c =
    c.both-all.ensures
    ∙ one_more_name (is_there c.args.table.now) (superclass_names c.args.class.now.class.super_class) c.args.class.now.class.interfaces c.loop-k.k c.interface_name.result.now
    c.loop-k.all c.has_class-is_there.result c.interface_name.ensures c.loop-k.invariant c.has_class-is_there.ensures
