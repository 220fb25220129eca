use Rattle.std.proofs.Common.{◌∙◌}
use Rattle.jv_meaning_world.specs.World.{can_name}
use Rattle.jv_classes.proofs.Tests.{each_super_at}
use Rattle.jv_classes.proofs.supers.can_name_supers.Goals as goal

pub returns : goal.returns
returns c = c.can_name_each.ensures ∙ each_super_at c.args.classes.now (can_name c.args.class.now) c.args.class.now.class c.args.supers.now c.requires
