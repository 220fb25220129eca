use Rattle.std.proofs.Common.{◌∙◌, true}
use Rattle.jv_classes.proofs.Tests.{each_super_at}
use Rattle.jv_classes.proofs.supers.are_all_there.Goals as goal

pub returns : goal.returns
returns c = c.are_there.ensures ∙ each_super_at c.args.classes.now (λ l. true) c.args.class.now.class c.args.supers.now c.requires
