use Rattle.std.proofs.Common.{refl}
use Rattle.jv_lookups.proofs.Stamped.{marked_more}
use Rattle.jv_lookups.proofs.marks.Marks.mark.Goals as goal

pub returns : goal.returns
returns c = marked_more c.self.inside.stamp c.self.inside.stamps.items _ c.args.self.now c.args.number c.self.view_is refl
