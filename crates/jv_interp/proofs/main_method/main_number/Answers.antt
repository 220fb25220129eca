use Rattle.std.proofs.Common.{◌∙◌}
use Rattle.jv_interp.proofs.main_method.main_number.Goals as goal

pub returns : goal.returns
returns c = c.number_of.ensures c.args.classes.now.world c.requires c.main_place.ensures.place ∙ c.main_place.ensures.found
