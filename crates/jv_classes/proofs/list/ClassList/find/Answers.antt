use Rattle.std.proofs.Common.{◌∙◌, ap}
use Rattle.jv_meaning_world.specs.Numbers.{number_named}
use Rattle.jv_classes.proofs.Listing.{number_of_key}
use Rattle.jv_classes.proofs.list.ClassList.find.Goals as goal

pub returns : goal.returns
returns c =
    c.get_index_of.ensures.index
    ∙ (number_of_key c.self.inside.names.keys c.self.inside.classes.items c.self.invariant.0 c.args.name.now
    ∙ ap (λ w. number_named w c.args.name.now) c.self.view_is)
