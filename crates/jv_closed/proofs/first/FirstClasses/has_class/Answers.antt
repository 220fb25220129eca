use Rattle.std.proofs.Common.{sym, ◌∙◌, ap}
use Rattle.jv_meaning_library.specs.Closed.{is_there}
use Rattle.jv_closed.proofs.Among.{is_first, is_none}
use Rattle.jv_closed.proofs.first.FirstClasses.has_class.Goals as goal

pub returns-in-Some : goal.returns-in-Some
returns-in-Some c =
    is_first c.self.inside.table.now c.self.inside.count c.in-Some.number c.args.name.now (sym c.find.ensures ∙ c.in-Some.is)
    ∙ ap (λ w. is_there w c.args.name.now) c.self.view_is

pub returns-in-None : goal.returns-in-None
returns-in-None c =
    is_none c.self.inside.table.now c.self.inside.count c.args.name.now (sym c.find.ensures ∙ c.in-None.is)
    ∙ ap (λ w. is_there w c.args.name.now) c.self.view_is
