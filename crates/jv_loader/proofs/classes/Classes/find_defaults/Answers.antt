use Rattle.std.proofs.Common.{sym, subst}
use Rattle.jv_meaning_world.specs.Numbers.{HoldsAtNumber}
use Rattle.jv_lookups.specs.Defaults.{defaults, AreDefaults}
use Rattle.jv_meaning_world.specs.Numbers.{AreNumbers}
use Rattle.jv_loader.specs.Inside.Searches.{IsSearch}
use Rattle.jv_loader.proofs.classes.Classes.find_defaults.Goals as goal

pub superinterface_defaults-requires-clause-searched : goal.superinterface_defaults-requires-clause-searched
superinterface_defaults-requires-clause-searched c = subst (λ w. AreNumbers w c.searched.result.now) (sym c.table.ensures) c.searched.ensures.numbers

pub returns-clause-found : goal.returns-clause-found
returns-clause-found c =
    let search = subst (λ w. IsSearch w c.args.class c.searched.result.now) (sym c.table.ensures) c.searched.ensures in
    subst (λ w. HoldsAtNumber w c.args.class (λ l. AreDefaults w c.superinterface_defaults.result (defaults w l c.args.name.now c.args.descriptor.now))) c.table.ensures
    (λ l at. c.superinterface_defaults.ensures.found l at (search.found l at))
