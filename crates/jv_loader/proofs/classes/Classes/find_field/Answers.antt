use Rattle.std.proofs.Common.{◌≡◌, sym, subst}
use Rattle.std.specs.Option.{option_and_then}
use Rattle.jv_meaning_world.specs.LookUps.{lookup_field}
use Rattle.jv_meaning_world.specs.Numbers.{HoldsAtNumber}
use Rattle.jv_lookups.specs.Places.{field_at}
use Rattle.jv_meaning_world.specs.Numbers.{AreNumbers}
use Rattle.jv_loader.specs.Inside.Searches.{IsSearch}
use Rattle.jv_loader.proofs.classes.Classes.find_field.Goals as goal

pub lookup_field-requires : goal.lookup_field-requires
lookup_field-requires c = subst (λ w. AreNumbers w c.searched.result.now) (sym c.table.ensures) c.searched.ensures.numbers

pub returns-clause-found : goal.returns-clause-found
returns-clause-found c =
    let search = subst (λ w. IsSearch w c.args.class c.searched.result.now) (sym c.table.ensures) c.searched.ensures in
    subst (λ w. HoldsAtNumber w c.args.class (λ l. option_and_then (field_at w) c.lookup_field.result ≡ lookup_field w l c.args.name.now c.args.descriptor.now)) c.table.ensures
    (λ l at. c.lookup_field.ensures.found l (search.found l at))
