use Rattle.std.proofs.Common.{◌∙◌, ap, sym, Some}
use Rattle.jv_meaning_world.specs.World.{can_name}
use Rattle.std.specs.Option.{ok_or}
use Rattle.jv_classes.proofs.Told.{stands_at}
use Rattle.jv_lookups.proofs.Chain.{not_named}
use Rattle.jv_meaning_typing.specs.LinkErrors.{◌>>=◌, provided, unless_wrong}
use Rattle.jv_meaning_typing.specs.LinkErrors.LinkError.{NoClassDefFoundError, IllegalAccessError}
use Rattle.jv_meaning_typing.specs.ClassResolution.{error_of_class}
use Rattle.jv_link.proofs.class.resolve_name.Goals as goal

pub returns-in_default-clause-found : goal.returns-in_default-clause-found
returns-in_default-clause-found c = λ cur at.
    ap (λ o. Some (ok_or o NoClassDefFoundError >>= (λ l. unless_wrong (error_of_class c.args.table.now l) l) >>= (λ l. provided (can_name cur l) IllegalAccessError l)))
    (sym (not_named c.args.table.now c.args.name.now (sym c.find.ensures ∙ c.in_default.is)))

pub returns-clause-found : goal.returns-clause-found
returns-clause-found c = λ cur at.
    let there = stands_at c.args.table.now c.args.name.now c.in-Some.number (sym c.find.ensures ∙ c.in-Some.is) in
    c.if_open.ensures.found cur at there.0 there.1
    ∙ ap (λ o. Some (ok_or o NoClassDefFoundError >>= (λ l. unless_wrong (error_of_class c.args.table.now l) l) >>= (λ l. provided (can_name cur l) IllegalAccessError l))) (sym there.2)
