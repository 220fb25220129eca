use Rattle.std.proofs.Common.{◌≡◌, ◌∙◌, Some, None, ap, subst}
use Rattle.jv_meaning_world.specs.World.{World}
use Rattle.jv_meaning_world.specs.Numbers.{number_named}
use Rattle.jv_meaning_world.specs.Numbers.{HoldsAtNumber}
use Rattle.jv_verify_types.specs.Typed.{TypeWorld, name_at}
use Rattle.jv_verify_types.specs.Current.{CurrentClass}
use Rattle.jv_verify_types.proofs.KeepingClass.{interface_at, no_interface}
use Rattle.jv_verify_types.proofs.current_class.CurrentClass.is_interface.Goals as goal

pub returns-in-Some : goal.returns-in-Some
returns-in-Some c = λ env of.
    let types : TypeWorld = c.args.self.now.types in
    let k = c.in-Some.number in
    let same : c.names-names.result.now ≡ types = c.names-names.ensures ∙ ap (λ (v : CurrentClass). v.types) c.self.view_is in
    let world : c.table.result.now ≡ types.world = c.table.ensures ∙ ap (λ (t : TypeWorld). t.world) same in
    interface_at env types.world (name_at types.names c.args.name) k c.class_at.result.now c.is_interface.result of.world
    (subst (λ (t : TypeWorld). Some k ≡ number_named t.world (name_at t.names c.args.name)) same c.in-Some.ensures.number)
    (subst (λ (w : World). HoldsAtNumber w k (λ l. c.class_at.result.now ≡ l)) world c.class_at.ensures) c.is_interface.ensures

pub returns-in-None : goal.returns-in-None
returns-in-None c = λ env of.
    let types : TypeWorld = c.args.self.now.types in
    let same : c.names-names.result.now ≡ types = c.names-names.ensures ∙ ap (λ (v : CurrentClass). v.types) c.self.view_is in
    no_interface env types.world (name_at types.names c.args.name) of.world (subst (λ (t : TypeWorld). None ≡ number_named t.world (name_at t.names c.args.name)) same c.in-None.ensures.number)
