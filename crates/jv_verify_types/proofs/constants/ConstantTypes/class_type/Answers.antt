use Rattle.std.proofs.Common.{◌≡◌, ◌∙◌, None, get_or, ap, subst}
use Rattle.std.specs.Option.{option_map}
use Rattle.jv_verify_types.specs.Typed.{typed}
use Rattle.jv_verify_types.specs.PoolTypes.{PoolTypes, class_type_at}
use Rattle.jv_verify_types.proofs.constants.ConstantTypes.class_type.Goals as goal

pub returns : goal.returns
returns c =
    let inside = c.self.inside in
    subst (λ (t : PoolTypes). option_map (typed t.types.names) c.item_at.result ≡ class_type_at t.pool c.args.index) c.self.view_is
    (ap (option_map (typed inside.names.names)) (c.item_at.ensures ∙ ap (λ l. get_or l c.args.index None) c.deref.ensures.value)
    ∙ c.self.invariant.items_are c.args.index)
