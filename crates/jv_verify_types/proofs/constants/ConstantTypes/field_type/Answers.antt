use Rattle.std.proofs.Common.{◌≡◌, ◌∙◌, ap, subst}
use Rattle.std.specs.Option.{option_map}
use Rattle.jv_verify_types.specs.Typed.{typed_field}
use Rattle.jv_verify_types.specs.PoolTypes.{PoolTypes, field_type_at}
use Rattle.jv_verify_types.specs.Inside.KeptTexts.{field_in}
use Rattle.jv_verify_types.proofs.Finding.{field_found}
use Rattle.jv_verify_types.proofs.constants.ConstantTypes.field_type.Goals as goal

pub returns : goal.returns
returns c =
    subst (λ (t : PoolTypes). option_map (typed_field t.types.names) c.field.result ≡ field_type_at t.pool c.args.index) c.self.view_is
    (field_found c.args.index c.deref.result.now c.field.result c.self.invariant.kept c.deref.ensures.value (c.field.ensures ∙ ap (λ e. field_in e.described) c.kept_at.ensures))
