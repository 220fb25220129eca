use Rattle.std.proofs.Common.{◌≡◌, sym, subst}
use Rattle.std.specs.Option.{option_map}
use Rattle.jv_verify_types.specs.Typed.{typed_field}
use Rattle.jv_verify_types.specs.PoolTypes.{PoolTypes, named_type_at}
use Rattle.jv_verify_types.specs.Inside.KeptTexts.{AreKept}
use Rattle.jv_verify_types.proofs.constants.ConstantTypes.named_type.Goals as goal

pub returns : goal.returns
returns c =
    let inside = c.self.inside in
    subst (λ (t : PoolTypes). option_map (typed_field t.types.names) c.named_in.result ≡ named_type_at t.pool c.args.index) c.self.view_is
    (c.named_in.ensures inside.names.names inside.table.arguments.items
    (subst (AreKept inside.names.names inside.table.arguments.items inside.constants.now) (sym c.deref.ensures.value) c.self.invariant.kept))
