use Rattle.std.proofs.Common.{◌≡◌, codes, ap, subst}
use Rattle.std.proofs.lemmas.Option.{get_or_from_slice_get}
use Rattle.jv_stackmap.specs.declared.verification.VerificationTypeOf.TheVariants as types
use Rattle.jv_meaning_typing.specs.Named.{string_type}
use Rattle.jv_verify_types.specs.Typed.{typed}
use Rattle.jv_verify_types.specs.PoolTypes.{PoolTypes}
use Rattle.jv_verify_types.proofs.constants.ConstantTypes.string.Goals as goal

pub returns : goal.returns
returns c =
    subst (λ (t : PoolTypes). typed t.types.names (types.Class c.self.inside.string) ≡ string_type) c.self.view_is
    (ap (λ text. types.Class text) (get_or_from_slice_get c.self.inside.names.names c.self.inside.string (codes "java/lang/String") (codes "java/lang/Object") c.self.invariant.string_at))
