-- Instructions that change nothing, whatever their effect is.
use Rattle.std.proofs.Common.{refl}
use Rattle.jv_interp_held.specs.declared.effect.Effect.{Effect}
use Rattle.jv_interp_held.specs.declared.effect.Effect.TheVariants as effects
use Rattle.jv_interp_held.specs.Executing.{Place, IsUnmoved}

pub stays_unmoved : (effect : Effect) (here : Place) → IsUnmoved effect here here
stays_unmoved effects.Goes here = tt
stays_unmoved _ here = refl
