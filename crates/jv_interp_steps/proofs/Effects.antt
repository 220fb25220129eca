-- Effects that ask for nothing but to go on.
use Rattle.std.proofs.Common.{◌≡◌, true, false, refl}
use Rattle.jv_interp_held.specs.declared.effect.Effect.{Effect}
use Rattle.jv_interp_held.specs.declared.effect.Effect.TheVariants as effects
use Rattle.jv_interp_held.specs.Executing.{Place, IsUnmoved}
use Rattle.jv_interp_steps.specs.Inside.Going.{is_going}

pub it_goes : (effect : Effect) → is_going effect ≡ true → effect ≡ effects.Goes
it_goes effects.Goes e = refl
it_goes (effects.Enters number words) e = cc
it_goes (effects.Leaves words) e = cc
it_goes (effects.Throws address) e = cc
it_goes (effects.Raises number) e = cc
it_goes (effects.Begins number) e = cc

-- an instruction with another effect has changed nothing
pub not_going : (effect : Effect) (before after : Place) → is_going effect ≡ false → IsUnmoved effect before after → after ≡ before
not_going effects.Goes before after e u = cc
not_going (effects.Enters number words) before after e u = u
not_going (effects.Leaves words) before after e u = u
not_going (effects.Throws address) before after e u = u
not_going (effects.Raises number) before after e u = u
not_going (effects.Begins number) before after e u = u
