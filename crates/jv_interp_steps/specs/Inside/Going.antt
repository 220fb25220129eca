-- What steps are that only go on (own).
use Rattle.std.specs.Prelude.{Bool, true, false}
use Rattle.jv_interp_held.specs.declared.effect.Effect.{Effect}
use Rattle.jv_interp_held.specs.declared.effect.Effect.TheVariants as effects

-- whether an effect asks for nothing but that the next instruction is executed
abbrev pub is_going : Effect → Bool
is_going effects.Goes = true
is_going _ = false
