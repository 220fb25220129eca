-- What is done above a method that waits, as its effect says (JVMS 2.6, 2.10, 5.5).
use Rattle.std.specs.Prelude.{ℕ, ◌-◌, ◌≤◌, Bool, ⊤, List}
use Rattle.jv_meaning_machine.specs.State.{Program, State}
use Rattle.jv_interp_held.specs.declared.effect.Effect.{Effect}
use Rattle.jv_interp_held.specs.declared.effect.Effect.TheVariants as effects
use Rattle.jv_interp_control.specs.declared.frames.Frames.{Frames}
use Rattle.jv_interp_control.specs.Moves.{Throwing, Raising, Beginning, Entering}

-- an effect for which the method waits
abbrev pub IsAbove : Effect → Type 0
IsAbove effects.Goes = ⊥
IsAbove (effects.Leaves words) = ⊥
IsAbove _ = ⊤

-- what is passed to a method that is entered is within the words in use, and how many these are without it
abbrev pub IsWithin : Effect → ℕ → Type 0
IsWithin (effects.Enters number words) top = words ≤ top
IsWithin _ top = ⊤

abbrev pub top_without : Effect → ℕ → ℕ
top_without (effects.Enters number words) top = top - words
top_without _ top = top

-- what the machine then does above it
abbrev pub Doing : Effect → List Bool → Frames → Program → List ℕ → State → State → Type 0
Doing (effects.Enters number words) verified frames = Entering number frames
Doing (effects.Throws address) verified frames = Throwing address
Doing (effects.Raises number) verified frames = Raising number
Doing (effects.Begins number) verified frames = Beginning number verified
Doing _ verified frames = λ program addresses s t. ⊥
