-- The state of a class that changes (JVMS 5.5).
use Rattle.std.specs.Prelude.{◌≡◌, ℕ, ◌∷◌, Bool, List, Some, slice_get}
use Rattle.jv_meaning_world.specs.World.{Loaded, World}
use Rattle.jv_meaning_machine.specs.State.{ClassState as StateOfNames, ClassStates}
use Rattle.jv_interp_held.specs.declared.class_state.ClassState.{ClassState}
use Rattle.jv_interp_held.specs.ClassStates.{kept_state, AreClassStates}

-- it is that of the class with a number, which is of the system or not
abbrev pub IsSet : World → ℕ → Bool → ClassState → List ClassState → List ClassState → Type 0
IsSet world class by_system state before after =
    (l : Loaded) (states : ClassStates) (new : StateOfNames) → slice_get world class ≡ Some l → l.by_system ≡ by_system
    → kept_state new ≡ state → AreClassStates world states before → AreClassStates world ((l.class.name, new) ∷ states) after
