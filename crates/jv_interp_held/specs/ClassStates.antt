-- How the states of a guest's classes are kept (JVMS 5.5): each at its class's number.
use Rattle.std.specs.Prelude.{◌≡◌, ℕ, List, Some, slice_get}
use Rattle.jv_meaning_world.specs.World.{Loaded, World}
use Rattle.jv_meaning_machine.specs.State.{ClassState as StateOfNames, ClassStates, class_state}
use Rattle.jv_meaning_machine.specs.State.ClassState.{Untouched, Begun, Initialized, Erroneous}
use Rattle.jv_interp_held.specs.declared.class_state.ClassState.{ClassState}
use Rattle.jv_interp_held.specs.declared.class_state.ClassState.TheVariants as kept

abbrev pub kept_state : StateOfNames → ClassState
kept_state Untouched = kept.Untouched
kept_state Begun = kept.Begun
kept_state Initialized = kept.Initialized
kept_state Erroneous = kept.Erroneous

abbrev pub AreClassStates : World → ClassStates → List ClassState → Type 0
AreClassStates world states all =
    (number : ℕ) (l : Loaded) → slice_get world number ≡ Some l → slice_get all number ≡ Some (kept_state (class_state states l))
