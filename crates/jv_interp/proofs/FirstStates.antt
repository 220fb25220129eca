-- The states of classes at the start are right.
use Rattle.std.proofs.Common.{◌≡◌, ℕ, ◌<◌, List, [], Some, slice_get}
use Rattle.jv_meaning_world.specs.World.{Loaded, World}
use Rattle.jv_meaning_machine.specs.State.{class_state}
use Rattle.jv_interp_held.specs.declared.class_state.ClassState.{ClassState}
use Rattle.jv_interp_held.specs.ClassStates.{kept_state}

-- those of the classes with numbers below one
abbrev pub AreStatesBelow : World → ℕ → List ClassState → Type 0
AreStatesBelow world below states =
    (number : ℕ) (l : Loaded) → number < below → slice_get world number ≡ Some l
    → slice_get states number ≡ Some (kept_state (class_state [] l))
