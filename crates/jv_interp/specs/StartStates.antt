-- The states of a guest's classes at its start (JVMS 5.5; own): the system's are initialized, and no other one is begun.
use Rattle.std.specs.Prelude.{List, []}
use Rattle.jv_meaning_world.specs.World.{World}
use Rattle.jv_interp_held.specs.declared.class_state.ClassState.{ClassState}
use Rattle.jv_interp_held.specs.ClassStates.{AreClassStates}

abbrev pub AreStatesAtStart : World → List ClassState → Type 0
AreStatesAtStart world states = AreClassStates world [] states
