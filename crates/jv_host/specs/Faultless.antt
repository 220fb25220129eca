-- Guests that never meet a fault (JVMS 4.10): once a guest was admitted, its machine goes on for ever, whatever is fed to it.
use Rattle.std.specs.Prelude.{◌≡◌, ℕ, List, Some, slice_get}
use Rattle.jv_meaning_machine.specs.Alone.{Feed}
use Rattle.jv_meaning_machine.specs.Observation.{Observed, Shows, FaultsWithin}
use Rattle.jv_host.specs.Host.{Admission}

-- Whatever is fed to the guest, and whenever: alone it shows something after every number of steps, and its machine meets no fault within
-- them.
pub record NeverFaults (a : Admission) : Type 0 where
  pub shows : (feeds : List Feed) (n : ℕ) → (o : Observed) × Shows a.guest a.budget feeds n o
  pub faultless : (feeds : List Feed) (n : ℕ) → FaultsWithin a.guest a.budget feeds n → ⊥

-- each guest of a host does
abbrev pub NoGuestFaults : List Admission → Type 0
NoGuestFaults guests = (id : ℕ) (a : Admission) → slice_get guests id ≡ Some a → NeverFaults a
