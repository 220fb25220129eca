-- The names of the host's refusals.
use Rattle.std.specs.Prelude.{ℕ, List, codes}
use Rattle.jv_limits.specs.declared.fault.AdmitFault.{AdmitFault}
use Rattle.jv_limits.specs.declared.fault.AdmitFault.TheVariants as refusals
use Rattle.jv_limits.specs.declared.fault.TurnFault.{TurnFault}
use Rattle.jv_limits.specs.declared.fault.TurnFault.TheVariants as stops
use Rattle.jv_limits.specs.declared.fault.FeedFault.{FeedFault}
use Rattle.jv_limits.specs.declared.fault.FeedFault.TheVariants as feeds

abbrev pub admit_fault_name : AdmitFault → List ℕ
admit_fault_name refusals.NoFiles = codes "NoFiles"
admit_fault_name refusals.TooManyFiles = codes "TooManyFiles"
admit_fault_name refusals.FileTooLong = codes "FileTooLong"
admit_fault_name refusals.InputTooLong = codes "InputTooLong"
admit_fault_name refusals.BudgetOutOfRange = codes "BudgetOutOfRange"
admit_fault_name refusals.TooManyGuests = codes "TooManyGuests"
admit_fault_name refusals.LibraryBroken = codes "LibraryBroken"
admit_fault_name refusals.HostMemory = codes "HostMemory"

abbrev pub turn_fault_name : TurnFault → List ℕ
turn_fault_name stops.NoGuest = codes "NoGuest"
turn_fault_name (stops.HostMemory steps) = codes "HostMemory"

abbrev pub feed_fault_name : FeedFault → List ℕ
feed_fault_name feeds.NoGuest = codes "NoGuest"
feed_fault_name feeds.InputTooLong = codes "InputTooLong"
feed_fault_name feeds.HostMemory = codes "HostMemory"
