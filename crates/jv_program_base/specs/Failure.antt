-- What ends the program without a report.
use Rattle.std.specs.Prelude.{ℕ, List, ◌∷◌, [], ◌++◌, codes, string_bytes}
use Rattle.jv_limits.specs.declared.fault.AdmitFault.{AdmitFault}
use Rattle.jv_limits.specs.declared.fault.AdmitFault.TheVariants as refusals
use Rattle.jv_limits.specs.declared.fault.FeedFault.{FeedFault}
use Rattle.jv_limits.specs.declared.fault.FeedFault.TheVariants as feeds
use Rattle.jv_limits.specs.Fault.{admit_fault_name}
use Rattle.jv_program_base.specs.declared.failure.Failure.{Failure}
use Rattle.jv_program_base.specs.declared.failure.Failure.TheVariants.{Unreadable, StandardInput, LibraryRefused, Refused, FeedTooLong, TooManyFolders, NoGuest, HostMemory, OutOfMemory}
use Rattle.jv_program_base.specs.Escape.{escaped_text}

-- 2 for too many folders and a guest that isn't there, 3 for what can't be read or is refused, and 4 where memory was refused
abbrev pub failure_status : Failure → ℕ
failure_status (Unreadable name) = 3
failure_status StandardInput = 3
failure_status (LibraryRefused name reason) = 3
failure_status (Refused fault) = 3
failure_status FeedTooLong = 3
failure_status TooManyFolders = 2
failure_status NoGuest = 2
failure_status HostMemory = 4
failure_status OutOfMemory = 4

-- the reason, as it is printed
abbrev pub failure_reason : Failure → List ℕ
failure_reason (Unreadable name) = escaped_text name.items ++ codes ": cannot be read"
failure_reason StandardInput = codes "standard input: cannot be read"
failure_reason (LibraryRefused name reason) = escaped_text name.items ++ codes ": " ++ string_bytes reason
failure_reason (Refused fault) = admit_fault_name fault
failure_reason FeedTooLong = codes "InputTooLong"
failure_reason TooManyFolders = codes "TooManyGuests"
failure_reason NoGuest = codes "NoGuest"
failure_reason HostMemory = codes "HostMemory"
failure_reason OutOfMemory = codes "Memory"

-- the line on standard error
abbrev pub failure_line : Failure → List ℕ
failure_line failure = codes "jvhost: " ++ failure_reason failure ++ 10 ∷ []

-- what a refusal of the host is for the program
abbrev pub failure_of : AdmitFault → Failure
failure_of refusals.HostMemory = HostMemory
failure_of fault = Refused fault

-- what a refusal of bytes for a guest is for the program
abbrev pub failure_of_feed : FeedFault → Failure
failure_of_feed feeds.NoGuest = NoGuest
failure_of_feed feeds.InputTooLong = FeedTooLong
failure_of_feed feeds.HostMemory = HostMemory
