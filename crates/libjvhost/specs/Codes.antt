-- What calls answer: `enum jvhost_code` of include/jvhost.h, but for the codes of the part in C.
use Rattle.std.specs.Prelude.{◌≡◌, ℕ, ◌⊎◌, Option, Some, None}
use Rattle.jv_limits.specs.declared.fault.AdmitFault.{AdmitFault}
use Rattle.jv_limits.specs.declared.fault.AdmitFault.TheVariants as refusals
use Rattle.jv_limits.specs.declared.fault.FeedFault.{FeedFault}
use Rattle.jv_limits.specs.declared.fault.FeedFault.TheVariants as feeds

abbrev pub ok : ℕ
ok = 0

abbrev pub no_host : ℕ
no_host = 1

abbrev pub has_host : ℕ
has_host = 2

abbrev pub no_guest : ℕ
no_guest = 3

abbrev pub no_file : ℕ
no_file = 4

abbrev pub host_memory : ℕ
host_memory = 11

abbrev pub wrong_size : ℕ
wrong_size = 12

abbrev pub no_room : ℕ
no_room = 13

abbrev pub wrong_verdict : ℕ
wrong_verdict = 14

abbrev pub library_broken : ℕ
library_broken = 18

abbrev pub no_library : ℕ
no_library = 19

abbrev pub no_place : ℕ
no_place = 20

abbrev pub admit_code : AdmitFault → ℕ
admit_code refusals.NoFiles = 5
admit_code refusals.TooManyFiles = 6
admit_code refusals.FileTooLong = 7
admit_code refusals.InputTooLong = 8
admit_code refusals.BudgetOutOfRange = 9
admit_code refusals.TooManyGuests = 10
admit_code refusals.LibraryBroken = library_broken
admit_code refusals.HostMemory = host_memory

abbrev pub feed_code : FeedFault → ℕ
feed_code feeds.NoGuest = no_guest
feed_code feeds.InputTooLong = 8
feed_code feeds.HostMemory = host_memory

-- the code of the first reason to refuse a guest, ok where there is none
abbrev pub admit_refusal : Option AdmitFault → ℕ
admit_refusal None = ok
admit_refusal (Some fault) = admit_code fault

-- the code of the first reason to refuse bytes for a guest, ok where there is none
abbrev pub feed_refusal : Option FeedFault → ℕ
feed_refusal None = ok
feed_refusal (Some fault) = feed_code fault

-- The call answers its first reason to refuse, and where there is none ok, or that memory was refused.
abbrev pub IsAnswer : (refusal code : ℕ) → Type 0
IsAnswer refusal code = (code ≡ refusal) ⊎ ((refusal ≡ ok) × (code ≡ host_memory))
