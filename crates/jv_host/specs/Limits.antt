-- The limits of the host, and the order in which it refuses a guest, or bytes for one (own).
use Rattle.std.specs.Prelude.{ℕ, ◌+◌, Bool, ◌&&◌, not, nat_le, nat_lt, if◌then◌else◌, List, length, Option, Some, None, ◌≡◌, ◌≢◌, slice_get}
use Rattle.std.specs.Option.{option_or}
use Rattle.jv_format.specs.Numbers.{is_from_to}
use Rattle.jv_meaning_machine.specs.Start.{Budget}
use Rattle.jv_meaning_world.specs.Library.{with_library}
use Rattle.jv_meaning_machine.specs.Alone.{GuestFiles, IsJudged, Judged, Stands}
use Rattle.jv_limits.specs.declared.fault.AdmitFault.{AdmitFault}
use Rattle.jv_limits.specs.declared.fault.AdmitFault.TheVariants.{TooManyFiles, InputTooLong, BudgetOutOfRange, TooManyGuests, LibraryBroken, HostMemory}
use Rattle.jv_limits.specs.declared.fault.FeedFault.{FeedFault}
use Rattle.jv_limits.specs.declared.fault.FeedFault.TheVariants as feeds
use Rattle.jv_limits.specs.FileLimits.{first_file_refusal}
use Rattle.jv_host.specs.Host.{Admission, input_bytes}

-- ---- admissions

-- 64 to 16,777,216 cells, 64 to 1,048,576 words, and at most 1,048,576 bytes of output
abbrev pub is_in_range : Budget → Bool
is_in_range b = is_from_to 64 16777216 b.cells && is_from_to 64 1048576 b.words && nat_le b.output 1048576

-- the first other reason to refuse a guest, where the host holds so many, of which 64 is the most; a library has at most 1,024 files
abbrev pub first_other_refusal : GuestFiles → Budget → (guests : ℕ) → Option AdmitFault
first_other_refusal g b guests =
    if nat_lt 1024 (length g.library) then Some TooManyFiles
    else if nat_lt 16777216 (length g.input) then Some InputTooLong
    else if not (is_in_range b) then Some BudgetOutOfRange
    else if nat_le 64 guests then Some TooManyGuests
    else None

-- the first reason to refuse a guest, where the host holds so many
abbrev pub first_refusal : GuestFiles → Budget → (guests : ℕ) → Option AdmitFault
first_refusal g b guests = option_or (first_file_refusal g.files) (first_other_refusal g b guests)

-- The guest's library stands beside its files: of what is found of both, each class that the library gives or lends to is accepted.
pub record LibraryStands (g : GuestFiles) : Type 0 where
  pub judged : Judged
  pub right : IsJudged g.library g.files judged
  pub stands : Stands judged.program.world (with_library right.given)

-- it doesn't
pub record IsLibraryBroken (g : GuestFiles) : Type 0 where
  pub judged : Judged
  pub right : IsJudged g.library g.files judged
  pub broken : Stands judged.program.world (with_library right.given) → ⊥

-- the refusal is the first that applies, but for want of memory; a library is looked at where no other applies
abbrev pub IsRefused : GuestFiles → Budget → ℕ → AdmitFault → Type 0
IsRefused g b guests LibraryBroken = (first_refusal g b guests ≡ None) × IsLibraryBroken g
IsRefused g b guests fault = fault ≢ HostMemory → first_refusal g b guests ≡ Some fault

-- ---- feeds

-- so many bytes more would be more than 16,777,216, with the input at admission and all that was fed
abbrev pub feed_refusal_of : Option Admission → ℕ → Option FeedFault
feed_refusal_of None count = Some feeds.NoGuest
feed_refusal_of (Some a) count = if nat_lt 16777216 (input_bytes a + count) then Some feeds.InputTooLong else None

-- the first reason to refuse bytes for a guest
abbrev pub feed_refusal : List Admission → (id : ℕ) → List ℕ → Option FeedFault
feed_refusal guests id bytes = feed_refusal_of (slice_get guests id) (length bytes)

abbrev pub IsFeedRefused : List Admission → (id : ℕ) → List ℕ → FeedFault → Type 0
IsFeedRefused guests id bytes fault = fault ≢ feeds.HostMemory → feed_refusal guests id bytes ≡ Some fault
