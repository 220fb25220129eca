-- The limits of a guest's files, and the order in which they are refused (own).
use Rattle.std.specs.Prelude.{ℕ, Bool, nat_lt, ◌==◌, if◌then◌else◌, List, length, Option, Some, None}
use Rattle.std.specs.List.{list_any}
use Rattle.jv_limits.specs.declared.fault.AdmitFault.{AdmitFault}
use Rattle.jv_limits.specs.declared.fault.AdmitFault.TheVariants.{NoFiles, TooManyFiles, FileTooLong}

-- a file longer than 4,194,304 bytes
abbrev pub is_long_file : List ℕ → Bool
is_long_file file = nat_lt 4194304 (length file)

-- the first reason to refuse files: there are 1 to 1,024, none of them longer than a file may be
abbrev pub first_file_refusal : List (List ℕ) → Option AdmitFault
first_file_refusal files =
    if length files == 0 then Some NoFiles
    else if nat_lt 1024 (length files) then Some TooManyFiles
    else if list_any is_long_file files then Some FileTooLong
    else None
