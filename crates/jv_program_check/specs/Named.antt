-- What is said of files that are read by their names.
use Rattle.std.specs.Prelude.{◌≡◌, ◌⊎◌, ℕ, Bool, List, Option, Some, length, slice_get, take}
use Rattle.jv_program_check.specs.Check.{IsChecked, IsCheckFailure}
use Rattle.jv_program_base.specs.Disk.{Disk, IsReadAt}
use Rattle.jv_program_base.specs.Library.{AreLibraryFiles, IsLibraryFailure, IsLibraryRead}
use Rattle.jv_program_base.specs.Unread.{IsNoFile, IsUnread}
use Rattle.jv_program_base.specs.declared.failure.Failure.{Failure}
use Rattle.jv_program_base.specs.declared.failure.Failure.TheVariants.{OutOfMemory}
use Rattle.jv_program_base.specs.declared.outcome.Outcome.{Outcome}

-- there are bytes for each name: those of the file at that path, of which one more than 4,194,304 are read at most
pub record AreFilesAt (disk : Option Disk) (names files : List (List ℕ)) : Type 0 where
  pub count : length files ≡ length names
  pub read :
      (place : ℕ) (name bytes : List ℕ) → slice_get names place ≡ Some name → slice_get files place ≡ Some bytes
      → IsReadAt disk name 4194304 bytes

-- the library was read, where a word names one, and the files of the names, and these are checked as the files of one guest
pub record IsCheckedAs (disk : Option Disk) (json : Bool) (library : Option (List ℕ)) (names : List (List ℕ)) (outcome : Outcome)
    : Type 0 where
  pub given : List (List ℕ)
  pub gives : AreLibraryFiles disk library given
  pub files : List (List ℕ)
  pub read : AreFilesAt disk names files
  pub checked : IsChecked json given names files outcome

-- ---- files that are not checked

-- of the files at these paths the first that can't be read: those before it were read
pub record IsFirstUnread (disk : Option Disk) (names : List (List ℕ)) (told : List ℕ) : Type 0 where
  pub before : List (List ℕ)
  pub place : ℕ
  pub read : AreFilesAt disk (take place names) before
  pub name : List ℕ
  pub found : slice_get names place ≡ Some name
  pub lacks : IsNoFile disk name told

-- why files that have been read were not checked: the program's memory was refused, or what `check_files` says
abbrev pub IsReadFailure : (library files : List (List ℕ)) → Failure → Type 0
IsReadFailure library files failure = (failure ≡ OutOfMemory) ⊎ IsCheckFailure library files failure

-- all of them were read, and this is why the files were not checked as those of one guest
pub record IsCheckFailureOf (disk : Option Disk) (library : Option (List ℕ)) (names : List (List ℕ)) (failure : Failure) : Type 0 where
  pub given : List (List ℕ)
  pub gives : AreLibraryFiles disk library given
  pub files : List (List ℕ)
  pub read : AreFilesAt disk names files
  pub failed : IsReadFailure given files failure

-- Why the files of these names were not checked: there is no library in the folder that is named for one; or it was read, and one of the
-- files can't be; or it lies with their bytes. So a refusal is the first that applies to these files, and the host's memory is refused
-- only for files within the limits.
abbrev pub IsNamedFailure : Option Disk → (library : Option (List ℕ)) → (names : List (List ℕ)) → Failure → Type 0
IsNamedFailure disk library names failure =
    IsLibraryFailure disk library failure
    ⊎ ((IsLibraryRead disk library × IsUnread (IsFirstUnread disk names) failure)
    ⊎ IsCheckFailureOf disk library names failure)
