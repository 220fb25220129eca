-- The library in a folder, as the program has read it (own).
use Rattle.std.specs.Prelude.{◌≡◌, ◌≢◌, ◌⊎◌, ℕ, ⊤, List, [], Option, Some, None, codes, map, option_and_then, option_map, slice_get, string_bytes}
use Rattle.std.specs.Option.{unwrap_or}
use Rattle.jv_limits.specs.declared.fault.AdmitFault.{AdmitFault}
use Rattle.jv_limits.specs.Fault.{admit_fault_name}
use Rattle.jv_limits.specs.FileLimits.{first_file_refusal}
use Rattle.jv_loader.specs.declared.library_fault.LibraryFault.{LibraryFault}
use Rattle.jv_loader.specs.declared.library_fault.LibraryFault.TheVariants as faults
use Rattle.jv_loader.specs.LibraryFault.{IsLibraryFault, IsSomeLibrary}
use Rattle.jv_program_base.specs.declared.failure.Failure.{Failure}
use Rattle.jv_program_base.specs.declared.failure.Failure.TheVariants.{Unreadable, LibraryRefused, OutOfMemory}
use Rattle.jv_program_base.specs.declared.folder.NamedFile.{NamedFile}
use Rattle.jv_program_base.specs.Disk.{Disk}
use Rattle.jv_program_base.specs.Folder.{AreClassFilesIn, file_bytes, file_name, path_in}
use Rattle.jv_program_base.specs.Unread.{IsNoClassFolder}

-- The files of a library: those in the folder of a word, as many and as long as those of a guest may be, which are a library; without a
-- word there are none.
abbrev pub AreLibraryFiles : Option Disk → Option (List ℕ) → (library : List (List ℕ)) → Type 0
AreLibraryFiles disk None library = library ≡ []
AreLibraryFiles disk (Some word) library =
    (files : List NamedFile) × AreClassFilesIn disk word files × (library ≡ map file_bytes files) × (first_file_refusal library ≡ None)
    × IsSomeLibrary library

-- the library was read, where a word names one
abbrev pub IsLibraryRead : Option Disk → Option (List ℕ) → Type 0
IsLibraryRead disk word = (library : List (List ℕ)) × AreLibraryFiles disk word library

-- ---- files that are no library

-- a fault, as it is printed
abbrev pub library_fault_name : LibraryFault → List ℕ
library_fault_name (faults.Version place) = codes "Version"
library_fault_name (faults.Format place) = codes "Format"
library_fault_name (faults.Unsupported place) = codes "Unsupported"
library_fault_name (faults.Reserved place) = codes "Reserved"
library_fault_name (faults.Duplicate place) = codes "Duplicate"
library_fault_name (faults.Main place) = codes "Main"
library_fault_name (faults.Header place) = codes "Header"
library_fault_name (faults.Initializer place) = codes "Initializer"
library_fault_name (faults.AboveArrays place) = codes "AboveArrays"
library_fault_name faults.NoString = codes "NoString"
library_fault_name faults.NoComparable = codes "NoComparable"
library_fault_name faults.NoCharSequence = codes "NoCharSequence"
library_fault_name faults.OutOfMemory = codes "Memory"

-- the place of the file that has it, where one has
abbrev pub fault_place : LibraryFault → Option ℕ
fault_place (faults.Version place) = Some place
fault_place (faults.Format place) = Some place
fault_place (faults.Unsupported place) = Some place
fault_place (faults.Reserved place) = Some place
fault_place (faults.Duplicate place) = Some place
fault_place (faults.Main place) = Some place
fault_place (faults.Header place) = Some place
fault_place (faults.Initializer place) = Some place
fault_place (faults.AboveArrays place) = Some place
fault_place faults.NoString = None
fault_place faults.NoComparable = None
fault_place faults.NoCharSequence = None
fault_place faults.OutOfMemory = None

-- the path of the file at a place in the folder of a word, where there is one, and else the folder's word
abbrev pub path_at : (word : List ℕ) → (names : List (List ℕ)) → Option ℕ → List ℕ
path_at word names place = unwrap_or (option_map (path_in word) (option_and_then (slice_get names) place)) word

-- The files of a folder are no library, and this name and reason are told: they are not as many, or as long, as those of a guest may be,
-- which is told of the folder; or they have a fault, which is told of the file that has it, where one has.
abbrev pub AreNoLibrary : (word : List ℕ) → (files : List NamedFile) → (name reason : List ℕ) → Type 0
AreNoLibrary word files name reason =
    ((fault : AdmitFault) × (first_file_refusal (map file_bytes files) ≡ Some fault) × (name ≡ word) × (reason ≡ admit_fault_name fault))
    ⊎ ((fault : LibraryFault) × (fault ≢ faults.OutOfMemory) × (first_file_refusal (map file_bytes files) ≡ None)
    × IsLibraryFault (map file_bytes files) fault
    × (name ≡ path_at word (map file_name files) (fault_place fault)) × (reason ≡ library_fault_name fault))

-- Why there is no library: its folder, or a class file in it, can't be read; or its files are none; or the program's memory was refused.
abbrev pub IsLibraryFailure : Option Disk → (library : Option (List ℕ)) → Failure → Type 0
IsLibraryFailure disk library (Unreadable told) = (word : List ℕ) × (library ≡ Some word) × IsNoClassFolder disk word told.items
IsLibraryFailure disk library (LibraryRefused name reason) =
    (word : List ℕ) × (library ≡ Some word) × (files : List NamedFile) × AreClassFilesIn disk word files
    × AreNoLibrary word files name.items (string_bytes reason)
IsLibraryFailure disk library OutOfMemory = ⊤
IsLibraryFailure disk library failure = ⊥
