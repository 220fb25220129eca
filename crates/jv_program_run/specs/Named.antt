-- What is said of folders that are read by their words.
use Rattle.std.specs.Prelude.{◌≡◌, ◌≢◌, ◌⊎◌, ℕ, ◌<◌, ◌≤◌, ◌-◌, Bool, false, true, ◌||◌, List, ◌++◌, Option, Some, None, length, map, set, slice_get, take}
use Rattle.std.specs.Io.KnownBytes.{Consumes, IsAtEnd}
use Rattle.jv_program_base.specs.declared.failure.Failure.{Failure}
use Rattle.jv_program_base.specs.declared.failure.Failure.TheVariants.{Unreadable, LibraryRefused, TooManyFolders, NoGuest, OutOfMemory, StandardInput}
use Rattle.jv_program_base.specs.declared.folder.Folder.{Folder}
use Rattle.jv_program_base.specs.declared.outcome.Outcome.{Outcome}
use Rattle.jv_program_run.specs.declared.settings.RunSettings.{RunSettings}
use Rattle.jv_program_base.specs.Disk.{Disk}
use Rattle.jv_program_run.specs.Feeding.{is_no_guest}
use Rattle.jv_program_base.specs.Folder.{IsFolderRead}
use Rattle.jv_program_base.specs.Library.{AreLibraryFiles, IsLibraryFailure, IsLibraryRead}
use Rattle.jv_program_base.specs.Unread.{IsNoFolder}
use Rattle.jv_program_run.specs.Guests.{NamedGuest, named_guest}
use Rattle.jv_program_run.specs.Outcome.{IsGuestsFailure, IsRunOutcome}

-- there is one folder for each word, which was read by it
pub record AreFoldersOf (disk : Option Disk) (words : List (List ℕ)) (folders : List Folder) : Type 0 where
  pub count : length folders ≡ length words
  pub read :
      (place : ℕ) (word : List ℕ) (folder : Folder) → slice_get words place ≡ Some word → slice_get folders place ≡ Some folder
      → IsFolderRead disk word folder

-- a guest that the settings name is of none of so many: that which is fed, or that whose output is wanted as it is
abbrev pub lacks_guest : RunSettings → (guests : ℕ) → Bool
lacks_guest s guests = is_no_guest s.stdin guests || is_no_guest s.raw guests

-- there are at most 64 folders, and the guests that the settings name are those of some of them
abbrev pub AreTaken : RunSettings → (words : List (List ℕ)) → Type 0
AreTaken s words = (length words ≤ 64) × (lacks_guest s (length words) ≡ false)

-- ---- a guest whose input is the standard input

-- the number of the guest that has all of it before it runs: that whose output is wanted as it is, where none is fed
abbrev pub reads_all : RunSettings → Option ℕ
reads_all s = elim s.stdin [ Some number ↦ None | None ↦ s.raw ]

abbrev pub with_input : NamedGuest → List ℕ → NamedGuest
with_input own bytes = record own { guest = record own.guest { input = own.guest.input ++ bytes } }

-- Behind its own input a guest has all that there was to read, or one byte more than the limit of 16,777,216 where there was more.
pub record IsReadBehind (own guest : NamedGuest) (before after : Option (List ℕ)) : Type 0 where
  pub bytes : List ℕ
  pub read : Consumes before after bytes
  pub most : length bytes ≤ 16777217
  pub whole : length bytes ≤ 16777216 → IsAtEnd after
  pub joined : guest ≡ with_input own bytes

-- Of guests the one with this number has it, and the others are as they were; without a number nothing was read.
abbrev pub AreReady : Option ℕ → (own guests : List NamedGuest) → (before after : Option (List ℕ)) → Type 0
AreReady None own guests before after = (guests ≡ own) × (after ≡ before)
AreReady (Some number) own guests before after =
    (one : NamedGuest) × (found : NamedGuest) × (slice_get own (number - 1) ≡ Some one) × IsReadBehind one found before after
    × (guests ≡ set own (number - 1) found)

-- why it isn't there: a read failed, or the program had no memory for what was read
abbrev pub IsInputFailure : Failure → Type 0
IsInputFailure failure = (failure ≡ StandardInput) ⊎ (failure ≡ OutOfMemory)

-- The library was read, where a word names one, and the folders of the words, and the input of the guest that has all of it, and the
-- report is on these guests.
pub record IsRunAs (disk : Option Disk) (s : RunSettings) (library : Option (List ℕ)) (words : List (List ℕ))
    (before after : Option (List ℕ)) (outcome : Outcome) : Type 0 where
  pub taken : AreTaken s words
  pub given : List (List ℕ)
  pub gives : AreLibraryFiles disk library given
  pub folders : List Folder
  pub read : AreFoldersOf disk words folders
  pub guests : List NamedGuest
  pub middle : Option (List ℕ)
  pub ready : AreReady (reads_all s) (map (named_guest given) folders) guests before middle
  pub ran : IsRunOutcome s guests middle after outcome

-- ---- words of which there is no report

-- of the folders of words the first that can't be read, or in which a file can't be: those before it were read
pub record IsFirstUnread (disk : Option Disk) (words : List (List ℕ)) (told : List ℕ) : Type 0 where
  pub before : List Folder
  pub place : ℕ
  pub read : AreFoldersOf disk (take place words) before
  pub word : List ℕ
  pub found : slice_get words place ≡ Some word
  pub lacks : IsNoFolder disk word told

-- all of these were read, and this is why there is no report on these guests
pub record IsFailureOf (disk : Option Disk) (s : RunSettings) (library : Option (List ℕ)) (words : List (List ℕ))
    (before after : Option (List ℕ)) (failure : Failure) : Type 0 where
  pub taken : AreTaken s words
  pub given : List (List ℕ)
  pub gives : AreLibraryFiles disk library given
  pub folders : List Folder
  pub read : AreFoldersOf disk words folders
  pub guests : List NamedGuest
  pub middle : Option (List ℕ)
  pub ready : AreReady (reads_all s) (map (named_guest given) folders) guests before middle
  pub failed : IsGuestsFailure s guests middle after failure

-- Why there is no report on the folders of these words: there are more than 64; or none of a guest that the settings name; or there is no
-- library in the folder that is named for one; or a folder, or a file in it, can't be read; all this before anything is read of the input.
-- Or the input can't be read for the guest that has all of it. Else it lies with the guests. Or the program's memory was refused, on the
-- way to any of these.
abbrev pub IsRunFailure :
    Option Disk → RunSettings → (library : Option (List ℕ)) → (words : List (List ℕ)) → (before after : Option (List ℕ)) → Failure → Type 0
IsRunFailure disk s library words before after TooManyFolders = (64 < length words) × (after ≡ before)
IsRunFailure disk s library words before after NoGuest = (length words ≤ 64) × (lacks_guest s (length words) ≡ true) × (after ≡ before)
IsRunFailure disk s library words before after (Unreadable told) =
    AreTaken s words
    × (IsLibraryFailure disk library (Unreadable told) ⊎ (IsLibraryRead disk library × IsFirstUnread disk words told.items))
    × (after ≡ before)
IsRunFailure disk s library words before after (LibraryRefused name reason) =
    AreTaken s words × IsLibraryFailure disk library (LibraryRefused name reason) × (after ≡ before)
IsRunFailure disk s library words before after StandardInput =
    (AreTaken s words × IsLibraryRead disk library × ((folders : List Folder) × AreFoldersOf disk words folders) × (reads_all s ≢ None))
    ⊎ IsFailureOf disk s library words before after StandardInput
IsRunFailure disk s library words before after OutOfMemory = AreTaken s words × (s.stdin ≡ None → s.raw ≡ None → after ≡ before)
IsRunFailure disk s library words before after failure = IsFailureOf disk s library words before after failure
