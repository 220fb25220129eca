-- Which files and folders can't be read, and are told (own).
use Rattle.std.specs.Prelude.{◌≡◌, ◌⊎◌, ⊤, ℕ, true, List, [], Option, Some, All, codes, map, slice_get, take}
use Rattle.jv_program_base.specs.declared.failure.Failure.{Failure}
use Rattle.jv_program_base.specs.declared.failure.Failure.TheVariants.{Unreadable, OutOfMemory}
use Rattle.jv_program_base.specs.declared.folder.NamedFile.{NamedFile}
use Rattle.jv_program_base.specs.Disk.{Disk, LacksFile, LacksFileUpTo, LacksFolderUpTo}
use Rattle.jv_program_base.specs.Folder.{AreClassFilesOf, AreClassNames, AreNamesIn, IsFileIn, IsMainIn, file_name, folder_path, path_in}
use Rattle.jv_program_base.specs.Names.{is_listed_name}

-- why files were not read: what is told can't be read, and this holds of it; or the program's memory was refused
abbrev pub IsUnread : ((told : List ℕ) → Type 0) → Failure → Type 0
IsUnread Holds (Unreadable told) = Holds told.items
IsUnread Holds OutOfMemory = ⊤
IsUnread Holds failure = ⊥

-- a file is told by its path
abbrev pub IsNoFile : Option Disk → (path told : List ℕ) → Type 0
IsNoFile disk path told = (told ≡ path) × LacksFile disk path

-- a folder is told by its word: that is empty, or no folder stands there whose listing may be read
abbrev pub IsNoListing : Option Disk → (word told : List ℕ) → Type 0
IsNoListing disk word told = (told ≡ word) × ((word ≡ []) ⊎ LacksFolderUpTo 4294967296 disk (folder_path word))

-- ---- files in the folder of a word

-- of these names the first whose file can't be read: the files of those before it were read
pub record IsFirstMissing (disk : Option Disk) (word : List ℕ) (names : List (List ℕ)) (told : List ℕ) : Type 0 where
  pub before : List NamedFile
  pub read : All (IsFileIn disk word) before
  pub place : ℕ
  pub named : map file_name before ≡ take place names
  pub name : List ℕ
  pub found : slice_get names place ≡ Some name
  pub lacks : IsNoFile disk (path_in word name) told

-- so of the class files among these names, in byte order
abbrev pub IsNoClassFile : Option Disk → (word : List ℕ) → (names : List (List ℕ)) → (told : List ℕ) → Type 0
IsNoClassFile disk word names told =
    (classes : List (List ℕ)) × AreClassNames names classes × IsFirstMissing disk word classes told

-- the class files were read, and the file `main` can't be, or is longer than it may be
pub record IsNoMain (disk : Option Disk) (word : List ℕ) (names : List (List ℕ)) (told : List ℕ) : Type 0 where
  pub before : List NamedFile
  pub read : AreClassFilesOf disk word names before
  pub path : told ≡ path_in word (codes "main")
  pub lacks : LacksFileUpTo 4194304 disk told

-- they were, and `main`, and the file `input`, which is among the names, can't be
pub record IsNoInput (disk : Option Disk) (word : List ℕ) (names : List (List ℕ)) (told : List ℕ) : Type 0 where
  pub before : List NamedFile
  pub read : AreClassFilesOf disk word names before
  pub main : List ℕ
  pub main_read : IsMainIn disk word main
  pub listed : is_listed_name (codes "input") names ≡ true
  pub lacks : IsNoFile disk (path_in word (codes "input")) told

-- ---- folders

-- the folder of a word, or the first of its class files, can't be read
abbrev pub IsNoClassFolder : Option Disk → (word told : List ℕ) → Type 0
IsNoClassFolder disk word told =
    IsNoListing disk word told ⊎ ((names : List (List ℕ)) × AreNamesIn disk word names × IsNoClassFile disk word names told)

-- so, or behind its class files its `main`, or behind that its `input`
abbrev pub IsNoFolder : Option Disk → (word told : List ℕ) → Type 0
IsNoFolder disk word told =
    IsNoClassFolder disk word told
    ⊎ ((names : List (List ℕ)) × AreNamesIn disk word names × (IsNoMain disk word names told ⊎ IsNoInput disk word names told))
