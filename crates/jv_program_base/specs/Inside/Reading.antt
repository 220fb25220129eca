-- Files of a folder that were not read.
use Rattle.std.specs.Prelude.{◌⊎◌, ℕ, ⊤, List, Option, string_bytes}
use Rattle.jv_program_base.specs.declared.failure.Failure.{Failure}
use Rattle.jv_program_base.specs.declared.failure.Failure.TheVariants.{LibraryRefused, OutOfMemory}
use Rattle.jv_program_base.specs.declared.folder.NamedFile.{NamedFile}
use Rattle.jv_program_base.specs.Disk.{Disk}
use Rattle.jv_program_base.specs.Library.{AreNoLibrary}
use Rattle.jv_program_base.specs.Unread.{IsNoClassFile, IsNoInput, IsNoMain}

-- a file of a guest can't be read, in a folder with these names
abbrev pub IsNoFileOf : Option Disk → (word : List ℕ) → (names : List (List ℕ)) → (told : List ℕ) → Type 0
IsNoFileOf disk word names told =
    IsNoClassFile disk word names told ⊎ (IsNoMain disk word names told ⊎ IsNoInput disk word names told)

-- why the files of a folder were not taken as a library
abbrev pub IsRefusedIn : (word : List ℕ) → (files : List NamedFile) → Failure → Type 0
IsRefusedIn word files (LibraryRefused name reason) = AreNoLibrary word files name.items (string_bytes reason)
IsRefusedIn word files OutOfMemory = ⊤
IsRefusedIn word files failure = ⊥
