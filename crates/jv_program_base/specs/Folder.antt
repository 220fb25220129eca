-- What a folder holds of a guest, as the program has read it.
use Rattle.std.specs.Prelude.{◌≡◌, ◌≢◌, ℕ, ◌≤◌, true, false, List, [], ◌∷◌, ◌++◌, Option, All, map, filter, length, vec_len, codes, IsPermutation, IsSorted}
use Rattle.std.specs.Cmp.Lexicographic.{slice_cmp}
use Rattle.std.specs.Ordering.{nat_cmp}
use Rattle.jv_program_base.specs.declared.folder.NamedFile.{NamedFile}
use Rattle.jv_program_base.specs.declared.folder.Folder.{Folder}
use Rattle.jv_program_base.specs.Disk.{Disk, IsListedAt, IsReadAt}
use Rattle.jv_program_base.specs.Names.{is_listed_name, is_class_file, names_listed}

abbrev pub file_name : NamedFile → List ℕ
file_name file = file.name.items

abbrev pub file_bytes : NamedFile → List ℕ
file_bytes file = file.bytes.items

-- ---- paths

-- the path of a file in the folder of a word: the word, `/` and the file's name
abbrev pub path_in : (word file : List ℕ) → List ℕ
path_in word file = word ++ 47 ∷ file

-- the path at which a folder is read: its word and `/`
abbrev pub folder_path : (word : List ℕ) → List ℕ
folder_path word = word ++ 47 ∷ []

-- ---- the folder of a listing

-- the names in the folder of a word, which isn't empty: those of the listing that stands there, of at most 4,294,967,296 bytes
pub record AreNamesIn (disk : Option Disk) (word : List ℕ) (names : List (List ℕ)) : Type 0 where
  pub named : word ≢ []
  pub listing : List ℕ
  pub most : length listing ≤ 4294967296
  pub listed : IsListedAt disk (folder_path word) 4294967296 listing
  pub exact : names ≡ names_listed listing

-- the names among some that end in `.class`, each of them and no other, in byte order
pub record AreClassNames (names classes : List (List ℕ)) : Type 0 where
  pub exact : IsPermutation (filter is_class_file names) classes
  pub order : IsSorted (slice_cmp nat_cmp) classes

-- its bytes are those of the file of its name in the folder of a word, at most one more than a class file may have, which is 4,194,304
abbrev pub IsFileIn : Option Disk → (word : List ℕ) → NamedFile → Type 0
IsFileIn disk word file =
    (vec_len file.bytes ≤ 4194305) × IsReadAt disk (path_in word (file_name file)) 4194304 (file_bytes file)

-- the class files of a folder with these names, in byte order of theirs
pub record AreClassFilesOf (disk : Option Disk) (word : List ℕ) (names : List (List ℕ)) (files : List NamedFile) : Type 0 where
  pub named : AreClassNames names (map file_name files)
  pub read : All (IsFileIn disk word) files

-- the class files in the folder of a word
pub record AreClassFilesIn (disk : Option Disk) (word : List ℕ) (files : List NamedFile) : Type 0 where
  pub names : List (List ℕ)
  pub listed : AreNamesIn disk word names
  pub exact : AreClassFilesOf disk word names files

-- the bytes of the file `main` of a folder
abbrev pub IsMainIn : Option Disk → (word main : List ℕ) → Type 0
IsMainIn disk word main = (length main ≤ 4194304) × IsReadAt disk (path_in word (codes "main")) 4194304 main

-- The folder of a word, in which there are these names: its class files are theirs, with the bytes that stand there; its file `main` is
-- read, and where the name `input` is among them its input; else that is empty.
pub record IsFolderOf (disk : Option Disk) (word : List ℕ) (names : List (List ℕ)) (folder : Folder) : Type 0 where
  pub class_files : AreClassFilesOf disk word names folder.class_files.items
  pub main : IsMainIn disk word folder.main.items
  pub input : vec_len folder.input ≤ 16777217
  pub input_bytes :
      is_listed_name (codes "input") names ≡ true → IsReadAt disk (path_in word (codes "input")) 16777216 folder.input.items
  pub no_input : is_listed_name (codes "input") names ≡ false → folder.input.items ≡ []

-- the folder of a word
pub record IsFolderRead (disk : Option Disk) (word : List ℕ) (folder : Folder) : Type 0 where
  pub word_is : folder.word.now ≡ word
  pub names : List (List ℕ)
  pub listed : AreNamesIn disk word names
  pub files : IsFolderOf disk word names folder
