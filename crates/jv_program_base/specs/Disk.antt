-- Files and folders, where they are known, and what is read of them (own).
use Rattle.std.specs.Prelude.{◌≡◌, ⊤, ℕ, ◌+◌, ◌<◌, Bool, IsTrue, List, Option, Some, None, IfSome, length, option_map, take}

-- the bytes of the file at a path, and what is read of the folder at a path, which is its names, each ended by a NUL; none where there is
-- no such file or folder; and whether all that there is can be read, so that no read of it fails but for want of memory
pub record Disk : Type 0 where
  pub file : (path : List ℕ) → Option (List ℕ)
  pub listing : (path : List ℕ) → Option (List ℕ)
  pub sure : Bool

-- ---- what was read

-- these are the bytes that there are; or the first of them, one more than a limit
abbrev pub IsReadOf : (there : Option (List ℕ)) → (limit : ℕ) → (bytes : List ℕ) → Type 0
IsReadOf there limit bytes = option_map (take (limit + 1)) there ≡ Some bytes

-- so were the file, or the folder, at a path read, where that is known
abbrev pub IsReadAt : Option Disk → (path : List ℕ) → (limit : ℕ) → (bytes : List ℕ) → Type 0
IsReadAt None path limit bytes = ⊤
IsReadAt (Some disk) path limit bytes = IsReadOf (disk.file path) limit bytes

abbrev pub IsListedAt : Option Disk → (path : List ℕ) → (limit : ℕ) → (listing : List ℕ) → Type 0
IsListedAt None path limit listing = ⊤
IsListedAt (Some disk) path limit listing = IsReadOf (disk.listing path) limit listing

-- ---- what can't be read

-- this holds of what there is, where that is known and can be read
abbrev pub IfSure : Option Disk → (Disk → Type 0) → Type 0
IfSure disk P = IfSome disk (λ d. IsTrue d.sure → P d)

-- no file stands at a path, or no folder
abbrev pub LacksFile : Option Disk → (path : List ℕ) → Type 0
LacksFile disk path = IfSure disk (λ d. d.file path ≡ None)

abbrev pub LacksFolder : Option Disk → (path : List ℕ) → Type 0
LacksFolder disk path = IfSure disk (λ d. d.listing path ≡ None)

-- none stands there of at most so many bytes, of a folder those of its listing
abbrev pub LacksFileUpTo : (limit : ℕ) → Option Disk → (path : List ℕ) → Type 0
LacksFileUpTo limit disk path = IfSure disk (λ d. IfSome (d.file path) (λ bytes. limit < length bytes))

abbrev pub LacksFolderUpTo : (limit : ℕ) → Option Disk → (path : List ℕ) → Type 0
LacksFolderUpTo limit disk path = IfSure disk (λ d. IfSome (d.listing path) (λ bytes. limit < length bytes))
