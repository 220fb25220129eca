-- Files and folders that were not read.
use Rattle.std.proofs.Common.{◌≡◌, ◌≢◌, ℕ, ◌+◌, ◌<◌, List, length, map, take, Bor, Option, Some, None, true, sym, ap, subst, ◌∙◌, ◌⊎◌, inl, inr, arith}
use Rattle.std.specs.Global.{Vec}
use Rattle.std.specs.Prelude.{All, IfErr, IfSome, Result, codes, slice_get}
use Rattle.std.proofs.lemmas.Bool.{cases_lt}
use Rattle.std.proofs.lemmas.List.{take-map, take_all}
use Rattle.std.proofs.lemmas.Result.{IfErr-weaker}
use Rattle.jv_limits.specs.Bytes.{bytes_of}
use Rattle.jv_program_base.specs.declared.failure.Failure.{Failure}
use Rattle.jv_program_base.specs.declared.failure.Failure.TheVariants.{Unreadable, StandardInput, LibraryRefused, Refused, FeedTooLong, TooManyFolders, NoGuest, HostMemory, OutOfMemory}
use Rattle.jv_program_base.specs.declared.folder.NamedFile.{NamedFile}
use Rattle.jv_program_base.specs.Disk.{Disk, IsListedAt, IsReadAt, IsReadOf, LacksFile, LacksFileUpTo, LacksFolder, LacksFolderUpTo}
use Rattle.jv_program_base.specs.Folder.{AreClassFilesOf, AreClassNames, IsFileIn, IsMainIn, file_name, path_in}
use Rattle.jv_program_base.specs.Names.{is_listed_name}
use Rattle.jv_program_base.specs.Unread.{IsFirstMissing, IsNoClassFile, IsNoFile, IsUnread}
use Rattle.jv_program_base.specs.Inside.Reading.{IsNoFileOf}
use Rattle.jv_program_base.proofs.Places.{found_in_map, some_same}

-- ---- what an error of the system is told as

pub failure_told : {K : Type 0} (kind memory : K) (Holds : List ℕ → Type 0) (told : Vec ℕ) (failure : Failure)
    → ((kind ≡ memory) × (failure ≡ OutOfMemory)) ⊎ ((kind ≢ memory) × (failure ≡ Unreadable told)) → (kind ≡ memory) ⊎ Holds told.items
    → IsUnread Holds failure
failure_told kind memory Holds told failure is why = elim is [
  | inl short ↦ subst (IsUnread Holds) (sym short.1) tt
  | inr other ↦ subst (IsUnread Holds) (sym other.1) (elim why [
    | inl short ↦ absurd (other.0 short)
    | inr holds ↦ holds
  ])
]

-- what is said less of what is told
pub weaker : (P Q : List ℕ → Type 0) (failure : Failure) → ((told : List ℕ) → P told → Q told) → IsUnread P failure → IsUnread Q failure
weaker P Q (Unreadable told) to h = to told.items h
weaker P Q OutOfMemory to h = tt
weaker P Q StandardInput to h = absurd h
weaker P Q (LibraryRefused name reason) to h = absurd h
weaker P Q (Refused fault) to h = absurd h
weaker P Q FeedTooLong to h = absurd h
weaker P Q TooManyFolders to h = absurd h
weaker P Q NoGuest to h = absurd h
weaker P Q HostMemory to h = absurd h

pub weaker_err : {T : Type 0} (result : Result T Failure) (P Q : List ℕ → Type 0) → ((told : List ℕ) → P told → Q told)
    → IfErr result (IsUnread P) → IfErr result (IsUnread Q)
weaker_err result P Q to h = IfErr-weaker result (IsUnread P) (IsUnread Q) (λ failure. weaker P Q failure to) h

-- ---- nothing, or nothing of at most so many bytes

none_there : (limit : ℕ) (there : Option (List ℕ)) → there ≡ None → IfSome there (λ bytes. limit < length bytes)
none_there limit None e = tt
none_there limit (Some bytes) e = absurd cc

longer : (limit : ℕ) (there : Option (List ℕ)) (bytes : List ℕ) → IsReadOf there limit bytes → limit < length bytes
    → IfSome there (λ all. limit < length all)
longer limit None bytes read more = absurd cc
longer limit (Some all) bytes read more = elim (cases_lt limit (length all)) [
  | inl long ↦ long
  | inr short ↦
      let same : bytes ≡ all = sym (some_same (take (limit + 1) all) bytes read) ∙ take_all (limit + 1) all (omega (arith, short)) in
      let count : length bytes ≡ length all = ap length same in
      absurd (omega (arith, more, count, short))
]

pub no_file : (limit : ℕ) (disk : Option Disk) (path : List ℕ) → LacksFile disk path → LacksFileUpTo limit disk path
no_file limit None path h = tt
no_file limit (Some disk) path h = λ sure. none_there limit (disk.file path) (h sure)

pub no_folder : (limit : ℕ) (disk : Option Disk) (path : List ℕ) → LacksFolder disk path → LacksFolderUpTo limit disk path
no_folder limit None path h = tt
no_folder limit (Some disk) path h = λ sure. none_there limit (disk.listing path) (h sure)

pub long_file : (limit : ℕ) (disk : Option Disk) (path bytes : List ℕ) → IsReadAt disk path limit bytes → limit < length bytes
    → LacksFileUpTo limit disk path
long_file limit None path bytes read more = tt
long_file limit (Some disk) path bytes read more = λ sure. longer limit (disk.file path) bytes read more

pub long_listing : (limit : ℕ) (disk : Option Disk) (path bytes : List ℕ) → IsListedAt disk path limit bytes → limit < length bytes
    → LacksFolderUpTo limit disk path
long_listing limit None path bytes read more = tt
long_listing limit (Some disk) path bytes read more = λ sure. longer limit (disk.listing path) bytes read more

-- ---- class files

-- the file of the name at a place, behind those that were read
pub first_missing : (disk now : Option Disk) (word : List ℕ) (names : List (Bor (List ℕ))) (k : ℕ) (name : Bor (List ℕ)) (before : List NamedFile) (failure : Failure)
    → now ≡ disk → slice_get names k ≡ Some name → map file_name before ≡ map bytes_of (take k names) → All (IsFileIn disk word) before
    → IsUnread (IsNoFile now (path_in word name.now)) failure → IsUnread (IsFirstMissing disk word (map bytes_of names)) failure
first_missing disk now word names k name before failure same found named read h =
    weaker (IsNoFile now (path_in word name.now)) (IsFirstMissing disk word (map bytes_of names)) failure
    (λ told lacks. record {
      before = before;
      read = read;
      place = k;
      named = named ∙ sym (take-map bytes_of k names);
      name = name.now;
      found = found_in_map bytes_of names k name found;
      lacks = subst (λ (d : Option Disk). IsNoFile d (path_in word name.now) told) same lacks;
    }) h

-- ---- folders

-- a class file, where those before it are in byte order
pub class_file_lacks : {T : Type 0} (disk : Option Disk) (word : List ℕ) (names classes : List (List ℕ)) (result : Result T Failure)
    → AreClassNames names classes → IfErr result (IsUnread (IsFirstMissing disk word classes)) → IfErr result (IsUnread (IsNoClassFile disk word names))
class_file_lacks disk word names classes result order h =
    weaker_err result (IsFirstMissing disk word classes) (IsNoClassFile disk word names) (λ told first. (classes, order, first)) h

module _ (disk now : Option Disk) (word : List ℕ) (names : List (List ℕ)) (before : List NamedFile) (same : now ≡ disk)
    (read : AreClassFilesOf disk word names before) where
  pub main_lacks : (failure : Failure) → IsUnread (λ told. (told ≡ path_in word (codes "main")) × LacksFileUpTo 4194304 now told) failure
      → IsUnread (IsNoFileOf disk word names) failure
  main_lacks failure h =
      weaker (λ told. (told ≡ path_in word (codes "main")) × LacksFileUpTo 4194304 now told) (IsNoFileOf disk word names) failure
      (λ told lacks. inr (inl (record {
        before = before;
        read = read;
        path = lacks.0;
        lacks = subst (λ (d : Option Disk). LacksFileUpTo 4194304 d told) same lacks.1;
      }))) h

  pub input_lacks : (main : List ℕ) (failure : Failure) → IsMainIn disk word main → is_listed_name (codes "input") names ≡ true
      → IsUnread (IsNoFile now (path_in word (codes "input"))) failure → IsUnread (IsNoFileOf disk word names) failure
  input_lacks main failure main_read listed h =
      weaker (IsNoFile now (path_in word (codes "input"))) (IsNoFileOf disk word names) failure
      (λ told lacks. inr (inr (record {
        before = before;
        read = read;
        main = main;
        main_read = main_read;
        listed = listed;
        lacks = subst (λ (d : Option Disk). IsNoFile d (path_in word (codes "input")) told) same lacks;
      }))) h
