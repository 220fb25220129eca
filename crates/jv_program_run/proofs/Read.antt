-- Folders that are read one behind the other.
use Rattle.std.proofs.Common.{◌≡◌, ℕ, ◌+◌, Bool, true, false, List, [], ◌∷◌, ◌++◌, length, take, Bor, Option, Some, refl, sym, ap, subst, ◌∙◌, inl, inr, arith}
use Rattle.std.specs.Prelude.{◌||◌, map, slice_get}
use Rattle.std.proofs.lemmas.List.{take-map}
use Rattle.jv_program_base.specs.declared.failure.Failure.{Failure}
use Rattle.jv_program_base.specs.declared.folder.Folder.{Folder}
use Rattle.jv_limits.specs.Bytes.{bytes_of}
use Rattle.jv_program_base.specs.Disk.{Disk}
use Rattle.jv_program_base.specs.Folder.{IsFolderRead}
use Rattle.jv_program_base.specs.Unread.{IsNoFolder, IsUnread}
use Rattle.jv_program_run.specs.declared.settings.RunSettings.{RunSettings}
use Rattle.jv_program_run.specs.Feeding.{is_no_guest}
use Rattle.jv_program_run.specs.Named.{AreFoldersOf, IsFirstUnread, lacks_guest}
use Rattle.jv_program_base.proofs.NotRead.{weaker}
use Rattle.jv_program_base.proofs.Places.{found_in_map, length-more, map-take-more, pushed}

-- each guest that the settings name is one of so many
halves : (a b : Bool) → (a || b) ≡ false → (a ≡ false) × (b ≡ false)
halves false b e = (refl, e)
halves true b e = absurd cc

pub none_lacks : (s : RunSettings) (count : ℕ) → lacks_guest s count ≡ false → (is_no_guest s.stdin count ≡ false) × (is_no_guest s.raw count ≡ false)
none_lacks s count there = halves (is_no_guest s.stdin count) (is_no_guest s.raw count) there

folders-more : (disk : Option Disk) (words : List (List ℕ)) (folders : List Folder) (word : List ℕ) (folder : Folder) → AreFoldersOf disk words folders → IsFolderRead disk word folder
    → AreFoldersOf disk (words ++ word ∷ []) (folders ++ folder ∷ [])
folders-more disk words folders word folder before last =
    let same : length folders ≡ length words = before.count in
    record {
      count = length-more folders folder ∙ ap (λ (n : ℕ). n + 1) before.count ∙ sym (length-more words word);
      read = λ place w f there found. elim (pushed words word place w there) [
        | inl h ↦ elim (pushed folders folder place f found) [
          | inl i ↦ before.read place w f h.1 i.1
          | inr i ↦ absurd (let lt = h.0 in let at = i.0 in omega (arith, same, lt, at))
        ]
        | inr h ↦ elim (pushed folders folder place f found) [
          | inl i ↦ absurd (let lt = i.0 in let at = h.0 in omega (arith, same, lt, at))
          | inr i ↦ subst (λ (x : List ℕ). IsFolderRead disk x f) (sym h.1) (subst (λ (x : Folder). IsFolderRead disk word x) (sym i.1) last)
        ]
      ];
    }

-- one folder more, that of the next word
pub next_folder : (disk now : Option Disk) (words : List (Bor (List ℕ))) (k : ℕ) (word : Bor (List ℕ)) (folders : List Folder) (folder : Folder) (new : List Folder) → slice_get words k ≡ Some word
    → new ≡ folders ++ folder ∷ [] → AreFoldersOf disk (map bytes_of (take k words)) folders → now ≡ disk → IsFolderRead now word.now folder
    → AreFoldersOf disk (map bytes_of (take (k + 1) words)) new
next_folder disk now words k word folders folder new found after before same last =
    subst (λ (ws : List (List ℕ)). AreFoldersOf disk ws new) (sym (map-take-more bytes_of words k word found))
    (subst (λ (fs : List Folder). AreFoldersOf disk (map bytes_of (take k words) ++ word.now ∷ []) fs) (sym after)
    (folders-more disk (map bytes_of (take k words)) folders word.now folder before (subst (λ d. IsFolderRead d word.now folder) same last)))

-- the folder of the word at a place, behind those that were read
pub first_unread : (disk now : Option Disk) (words : List (Bor (List ℕ))) (k : ℕ) (word : Bor (List ℕ)) (before : List Folder) (failure : Failure) → now ≡ disk
    → slice_get words k ≡ Some word → AreFoldersOf disk (map bytes_of (take k words)) before
    → IsUnread (IsNoFolder now word.now) failure → IsUnread (IsFirstUnread disk (map bytes_of words)) failure
first_unread disk now words k word before failure same found read h =
    weaker (IsNoFolder now word.now) (IsFirstUnread disk (map bytes_of words)) failure
    (λ told lacks. record {
      before = before;
      place = k;
      read = subst (λ (ws : List (List ℕ)). AreFoldersOf disk ws before) (sym (take-map bytes_of k words)) read;
      word = word.now;
      found = found_in_map bytes_of words k word found;
      lacks = subst (λ (d : Option Disk). IsNoFolder d word.now told) same lacks;
    }) h
