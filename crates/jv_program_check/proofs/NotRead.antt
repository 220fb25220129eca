-- Files of which one was not read.
use Rattle.std.proofs.Common.{◌≡◌, ℕ, map, take, List, Bor, Option, Some, sym, subst, inl, inr}
use Rattle.std.proofs.lemmas.List.{take-map}
use Rattle.std.specs.Prelude.{slice_get}
use Rattle.std.specs.Global.{Vec}
use Rattle.jv_limits.specs.Bytes.{bytes_of}
use Rattle.jv_program_base.specs.declared.failure.Failure.{Failure}
use Rattle.jv_program_base.specs.Disk.{Disk}
use Rattle.jv_program_base.specs.Library.{AreLibraryFiles}
use Rattle.jv_program_base.specs.Unread.{IsNoFile, IsUnread}
use Rattle.jv_program_base.proofs.NotRead.{weaker}
use Rattle.jv_program_base.proofs.Places.{found_in_map}
use Rattle.jv_program_check.specs.Named.{AreFilesAt, IsFirstUnread, IsNamedFailure}

-- the file of the name at a place, behind those that were read
pub first_unread : (disk now : Option Disk) (names : List (Bor (List ℕ))) (k : ℕ) (name : Bor (List ℕ)) (before : List (Vec ℕ)) (failure : Failure) → now ≡ disk
    → slice_get names k ≡ Some name → AreFilesAt disk (map bytes_of (take k names)) (map (λ file. file.items) before)
    → IsUnread (IsNoFile now name.now) failure → IsUnread (IsFirstUnread disk (map bytes_of names)) failure
first_unread disk now names k name before failure same found read h =
    weaker (IsNoFile now name.now) (IsFirstUnread disk (map bytes_of names)) failure
    (λ told lacks. record {
      before = map (λ file. file.items) before;
      place = k;
      read = subst (λ (ns : List (List ℕ)). AreFilesAt disk ns (map (λ file. file.items) before)) (sym (take-map bytes_of k names)) read;
      name = name.now;
      found = found_in_map bytes_of names k name found;
      lacks = subst (λ (d : Option Disk). IsNoFile d name.now told) same lacks;
    }) h

-- behind a library that was read
pub named_unread : (disk now : Option Disk) (library : Option (List ℕ)) (names given : List (List ℕ)) (failure : Failure) → now ≡ disk → AreLibraryFiles disk library given
    → IsUnread (IsFirstUnread now names) failure → IsNamedFailure disk library names failure
named_unread disk now library names given failure same gives h =
    inr (inl ((given, gives), subst (λ (d : Option Disk). IsUnread (IsFirstUnread d names) failure) same h))
