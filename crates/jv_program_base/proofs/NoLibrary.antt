-- Files of a folder that are no library.
use Rattle.std.proofs.Common.{◌≡◌, ℕ, List, Option, Some, subst}
use Rattle.std.specs.Prelude.{IfErr, Result, Ok, Err}
use Rattle.jv_program_base.specs.declared.failure.Failure.{Failure}
use Rattle.jv_program_base.specs.declared.failure.Failure.TheVariants.{Unreadable, StandardInput, LibraryRefused, Refused, FeedTooLong, TooManyFolders, NoGuest, HostMemory, OutOfMemory}
use Rattle.jv_program_base.specs.declared.folder.NamedFile.{NamedFile}
use Rattle.jv_program_base.specs.Disk.{Disk}
use Rattle.jv_program_base.specs.Folder.{AreClassFilesIn}
use Rattle.jv_program_base.specs.Inside.Reading.{IsRefusedIn}
use Rattle.jv_program_base.specs.Library.{IsLibraryFailure}

refused : (disk : Option Disk) (library : Option (List ℕ)) (word : List ℕ) (files : List NamedFile) (failure : Failure) → library ≡ Some word
    → AreClassFilesIn disk word files → IsRefusedIn word files failure → IsLibraryFailure disk library failure
refused disk library word files (LibraryRefused name reason) is read h = (word, is, files, read, h)
refused disk library word files OutOfMemory is read h = tt
refused disk library word files (Unreadable name) is read h = absurd h
refused disk library word files StandardInput is read h = absurd h
refused disk library word files (Refused fault) is read h = absurd h
refused disk library word files FeedTooLong is read h = absurd h
refused disk library word files TooManyFolders is read h = absurd h
refused disk library word files NoGuest is read h = absurd h
refused disk library word files HostMemory is read h = absurd h

pub no_library : {T : Type 0} (disk : Option Disk) (library : Option (List ℕ)) (word : List ℕ) (files lent : List NamedFile) (result : Result T Failure)
    → library ≡ Some word → AreClassFilesIn disk word files → lent ≡ files → IfErr result (IsRefusedIn word lent)
    → IfErr result (IsLibraryFailure disk library)
no_library disk library word files lent (Ok t) is read same h = tt
no_library disk library word files lent (Err failure) is read same h =
    refused disk library word files failure is read (subst (λ (fs : List NamedFile). IsRefusedIn word fs failure) same h)
