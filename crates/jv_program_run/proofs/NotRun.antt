-- Why there is no report on folders.
use Rattle.std.proofs.Common.{◌≡◌, ◌≢◌, ℕ, List, Option, Some, None, inl, inr, refl, sym, subst, map, ◌∙◌}
use Rattle.jv_program_base.specs.declared.failure.Failure.{Failure}
use Rattle.jv_program_base.specs.declared.failure.Failure.TheVariants.{Unreadable, StandardInput, LibraryRefused, Refused, FeedTooLong, TooManyFolders, NoGuest, HostMemory, OutOfMemory}
use Rattle.jv_program_base.specs.declared.folder.Folder.{Folder}
use Rattle.jv_program_run.specs.declared.settings.RunSettings.{RunSettings}
use Rattle.jv_program_base.specs.Disk.{Disk}
use Rattle.jv_program_base.specs.Library.{AreLibraryFiles, IsLibraryFailure}
use Rattle.jv_program_base.specs.Unread.{IsUnread}
use Rattle.jv_program_run.specs.Guests.{NamedGuest, named_guest}
use Rattle.jv_program_run.specs.Named.{AreFoldersOf, AreReady, AreTaken, IsFirstUnread, IsInputFailure, IsRunFailure, reads_all}
use Rattle.jv_program_run.specs.Outcome.{IsGuestsFailure}

-- no guest has all of the input, where none is fed and no output is wanted as it is
abbrev all_of : (fed raw : Option ℕ) → Option ℕ
all_of fed raw = elim fed [ Some number ↦ None | None ↦ raw ]

none_all : (fed raw : Option ℕ) → fed ≡ None → raw ≡ None → all_of fed raw ≡ None
none_all None raw unfed none = none
none_all (Some number) raw unfed none = absurd cc

-- so nothing was read of it
unread_all : (s : RunSettings) (own guests : List NamedGuest) (before middle : Option (List ℕ)) → s.stdin ≡ None → s.raw ≡ None
    → AreReady (reads_all s) own guests before middle → middle ≡ before
unread_all s own guests before middle unfed none ready =
    (subst (λ (all : Option ℕ). AreReady all own guests before middle) (none_all s.stdin s.raw unfed none) ready).1

module _ (disk : Option Disk) (s : RunSettings) (library : Option (List ℕ)) (words : List (List ℕ)) (taken : AreTaken s words) where
  -- there is no library
  pub no_library : (before : Option (List ℕ)) (failure : Failure) → IsLibraryFailure disk library failure
      → IsRunFailure disk s library words before before failure
  no_library before (Unreadable told) h = (taken, inl h, refl)
  no_library before (LibraryRefused name reason) h = (taken, h, refl)
  no_library before OutOfMemory h = (taken, λ _ _. refl)
  no_library before StandardInput h = absurd h
  no_library before (Refused fault) h = absurd h
  no_library before FeedTooLong h = absurd h
  no_library before TooManyFolders h = absurd h
  no_library before NoGuest h = absurd h
  no_library before HostMemory h = absurd h

  -- it was read, and a folder was not
  pub not_read : (now : Option Disk) (given : List (List ℕ)) (before : Option (List ℕ)) (failure : Failure) → now ≡ disk → AreLibraryFiles disk library given
      → IsUnread (IsFirstUnread now words) failure → IsRunFailure disk s library words before before failure
  not_read now given before (Unreadable told) same gives h =
      (taken, inr ((given, gives), subst (λ (d : Option Disk). IsFirstUnread d words told.items) same h), refl)
  not_read now given before OutOfMemory same gives h = (taken, λ _ _. refl)
  not_read now given before (LibraryRefused name reason) same gives h = absurd h
  not_read now given before StandardInput same gives h = absurd h
  not_read now given before (Refused fault) same gives h = absurd h
  not_read now given before FeedTooLong same gives h = absurd h
  not_read now given before TooManyFolders same gives h = absurd h
  not_read now given before NoGuest same gives h = absurd h
  not_read now given before HostMemory same gives h = absurd h

  -- all were, and the input could not be read for the guest that has all of it
  pub no_input : (given : List (List ℕ)) (folders : List Folder) (before after : Option (List ℕ)) (failure : Failure) → AreLibraryFiles disk library given
      → AreFoldersOf disk words folders → IsInputFailure failure × (reads_all s ≢ None) → IsRunFailure disk s library words before after failure
  no_input given folders before after failure gives read h = elim h.0 [
    | inl e ↦ subst (λ (f : Failure). IsRunFailure disk s library words before after f) (sym e) (inl (taken, (given, gives), (folders, read), h.1))
    | inr e ↦
        subst (λ (f : Failure). IsRunFailure disk s library words before after f) (sym e)
        (taken, λ unfed none. absurd (h.1 (none_all s.stdin s.raw unfed none)))
  ]

  -- it lies with their guests
  pub not_run : (given : List (List ℕ)) (folders : List Folder) (guests : List NamedGuest) (before middle after : Option (List ℕ)) (failure : Failure) → AreLibraryFiles disk library given
      → AreFoldersOf disk words folders → AreReady (reads_all s) (map (named_guest given) folders) guests before middle → IsGuestsFailure s guests middle after failure
      → IsRunFailure disk s library words before after failure
  not_run given folders guests before middle after StandardInput gives read ready h =
      inr (record { taken = taken; given = given; gives = gives; folders = folders; read = read; guests = guests; middle = middle; ready = ready; failed = h })
  not_run given folders guests before middle after (Refused fault) gives read ready h =
      record { taken = taken; given = given; gives = gives; folders = folders; read = read; guests = guests; middle = middle; ready = ready; failed = h }
  not_run given folders guests before middle after FeedTooLong gives read ready h =
      record { taken = taken; given = given; gives = gives; folders = folders; read = read; guests = guests; middle = middle; ready = ready; failed = h }
  not_run given folders guests before middle after HostMemory gives read ready h =
      record { taken = taken; given = given; gives = gives; folders = folders; read = read; guests = guests; middle = middle; ready = ready; failed = h }
  not_run given folders guests before middle after OutOfMemory gives read ready h =
      (taken, λ unfed none. h unfed ∙ unread_all s (map (named_guest given) folders) guests before middle unfed none ready)
  not_run given folders guests before middle after (Unreadable name) gives read ready h = absurd h
  not_run given folders guests before middle after (LibraryRefused name reason) gives read ready h = absurd h
  not_run given folders guests before middle after TooManyFolders gives read ready h = absurd h
  not_run given folders guests before middle after NoGuest gives read ready h = absurd h
