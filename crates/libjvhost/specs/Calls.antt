-- What the calls of include/jvhost.h do, over the list of admissions that a handle stands for (own).
use Rattle.std.specs.Prelude.{◌≡◌, ◌≢◌, ℕ, ◌⊎◌, List, [], ◌∷◌, ◌++◌, Option, Some, None, length, map, take, drop, slice_get, is_some, nat_lt, if◌then◌else◌}
use Rattle.jv_limits.specs.FileLimits.{first_file_refusal}
use Rattle.jv_loader.specs.declared.library_fault.LibraryFault.{LibraryFault}
use Rattle.jv_loader.specs.declared.library_fault.LibraryFault.TheVariants as faults
use Rattle.jv_loader.specs.LibraryFault.{IsLibraryFault, IsSomeLibrary}
use Rattle.jv_meaning_world.specs.Library.{with_library}
use Rattle.jv_meaning_typing.specs.declared.verdict.Verdict.{Verdict}
use Rattle.jv_meaning_machine.specs.State.{End, ThrowPlace}
use Rattle.jv_meaning_machine.specs.State.{End as ends}
use Rattle.jv_meaning_machine.specs.Start.{Budget}
use Rattle.jv_meaning_machine.specs.Alone.{GuestFiles, Stands}
use Rattle.jv_meaning_machine.specs.Observation.{Observed}
use Rattle.jv_verify.specs.Files.{AreFilesOf, Verified}
use Rattle.jv_program_base.specs.Verdict.{verdict_text}
use Rattle.jv_host.specs.Host.{Admission, after_feed}
use Rattle.jv_host.specs.Calls.{admission, IsTurn, IsRun, IsShown}
use Rattle.jv_host.specs.Limits.{IsLibraryBroken, first_refusal, feed_refusal as first_feed_refusal}
use Rattle.libjvhost.specs.Codes.{ok, no_host, no_guest, no_file, host_memory, library_broken, no_library, no_place, no_room, wrong_verdict, admit_refusal, feed_refusal, IsAnswer}
use Rattle.libjvhost.specs.Told.{AreNumbers, IsFaultTold, IsTellable, told_verdict}
use Rattle.libjvhost.specs.declared.told.Seen.{Seen}
use Rattle.libjvhost.specs.declared.told.ToldFault.{ToldFault}
use Rattle.libjvhost.specs.declared.told.ToldVerdict.{ToldVerdict}

-- why files are no library: by their number or lengths, or by a fault, which is told
abbrev pub IsNoLibraryOf : (files : List (List ℕ)) → (code : ℕ) → ToldFault → Type 0
IsNoLibraryOf files code told =
    ((first_file_refusal files ≢ None) × (code ≡ admit_refusal (first_file_refusal files)))
    ⊎ ((code ≡ no_library) × (fault : LibraryFault) × (fault ≢ faults.OutOfMemory) × IsLibraryFault files fault × IsFaultTold told fault)

-- a host: the files of the library that its guests stand on, and its guests
pub record Hosted : Type 0 where
  pub library : List (List ℕ)
  pub guests : List Admission

-- the files of a host's library, none where there is no host
abbrev pub library_in : Option Hosted → List (List ℕ)
library_in None = []
library_in (Some host) = host.library

-- one without a guest
abbrev pub new_host : (library : List (List ℕ)) → Hosted
new_host library = record { library = library; guests = [] }

-- A host without a guest, on the library of these files; or none, since they are not as many, or as long, as those of a guest may be; or
-- are no library, and it is told why; or memory was refused.
pub record Makes (files : List (List ℕ)) (code : ℕ) (new : Option Hosted) (told : ToldFault) : Type 0 where
  pub made : code ≡ ok → (new ≡ Some (new_host files)) × (first_file_refusal files ≡ None) × IsSomeLibrary files
  pub none : code ≢ ok → new ≡ None
  pub why : code ≢ ok → (code ≡ host_memory) ⊎ (IsNoLibraryOf files code told)

-- A call on a handle does this to the guests of its host; where the handle holds no host, the code says so, and it holds none.
abbrev pub OverHost : Option Hosted → Option Hosted → (code : ℕ) → (List Admission → List Admission → Type 0) → Type 0
OverHost None new code Does = (code ≡ no_host) × (new ≡ None)
OverHost (Some old) new code Does =
    (after : List Admission) × (new ≡ Some (record old { guests = after })) × Does old.guests after

-- ---- calls that change the host

-- The answer is the first reason to refuse a guest, where the host holds so many, the last of which is that its library doesn't stand; or
-- ok, or that memory was refused.
abbrev pub IsAdmitAnswer : GuestFiles → Budget → (guests code : ℕ) → Type 0
IsAdmitAnswer g b guests code =
    IsAnswer (admit_refusal (first_refusal g b guests)) code
    ⊎ ((first_refusal g b guests ≡ None) × (code ≡ library_broken) × IsLibraryBroken g)

-- A guest is admitted with the next number, or refused.
pub record Admits (g : GuestFiles) (b : Budget) (old new : List Admission) (code id : ℕ) : Type 0 where
  pub answer : IsAdmitAnswer g b (length old) code
  pub admitted : code ≡ ok → new ≡ old ++ admission g b ∷ []
  pub number : code ≡ ok → id ≡ length old
  pub same : code ≢ ok → new ≡ old

-- No guest has the number, and the call says so.
abbrev pub IsNoGuest : List Admission → (id code : ℕ) → Type 0
IsNoGuest guests id code = (code ≡ no_guest) × (slice_get guests id ≡ None)

-- A guest has a turn of at most n steps, of which it took k.
pub record Turns (id n : ℕ) (old new : List Admission) (code k : ℕ) : Type 0 where
  pub turned : code ≡ ok → IsTurn old new id n k
  pub no_guest : code ≢ ok → IsNoGuest old id code
  pub same : code ≢ ok → new ≡ old

-- At most so many rounds of turns of at most n steps were m.
pub record Runs (n rounds : ℕ) (old new : List Admission) (code m : ℕ) : Type 0 where
  pub is_ok : code ≡ ok
  pub ran : IsRun n rounds old new m

-- Bytes come to a guest's input, or are refused.
pub record Feeds (id : ℕ) (bytes : List ℕ) (old new : List Admission) (code : ℕ) : Type 0 where
  pub answer : IsAnswer (feed_refusal (first_feed_refusal old id bytes)) code
  pub fed : code ≡ ok → new ≡ after_feed old id bytes
  pub same : code ≢ ok → new ≡ old

-- ---- calls that change nothing, and say what a guest shows alone after as many of its own steps

-- the guest with the number shows this
abbrev pub ShowsSome : List Admission → (id : ℕ) → (Observed → Type 0) → Type 0
ShowsSome guests id Tells = (o : Observed) × IsShown guests id o × Tells o

-- The call says of what the guest shows what it is to say, or that there is no guest.
pub record Observes (id : ℕ) (old new : List Admission) (code : ℕ) (Tells : Observed → Type 0) : Type 0 where
  pub same : new ≡ old
  pub told : code ≡ ok → ShowsSome old id Tells
  pub no_guest : code ≢ ok → IsNoGuest old id code

-- The same of a call that takes memory.
pub record Copies (id : ℕ) (old new : List Admission) (code : ℕ) (Tells : Observed → Type 0) : Type 0 where
  pub same : new ≡ old
  pub told : code ≡ ok → ShowsSome old id Tells
  pub refused : code ≢ ok → IsNoGuest old id code ⊎ (code ≡ host_memory)

-- the name of the class of what ended the guest, none where that is no object
abbrev pub end_class : End → List ℕ
end_class (ends.Threw class) = class
end_class _ = []

-- the name of the class of the last object that was thrown, none where none was
abbrev pub last_class : Option (List ℕ) → List ℕ
last_class None = []
last_class (Some class) = class

-- The verdict on one of a guest's files, or there is no such guest, or no such file.
pub record TellsVerdict (id file : ℕ) (old new : List Admission) (code : ℕ) (answer : ToldVerdict) : Type 0 where
  pub same : new ≡ old
  pub told :
      code ≡ ok → ShowsSome old id (λ o. (v : Verdict) × (slice_get o.verdicts file ≡ Some v) × (answer ≡ told_verdict v))
  pub refused :
      code ≢ ok → IsNoGuest old id code ⊎ ((code ≡ no_file) × ShowsSome old id (λ o. slice_get o.verdicts file ≡ None))

-- ---- room that the caller gave

-- The front of the room holds the front of these items, as many as fit, and the rest of it is as it was.
abbrev pub IsFilled : {X : Type 0} → (items old new : List X) → Type 0
IsFilled items old new = new ≡ take (length old) items ++ drop (length items) old

-- ---- where the last object was thrown

-- of what the guest shows there is a place, and so much is told of it
abbrev pub TellsOfPlace : (ThrowPlace → Type 0) → Observed → Type 0
TellsOfPlace Tells o = (p : ThrowPlace) × (o.place ≡ Some p) × Tells p

-- The call says of the place what it is to say; or the guest shows none, or there is no such guest, or memory was refused.
pub record Places (id : ℕ) (old new : List Admission) (code : ℕ) (Tells : ThrowPlace → Type 0) : Type 0 where
  pub same : new ≡ old
  pub told : code ≡ ok → ShowsSome old id (TellsOfPlace Tells)
  pub refused :
      code ≢ ok → IsNoGuest old id code ⊎ ((code ≡ no_place) × ShowsSome old id (λ o. o.place ≡ None)) ⊎ (code ≡ host_memory)

-- ---- calls without a host, and beside a host's library

-- the first reason not to judge files whose verdicts have this room, ok where there is none
abbrev pub check_refusal : (files : List (List ℕ)) → (room : ℕ) → ℕ
check_refusal files room =
    if is_some (first_file_refusal files) then admit_refusal (first_file_refusal files)
    else if nat_lt room (length files) then no_room
    else ok

-- A library of these files stands beside a guest's: each class that it gives or lends to is accepted. So much is told of what both hold.
pub record StandsBeside (library files : List (List ℕ)) (Tells : Verified → Type 0) : Type 0 where
  pub found : Verified
  pub right : AreFilesOf library files found
  pub stands : Stands found.world (with_library right.given)
  pub told : Tells found

-- it doesn't
pub record IsBrokenBeside (library files : List (List ℕ)) : Type 0 where
  pub found : Verified
  pub right : AreFilesOf library files found
  pub broken : Stands found.world (with_library right.given) → ⊥

-- The answer is the first reason not to judge files beside a library, the last of which is that it doesn't stand there; or ok, or that
-- memory was refused.
abbrev pub IsCheckAnswer : (library files : List (List ℕ)) → (room code : ℕ) → Type 0
IsCheckAnswer library files room code =
    IsAnswer (check_refusal files room) code
    ⊎ ((check_refusal files room ≡ ok) × (code ≡ library_broken) × IsBrokenBeside library files)

-- The verdicts on the files of one guest, beside a library of these, fill the front of the room, or they are refused.
pub record Checks (library files : List (List ℕ)) (code : ℕ) (old new : List ToldVerdict) : Type 0 where
  pub answer : IsCheckAnswer library files (length old) code
  pub told : code ≡ ok → StandsBeside library files (λ found. IsFilled (map told_verdict found.verdicts) old new)
  pub same : code ≢ ok → new ≡ old

-- The guest, alone in a host, had a turn of at most n steps, and so much is told of what it shows then.
abbrev pub IsJudged : GuestFiles → Budget → (n : ℕ) → (Observed → Type 0) → Type 0
IsJudged g b n Tells =
    (guests : List Admission) × (k : ℕ) × IsTurn (admission g b ∷ []) guests 0 n k × ShowsSome guests 0 Tells

-- So it is, with these numbers, and what it wrote fills the front of the room; or it is refused.
pub record Judges (g : GuestFiles) (b : Budget) (n code : ℕ) (seen : Seen) (old new : List ℕ) : Type 0 where
  pub answer : IsAdmitAnswer g b 0 code
  pub judged : code ≡ ok → IsJudged g b n (λ o. AreNumbers seen o × IsFilled o.output old new)
  pub same : code ≢ ok → new ≡ old

-- no verdict is told so, and the call says so
abbrev pub IsNoVerdict : ToldVerdict → (code : ℕ) → Type 0
IsNoVerdict told code = (code ≡ wrong_verdict) × ((v : Verdict) → IsTellable v → told ≢ told_verdict v)

-- The text of the verdict that is told fills the front of the room, and the count is its length; or no verdict is told so.
pub record TellsText (told : ToldVerdict) (code : ℕ) (old new : List ℕ) (count : ℕ) : Type 0 where
  pub text :
      code ≡ ok → (v : Verdict) × (told ≡ told_verdict v) × IsFilled (verdict_text v) old new × (count ≡ length (verdict_text v))
  pub refused : code ≢ ok → IsNoVerdict told code ⊎ (code ≡ host_memory)
  pub same : code ≢ ok → new ≡ old
