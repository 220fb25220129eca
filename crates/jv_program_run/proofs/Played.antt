-- Guests that were admitted have had their turns.
use Rattle.std.proofs.Common.{◌≡◌, ◌≢◌, ℕ, zero, suc, ◌+◌, ◌-◌, ◌<◌, ◌≤◌, Bool, true, false, cond, List, [], ◌∷◌, length, Option, Some, None, Result, Ok, Err, refl, sym, ap, subst, ◌∙◌, inl, inr, arith}
use Rattle.std.specs.Prelude.{◌==◌, ◌||◌, IfErr, IsSome, map, nat_lt, slice_get}
use Rattle.std.specs.Io.KnownBytes.{IsAtEnd}
use Rattle.std.proofs.lemmas.Bool.{cases_lt, eq-eqb, lt-ltb, ne_eqb}
use Rattle.std.proofs.lemmas.List.{length-map}
use Rattle.jv_meaning_machine.specs.Start.{Budget}
use Rattle.jv_meaning_machine.specs.Alone.{Feed}
use Rattle.jv_host.specs.Started.{budget_of}
use Rattle.jv_host.specs.Host.{Admission, input_bytes}
use Rattle.jv_host.specs.Calls.{NoneRuns}
use Rattle.jv_host.proofs.Places.{same_or_other}
use Rattle.jv_program_base.specs.declared.failure.Failure.{Failure}
use Rattle.jv_program_base.specs.declared.failure.Failure.TheVariants.{Unreadable, StandardInput, LibraryRefused, Refused, FeedTooLong, TooManyFolders, NoGuest, HostMemory, OutOfMemory}
use Rattle.jv_program_run.specs.declared.settings.RunSettings.{RunSettings}
use Rattle.jv_program_run.specs.Feeding.{AreFeedsFrom, feeds_to, is_no_guest}
use Rattle.jv_program_run.specs.Guests.{NamedGuest}
use Rattle.jv_program_run.specs.Outcome.{AreAllowed, IsFirstWithin, IsGuestsFailure}
use Rattle.jv_program_run.specs.Inside.Play.{HasRun, IsAdmitFailure, IsFeedingFailure, at_start}
use Rattle.jv_program_run.specs.Inside.Turns.{AreAtStart, IsFedRun, NoneFed, OnlyFed, PlayedSince, ReadSoFar, SomeWent}
use Rattle.jv_program_base.proofs.Places.{some_same, within}

-- an item of a list that is made of another
from_map : {A B : Type 0} (f : A → B) (xs : List A) (k : ℕ) (y : B) → slice_get (map f xs) k ≡ Some y → (x : A) × (slice_get xs k ≡ Some x) × (y ≡ f x)
from_map f [] k y e = absurd cc
from_map f (x ∷ xs) zero y e = (x, refl, sym (some_same (f x) y e))
from_map f (x ∷ xs) (suc k) y e = from_map f xs k y e

pub some_there : {A : Type 0} (xs : List A) (k : ℕ) → k < length xs → IsSome (slice_get xs k)
some_there [] k lt = absurd (omega (arith, lt))
some_there (x ∷ xs) zero lt = refl
some_there (x ∷ xs) (suc k) lt = some_there xs k (omega (arith, lt))

-- the guest that is fed is one of so many
neither : (a b : Bool) → (a || b) ≡ false → b ≡ false
neither false b e = e
neither true b e = absurd cc

not_none : (number count : ℕ) → is_no_guest (Some number) count ≡ false → (1 ≤ number) × (number ≤ count)
not_none zero count e = absurd cc
not_none (suc number) count e =
    elim (cases_lt count (suc number)) [
      | inl less ↦
          let more : nat_lt count (suc number) ≡ true = lt-ltb count (suc number) less in
          let none : nat_lt count (suc number) ≡ false = neither (suc number == 0) (nat_lt count (suc number)) e in
          let bad : true ≡ false = sym more ∙ none in
          absurd cc
      | inr least ↦ (omega arith, least)
    ]

pub one_of : (stdin : Option ℕ) (number count : ℕ) → stdin ≡ Some number → is_no_guest stdin count ≡ false → (1 ≤ number) × (number ≤ count)
one_of stdin number count is there = not_none number count (subst (λ (o : Option ℕ). is_no_guest o count ≡ false) is there)

module _ (b : Budget) (guests : List NamedGuest) (host : List Admission) (started : host ≡ map (at_start b) guests) where
  pub in_guests : (place : ℕ) (a : Admission) → slice_get host place ≡ Some a → (named : NamedGuest) × (slice_get guests place ≡ Some named) × (a ≡ at_start b named)
  in_guests place a found = from_map (at_start b) guests place a (ap (λ (l : List Admission). slice_get l place) (sym started) ∙ found)

  pub all_at_start : AreAtStart host
  all_at_start place a found =
      let it = in_guests place a found in
      (ap (λ (x : Admission). x.steps) it.2, ap (λ (x : Admission). x.feeds) it.2)

  -- the guest that is fed is there
  pub fed_there : (stdin : Option ℕ) (number count : ℕ) → length guests ≡ count → stdin ≡ Some number → is_no_guest stdin count ≡ false → IsSome (slice_get host (number - 1))
  fed_there stdin number count same is there =
      let it = one_of stdin number count is there in
      let least = it.0 in
      let most = it.1 in
      let all : length host ≡ length guests = ap length started ∙ length-map guests (at_start b) in
      some_there host (number - 1) (omega (arith, least, most, all, same))

-- ---- no guest is fed

pub unfed_run : (s : RunSettings) (guests : List NamedGuest) (old new : List Admission) (before : Option (List ℕ)) (m : ℕ) → s.stdin ≡ None
    → old ≡ map (at_start (budget_of s.budget)) guests → m ≤ s.rounds → PlayedSince s.quantum m old new → NoneFed new → (m < s.rounds → NoneRuns new)
    → (1 ≤ s.quantum → SomeWent s.quantum m new) → HasRun s guests before before new
unfed_run s guests old new before m none started most played unfed full needed = record {
  start = old;
  started = started;
  rounds = m;
  most = most;
  played = played;
  feeds = [];
  input = subst (λ (o : Option ℕ). AreFeedsFrom o m [] before before) (sym none) (refl, refl);
  fed = λ place a found. unfed place a found ∙ sym (ap (λ (o : Option ℕ). feeds_to o [] place) none);
  fits = λ place a found some. absurd (some (unfed place a found));
  full = full;
  needed = needed;
}

-- ---- one is

pub read_to_end : (id m : ℕ) (host : List Admission) (b0 b1 : Option (List ℕ)) (more : Bool) (read : ReadSoFar id m host b0 b1 more) → length read.a.feeds < m → IsAtEnd b1
read_to_end id m host b0 b1 true read lt = let all : length read.a.feeds ≡ m = read.each refl in absurd (omega (arith, all, lt))
read_to_end id m host b0 b1 false read lt = read.end refl

-- what came to each guest where none but one was fed
pub feeds_there :
    (stdin : Option ℕ) (number : ℕ) (host : List Admission) (fed : Admission) → stdin ≡ Some number → 1 ≤ number → slice_get host (number - 1) ≡ Some fed
    → OnlyFed (number - 1) host → (place : ℕ) (a : Admission) → slice_get host place ≡ Some a → a.feeds ≡ feeds_to stdin fed.feeds place
feeds_there stdin number host fed some least there only place a found =
    subst (λ (o : Option ℕ). a.feeds ≡ feeds_to o fed.feeds place) (sym some)
    (elim (same_or_other number (place + 1)) [
      | inl same ↦
          let here : number - 1 ≡ place = omega (arith, same) in
          let it : fed ≡ a = some_same fed a (sym (subst (λ (k : ℕ). slice_get host k ≡ Some fed) here there) ∙ found) in
          ap (λ (x : Admission). x.feeds) (sym it) ∙ sym (ap (λ (b : Bool). cond b fed.feeds []) (eq-eqb number (place + 1) same))
      | inr other ↦
          let beside : place ≢ number - 1 = λ e. other (omega (arith, e, least)) in
          only place a found beside ∙ sym (ap (λ (b : Bool). cond b fed.feeds []) (ne_eqb number (place + 1) other))
    ])

pub fed_run : (s : RunSettings) (guests : List NamedGuest) (old new : List Admission) (b0 b1 : Option (List ℕ)) (m number : ℕ) → s.stdin ≡ Some number → 1 ≤ number
    → old ≡ map (at_start (budget_of s.budget)) guests → IsFedRun s.quantum s.rounds (number - 1) old new b0 b1 m → HasRun s guests b0 b1 new
fed_run s guests old new b0 b1 m number some least started run =
    let read = run.read in
    let feeds = read.a.feeds in
    record {
      start = old;
      started = started;
      rounds = m;
      most = run.few;
      played = run.played;
      feeds = feeds;
      input = subst (λ (o : Option ℕ). AreFeedsFrom o m feeds b0 b1) (sym some)
          (record { few = read.few; pieces = read.pieces; bytes = read.bytes; end = read_to_end (number - 1) m new b0 b1 run.more read; unread = read.unread });
      fed = feeds_there s.stdin number new read.a some least read.found run.only;
      fits = λ place a found some.
          elim (same_or_other number (place + 1)) [
            | inl same ↦
                let here : number - 1 ≡ place = omega (arith, same) in
                let it : read.a ≡ a = some_same read.a a (sym (subst (λ (k : ℕ). slice_get new k ≡ Some read.a) here read.found) ∙ found) in
                subst (λ (x : Admission). x.feeds ≢ [] → input_bytes x ≤ 16777216) it read.fits some
            | inr other ↦
                let beside : place ≢ number - 1 = λ e. other (omega (arith, e, least)) in
                absurd (some (run.only place a found beside))
          ];
      full = run.full;
      needed = run.needed;
    }

-- ---- why there is no report

-- where none is fed nothing was read
pub unfed_unread : (fed : Option ℕ) (rounds : ℕ) (feeds : List Feed) (before after : Option (List ℕ)) → fed ≡ None
    → AreFeedsFrom fed rounds feeds before after → after ≡ before
unfed_unread None rounds feeds before after none read = read.1
unfed_unread (Some number) rounds feeds before after none read = absurd cc

module _ (s : RunSettings) (guests : List NamedGuest) (b0 : Option (List ℕ)) where
  pub not_admitted : (failure : Failure) → IsAdmitFailure (budget_of s.budget) guests failure → IsGuestsFailure s guests b0 b0 failure
  not_admitted (Refused fault) h = (h, refl)
  not_admitted HostMemory h = (h, λ _. refl)
  not_admitted StandardInput h = absurd h
  not_admitted FeedTooLong h = absurd h
  not_admitted (Unreadable name) h = absurd h
  not_admitted (LibraryRefused name reason) h = absurd h
  not_admitted TooManyFolders h = absurd h
  not_admitted NoGuest h = absurd h
  not_admitted OutOfMemory h = absurd h

module _ (s : RunSettings) (guests : List NamedGuest) (b0 b1 : Option (List ℕ)) where
  first_allowed : AreAllowed (budget_of s.budget) guests (length guests) → IsFirstWithin (budget_of s.budget) guests
  first_allowed all named found = (all 0 named (within guests 0 named found) found).0

  pub not_played : (failure : Failure) → AreAllowed (budget_of s.budget) guests (length guests) → IsFeedingFailure s guests b0 b1 failure
      → IsGuestsFailure s guests b0 b1 failure
  not_played StandardInput all h = (all, h)
  not_played FeedTooLong all h = (all, h)
  not_played HostMemory all h = (first_allowed all, λ none. absurd (h none))
  not_played (Unreadable name) all h = absurd h
  not_played (LibraryRefused name reason) all h = absurd h
  not_played (Refused fault) all h = absurd h
  not_played TooManyFolders all h = absurd h
  not_played NoGuest all h = absurd h
  not_played OutOfMemory all h = absurd h

  pub failed_later : {T : Type 0} (result : Result T Failure) → AreAllowed (budget_of s.budget) guests (length guests)
      → IfErr result (IsFeedingFailure s guests b0 b1) → IfErr result (IsGuestsFailure s guests b0 b1)
  failed_later (Ok t) all h = tt
  failed_later (Err failure) all h = not_played failure all h
