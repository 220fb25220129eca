-- Guests that are admitted one behind the other.
use Rattle.std.proofs.Common.{◌≡◌, ◌≢◌, ℕ, ◌+◌, ◌<◌, ◌≤◌, List, [], ◌∷◌, ◌++◌, length, take, Option, Some, None, refl, sym, ap, subst, ◌∙◌, inl, inr, arith}
use Rattle.std.specs.Prelude.{map, slice_get}
use Rattle.std.proofs.Math.Nat.{eq-or-lt_of_le}
use Rattle.std.proofs.lemmas.List.{length-map}
use Rattle.jv_meaning_machine.specs.Start.{Budget}
use Rattle.jv_meaning_machine.specs.Alone.{GuestFiles}
use Rattle.jv_limits.specs.declared.fault.AdmitFault.{AdmitFault}
use Rattle.jv_limits.specs.declared.fault.AdmitFault.TheVariants as refusals
use Rattle.jv_host.specs.Host.{Admission}
use Rattle.jv_host.specs.Calls.{admission}
use Rattle.jv_host.specs.Limits.{IsRefused, LibraryStands, first_refusal}
use Rattle.jv_program_run.specs.declared.brought.Brought.{Brought}
use Rattle.jv_program_base.specs.Failure.{failure_of}
use Rattle.jv_program_run.specs.Guests.{NamedGuest}
use Rattle.jv_program_run.specs.Outcome.{AreAllowed, IsFirstWithin, IsRefusedAmong}
use Rattle.jv_program_run.specs.Inside.Brought.{named_guest_of}
use Rattle.jv_program_run.specs.Inside.Play.{IsAdmitFailure, at_start}
use Rattle.jv_program_base.proofs.Places.{found_in_map, length-taken, map-more, map-take-more, some_same}

pub allowed-more : (b : Budget) (guests : List NamedGuest) (k : ℕ) (named : NamedGuest) → slice_get guests k ≡ Some named → first_refusal named.guest b k ≡ None
    → LibraryStands named.guest → AreAllowed b guests k → AreAllowed b guests (k + 1)
allowed-more b guests k named found free stands before place other lt there =
    let least : place ≤ k = omega (arith, lt) in
    elim (eq-or-lt_of_le least) [
      | inl same ↦
          let here : slice_get guests k ≡ Some other = subst (λ (n : ℕ). slice_get guests n ≡ Some other) same there in
          let item : named ≡ other = some_same named other (sym found ∙ here) in (
            subst (λ (n : ℕ). first_refusal other.guest b n ≡ None) (sym same)
                (subst (λ (x : NamedGuest). first_refusal x.guest b k ≡ None) item free),
            subst (λ (x : NamedGuest). LibraryStands x.guest) item stands,
          )
      | inr less ↦ before place other less there
    ]

first_within : (b : Budget) (guests : List NamedGuest) (k : ℕ) (named : NamedGuest) → slice_get guests k ≡ Some named → first_refusal named.guest b k ≡ None
    → AreAllowed b guests k → IsFirstWithin b guests
first_within b guests k named found free before other there =
    elim (eq-or-lt_of_le least) [
      | inl same ↦
          let here : slice_get guests k ≡ Some other = subst (λ (n : ℕ). slice_get guests n ≡ Some other) same there in
          let item : named ≡ other = some_same named other (sym found ∙ here) in
          subst (λ (n : ℕ). first_refusal other.guest b n ≡ None) (sym same) (subst (λ (x : NamedGuest). first_refusal x.guest b k ≡ None) item free)
      | inr less ↦ (before 0 other less there).0
    ]
  where
    least : 0 ≤ k
    least = omega arith

module _ (b : Budget) (guests : List Brought) (k : ℕ) (guest : Brought) (found : slice_get guests k ≡ Some guest) (there : k < length guests)
    (host : List Admission) (held : host ≡ map (at_start b) (map named_guest_of (take k guests))) (g : GuestFiles) (is : g ≡ (named_guest_of guest).guest) where
  count : length host ≡ k
  count = ap length held ∙ length-map (map named_guest_of (take k guests)) (at_start b) ∙ length-taken named_guest_of guests k there

  in_named : slice_get (map named_guest_of guests) k ≡ Some (named_guest_of guest)
  in_named = found_in_map named_guest_of guests k guest found

  at_place : (o : Option AdmitFault) → first_refusal g b (length host) ≡ o → first_refusal (named_guest_of guest).guest b k ≡ o
  at_place o e =
      let here : first_refusal g b k ≡ o = subst (λ (n : ℕ). first_refusal g b n ≡ o) count e in
      subst (λ (x : GuestFiles). first_refusal x b k ≡ o) is here

  pub held-more : (new : List Admission) → new ≡ host ++ admission g b ∷ [] → new ≡ map (at_start b) (map named_guest_of (take (k + 1) guests))
  held-more new after =
      let last : admission g b ≡ at_start b (named_guest_of guest) = ap (λ (x : GuestFiles). admission x b) is in
      after ∙ ap (λ (a : Admission). host ++ a ∷ []) last ∙ ap (λ (gs : List Admission). gs ++ at_start b (named_guest_of guest) ∷ []) held
      ∙ sym (ap (map (at_start b)) (map-take-more named_guest_of guests k guest found) ∙ map-more (at_start b) (map named_guest_of (take k guests)) (named_guest_of guest))

  pub allowed_too : first_refusal g b (length host) ≡ None → LibraryStands g → AreAllowed b (map named_guest_of guests) k → AreAllowed b (map named_guest_of guests) (k + 1)
  allowed_too free stands before =
      allowed-more b (map named_guest_of guests) k (named_guest_of guest) in_named (at_place None free)
      (subst (λ (x : GuestFiles). LibraryStands x) is stands) before

  refused_first : (fault : AdmitFault) → AreAllowed b (map named_guest_of guests) k → IsRefused g b (length host) fault → fault ≢ refusals.HostMemory
      → IsRefusedAmong b (map named_guest_of guests) fault
  refused_first fault before first why =
      let here : IsRefused g b k fault = subst (λ (n : ℕ). IsRefused g b n fault) count first in
      record {
        place = k;
        named = named_guest_of guest;
        found = in_named;
        before = before;
        first = subst (λ (x : GuestFiles). IsRefused x b k fault) is here;
        why = why;
      }

  -- a refusal of the host, as the program's failure
  pub refused : (fault : AdmitFault) → AreAllowed b (map named_guest_of guests) k → IsRefused g b (length host) fault
      → (fault ≡ refusals.HostMemory → first_refusal g b (length host) ≡ None) → IsAdmitFailure b (map named_guest_of guests) (failure_of fault)
  refused refusals.NoFiles before first memory = refused_first refusals.NoFiles before first (λ e. cc)
  refused refusals.TooManyFiles before first memory = refused_first refusals.TooManyFiles before first (λ e. cc)
  refused refusals.FileTooLong before first memory = refused_first refusals.FileTooLong before first (λ e. cc)
  refused refusals.InputTooLong before first memory = refused_first refusals.InputTooLong before first (λ e. cc)
  refused refusals.BudgetOutOfRange before first memory = refused_first refusals.BudgetOutOfRange before first (λ e. cc)
  refused refusals.TooManyGuests before first memory = refused_first refusals.TooManyGuests before first (λ e. cc)
  refused refusals.LibraryBroken before first memory = refused_first refusals.LibraryBroken before first (λ e. cc)
  refused refusals.HostMemory before first memory =
      first_within b (map named_guest_of guests) k (named_guest_of guest) in_named (at_place None (memory refl)) before
