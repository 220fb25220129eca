-- Why guests' turns ended early: the piece that is due can't be read, or is too much.
use Rattle.std.proofs.Common.{◌≡◌, ℕ, ◌+◌, ◌-◌, ◌<◌, ◌≤◌, true, List, length, Option, Some, None, refl, sym, ap, subst, ◌∙◌, arith}
use Rattle.std.specs.Prelude.{map, slice_get}
use Rattle.jv_meaning_machine.specs.Alone.{GuestFiles}
use Rattle.jv_meaning_machine.specs.Laws.Shown.{ShowsOneThing}
use Rattle.jv_limits.specs.declared.fault.FeedFault.TheVariants as faults
use Rattle.jv_host.specs.Started.{budget_of}
use Rattle.jv_host.specs.Host.{Admission, fed_bytes, input_bytes}
use Rattle.jv_host.specs.Limits.{feed_refusal_of}
use Rattle.jv_program_base.specs.declared.failure.Failure.{Failure}
use Rattle.jv_program_base.specs.declared.failure.Failure.TheVariants.{Unreadable, StandardInput, LibraryRefused, Refused, FeedTooLong, TooManyFolders, NoGuest, HostMemory, OutOfMemory}
use Rattle.jv_program_run.specs.declared.settings.RunSettings.{RunSettings}
use Rattle.jv_program_run.specs.Feeding.{AreRead, bytes_of_feeds}
use Rattle.jv_program_run.specs.Guests.{NamedGuest}
use Rattle.jv_program_run.specs.Outcome.{IsOneRunning, IsOverfed, IsPieceDue}
use Rattle.jv_program_run.specs.Inside.Play.{IsFeedingFailure, at_start}
use Rattle.jv_program_run.specs.Inside.Turns.{HasPlayed, IsFedTooMuch, IsFeedFailure, IsNextDue}
use Rattle.jv_program_base.proofs.Places.{some_same, within}
use Rattle.jv_program_run.proofs.Alone.{shown_alone}
use Rattle.jv_program_run.proofs.FedRounds.{there_is, too_many}
use Rattle.jv_program_run.proofs.Played.{feeds_there, in_guests, read_to_end, some_there}
use Rattle.jv_program_run.proofs.WhatWasRead.{count_of_bytes}

-- a guest of a host that had its turns, by its name
record Stood (s : RunSettings) (guests : List NamedGuest) (rounds place : ℕ) (a : Admission) : Type 0 where
  named : NamedGuest
  found : slice_get guests place ≡ Some named
  guest : a.guest ≡ named.guest
  budget : a.budget ≡ budget_of s.budget
  played : HasPlayed s.quantum rounds a

module _ (one : ShowsOneThing) (s : RunSettings) (guests : List NamedGuest) (old : List Admission) (started : old ≡ map (at_start (budget_of s.budget)) guests)
    (number : ℕ) (some : s.stdin ≡ Some number) (least : 1 ≤ number) (b0 : Option (List ℕ)) where
  module _ (host : List Admission) (now : Option (List ℕ)) (h : IsNextDue s.quantum s.rounds (number - 1) old host b0 now) where
    stood : (place : ℕ) (a : Admission) → slice_get host place ≡ Some a → Stood s guests h.rounds place a
    stood place a found =
        let b = budget_of s.budget in
        let inside : place < length host = within host place a found in
        let count = h.played.count in
        let was = there_is (slice_get old place) (some_there old place (omega (arith, inside, count))) in
        let it = in_guests b guests old started place was.0 was.1 in
        let since = h.played.each place was.0 was.1 in
        let same : since.0 ≡ a = some_same since.0 a (sym since.1 ∙ found) in
        record {
          named = it.0;
          found = it.1;
          guest = sym (ap (λ (x : Admission). x.guest) same) ∙ since.2.guest ∙ ap (λ (x : Admission). x.guest) it.2;
          budget = sym (ap (λ (x : Admission). x.budget) same) ∙ since.2.budget ∙ ap (λ (x : Admission). x.budget) it.2;
          played = subst (λ (x : Admission). HasPlayed s.quantum h.rounds x) same since.2.played;
        }

    running : IsOneRunning s guests h.read.a.feeds h.rounds
    running =
        let place = h.runs.0 in
        let a = h.runs.1.0 in
        let it = stood place a h.runs.1.1 in
        let fed = feeds_there s.stdin number host h.read.a some least h.read.found h.only place a h.runs.1.1 in (
          place,
          it.named,
          it.found,
          h.runs.1.2.0,
          shown_alone one s.quantum h.rounds a h.runs.1.2.0 it.named.guest (budget_of s.budget) _ it.guest it.budget fed it.played h.runs.1.2.1,
          h.runs.1.2.2,
        )

    due : IsPieceDue s guests h.read.a.feeds b0 now
    due =
        let feeds = h.read.a.feeds in
        let all : h.rounds ≡ length feeds = sym (h.read.each refl) in
        let few = h.few in
        record {
          few = omega (arith, few, all);
          read =
              subst (λ (k : ℕ). AreRead k feeds b0 now) all
              (record {
                few = h.read.few;
                pieces = h.read.pieces;
                bytes = h.read.bytes;
                end = read_to_end (number - 1) h.rounds host b0 now true h.read;
                unread = h.read.unread;
              });
          running = subst (λ (k : ℕ). IsOneRunning s guests feeds k) all running;
        }

  fed_one : s.stdin ≡ None → ⊥
  fed_one none = let bad : Some number ≡ None = sym some ∙ none in absurd cc

  module _ (b1 : Option (List ℕ)) where
    overfed : IsFedTooMuch s.quantum s.rounds (number - 1) old b0 b1 → IsOverfed s guests b0 b1
    overfed h =
        let read = h.due.read in
        let a = read.a in
        let it = stood h.host h.now h.due (number - 1) a read.found in
        let here : feed_refusal_of (Some a) (length h.last) ≡ Some faults.InputTooLong =
        subst (λ (o : Option Admission). feed_refusal_of o (length h.last) ≡ Some faults.InputTooLong) read.found h.refused in
        let many : 16777216 < input_bytes a + length h.last = too_many a (length h.last) here in
        let count : length (bytes_of_feeds a.feeds) ≡ fed_bytes a.feeds = count_of_bytes a.feeds in
        let brought : length a.guest.input ≡ length it.named.guest.input = ap (λ (g : GuestFiles). length g.input) it.guest in
        record {
          number = number;
          is_fed = some;
          named = it.named;
          found = it.found;
          feeds = a.feeds;
          fits = λ fed. let few = read.fits fed in omega (arith, few, count, brought);
          now = h.now;
          due = due h.host h.now h.due;
          last = h.last;
          piece = h.piece;
          came = h.came;
          more = omega (arith, many, count, brought);
        }

    -- what can't be fed to a guest of the host can't be fed to that guest
    pub feeding_failed : (failure : Failure) → IsFeedFailure s.quantum s.rounds (number - 1) old b0 b1 failure → IsFeedingFailure s guests b0 b1 failure
    feeding_failed StandardInput h = record { is_fed = fed_one; feeds = _; now = h.1; due = due h.0 h.1 h.2; kept = h.3 }
    feeding_failed FeedTooLong h = overfed h
    feeding_failed HostMemory h = fed_one
    feeding_failed (Unreadable name) h = absurd h
    feeding_failed (LibraryRefused name reason) h = absurd h
    feeding_failed (Refused fault) h = absurd h
    feeding_failed TooManyFolders h = absurd h
    feeding_failed NoGuest h = absurd h
    feeding_failed OutOfMemory h = absurd h
