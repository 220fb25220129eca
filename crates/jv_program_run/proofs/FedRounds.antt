-- Rounds of turns, before each of which a guest is fed what is read.
use Rattle.std.proofs.Common.{◌≡◌, ℕ, suc, ◌+◌, ◌-◌, ◌*◌, ◌<◌, ◌≤◌, ◌^◌, Bool, true, false, cond, List, Option, Some, None, refl, sym, ap, subst, ◌∙◌, inl, inr, arith}
use Rattle.std.specs.Prelude.{IsSome, slice_get}
use Rattle.std.proofs.lemmas.Bool.{cases_lt, le-ltb}
use Rattle.jv_meaning_machine.specs.Laws.Shown.{ShowsOneThing}
use Rattle.jv_meaning_machine.specs.Laws.Feeds.{FeedShowsLater}
use Rattle.jv_limits.specs.declared.fault.FeedFault.TheVariants as faults
use Rattle.jv_host.specs.Host.{Admission, input_bytes}
use Rattle.jv_host.specs.Calls.{IsRun, NoneRuns, SomeRuns}
use Rattle.jv_host.specs.Limits.{feed_refusal_of}
use Rattle.jv_program_base.specs.declared.failure.Failure.{Failure}
use Rattle.jv_program_base.specs.declared.failure.Failure.TheVariants.{Unreadable, StandardInput, LibraryRefused, Refused, FeedTooLong, TooManyFolders, NoGuest, HostMemory, OutOfMemory}
use Rattle.jv_program_run.specs.Inside.Turns.{AreAtStart, IsFedNext, IsFedRun, IsFeedFailure, IsNextDue, IsNextFailure, OnlyFed, PlayedSince, ReadSoFar, SomeWent}
use Rattle.jv_program_run.proofs.AllTurns.{feed_all, only_at_start, only_fed, only_once, run_once, start_all}
use Rattle.jv_program_run.proofs.Needed.{is_round, some_run, some_went, went_on}
use Rattle.jv_program_run.proofs.WhatWasRead.{read_at_start, read_next, read_none, read_once}

-- so many turns, and what was read before so many rounds
pub record FedSoFar (n turns reads id : ℕ) (old mid : List Admission) (before now : Option (List ℕ)) (more : Bool) : Type 0 where
  pub played : PlayedSince n turns old mid
  pub only : OnlyFed id mid
  pub read : ReadSoFar id reads mid before now more
  pub needed : 1 ≤ n → SomeWent n turns mid

pub there_is : {A : Type 0} (o : Option A) → IsSome o → (x : A) × (o ≡ Some x)
there_is None h = absurd cc
there_is (Some x) h = (x, refl)

pub fed_start : (n id : ℕ) (old : List Admission) (before : Option (List ℕ)) → IsSome (slice_get old id) → AreAtStart old → FedSoFar n 0 0 id old old before before true
fed_start n id old before there start =
    let it = there_is (slice_get old id) there in
    record { played = start_all n old start; only = only_at_start id old start; read = read_at_start id old before it.0 it.1 start; needed = λ _. tt }

pub fed_next : (later : FeedShowsLater) (n r id : ℕ) (old mid new : List Admission) (b0 b1 b2 : Option (List ℕ)) (was more : Bool) → was ≡ true
    → FedSoFar n r r id old mid b0 b1 was → IsFedNext id mid new b1 b2 more → FedSoFar n r (suc r) id old new b0 b2 more
fed_next later n r id old mid new b0 b1 b2 was more yes_more before next =
    let so_far : ReadSoFar id r mid b0 b1 true = subst (λ (b : Bool). ReadSoFar id r mid b0 b1 b) yes_more before.read in
    record {
      played = feed_all later n r id old mid new next.bytes so_far.a next.fed so_far.found (so_far.each refl) before.played;
      only = only_fed id mid new next.bytes next.fed before.only;
      read = read_next id r mid new b0 b1 b2 more next so_far;
      needed = λ some. some_went id mid new next.bytes next.fed n r (before.needed some);
    }

pub fed_none : (n r id : ℕ) (old mid : List Admission) (b0 b1 : Option (List ℕ)) (was : Bool) → was ≡ false → FedSoFar n r r id old mid b0 b1 was
    → FedSoFar n r (suc r) id old mid b0 b1 was
fed_none n r id old mid b0 b1 was none before =
    let so_far : ReadSoFar id r mid b0 b1 false = subst (λ (b : Bool). ReadSoFar id r mid b0 b1 b) none before.read in
    record {
      played = before.played;
      only = before.only;
      read = subst (λ (b : Bool). ReadSoFar id (suc r) mid b0 b1 b) (sym none) (read_none id r mid b0 b1 so_far);
      needed = before.needed;
    }

pub fed_round : (one : ShowsOneThing) (n r m id : ℕ) (old mid new : List Admission) (b0 b1 : Option (List ℕ)) (more : Bool) → n * suc r < 2 ^ 64 - 1
    → SomeRuns mid → FedSoFar n r (suc r) id old mid b0 b1 more → IsRun n 1 mid new m → FedSoFar n (r + 1) (r + 1) id old new b0 b1 more
fed_round one n r m id old mid new b0 b1 more bound runs before run =
    let next : suc r ≡ r + 1 = omega arith in
    subst (λ (k : ℕ). FedSoFar n k k id old new b0 b1 more) next
    (record {
      played = run_once n old one r m mid new before.played run bound;
      only = only_once n id m mid new before.only run;
      read = read_once n id (suc r) m mid new b0 b1 more run before.read;
      needed = λ some. went_on one n some r old mid new runs before.played (is_round one n m mid new runs run) bound;
    })

-- rounds until none runs
pub fed_over : (n most r id : ℕ) (old now : List Admission) (b0 b1 : Option (List ℕ)) (more : Bool) → r < most → FedSoFar n r r id old now b0 b1 more
    → NoneRuns now → IsFedRun n most id old now b0 b1 r
fed_over n most r id old now b0 b1 more lt h none = record {
  few = omega (arith, lt);
  played = h.played;
  only = h.only;
  more = more;
  read = h.read;
  full = λ _. none;
  needed = h.needed;
}

-- ---- what can't be fed

pub too_many : (a : Admission) (count : ℕ) → feed_refusal_of (Some a) count ≡ Some faults.InputTooLong → 16777216 < input_bytes a + count
too_many a count refused =
    elim (cases_lt 16777216 (input_bytes a + count)) [
      | inl more ↦ more
      | inr few ↦
          let none : feed_refusal_of (Some a) count ≡ None = ap (λ (b : Bool). cond b (Some faults.InputTooLong) None) (le-ltb 16777216 (input_bytes a + count) few) in
          let bad : Some faults.InputTooLong ≡ None = sym refused ∙ none in
          absurd cc
    ]

module _ (n most r id : ℕ) (old mid : List Admission) (b0 b1 b2 : Option (List ℕ)) (more : Bool) (is_more : more ≡ true) (less : r < most) (runs : SomeRuns mid)
    (before : FedSoFar n r r id old mid b0 b1 more) where
  due : IsNextDue n most id old mid b0 b1
  due = record {
    rounds = r;
    few = less;
    played = before.played;
    only = before.only;
    read = subst (λ (b : Bool). ReadSoFar id r mid b0 b1 b) is_more before.read;
    runs = runs;
  }

  pub not_fed : (failure : Failure) → IsNextFailure id mid b1 b2 failure → IsFeedFailure n most id old b0 b2 failure
  not_fed StandardInput h = (mid, b1, due, h)
  not_fed FeedTooLong h = record { host = mid; now = b1; due = due; last = h.0; piece = h.1; came = h.2; refused = h.3 }
  not_fed HostMemory h = tt
  not_fed (Unreadable name) h = absurd h
  not_fed (LibraryRefused name reason) h = absurd h
  not_fed (Refused fault) h = absurd h
  not_fed TooManyFolders h = absurd h
  not_fed NoGuest h = absurd h
  not_fed OutOfMemory h = absurd h

-- some guest takes steps after bytes came to one
pub fed_runs : (later : FeedShowsLater) (id : ℕ) (mid new : List Admission) (b1 b2 : Option (List ℕ)) (more : Bool) → IsFedNext id mid new b1 b2 more → SomeRuns mid → SomeRuns new
fed_runs later id mid new b1 b2 more next runs = some_run id mid new next.bytes next.fed later runs

-- the same under other names
pub fed_joined : (n r k id : ℕ) (old mid host : List Admission) (b0 b1 now : Option (List ℕ)) (was more : Bool) → host ≡ mid → now ≡ b1 → more ≡ was
    → FedSoFar n r k id old mid b0 b1 was → FedSoFar n r k id old host b0 now more
fed_joined n r k id old mid host b0 b1 now was more hosts inputs mores h =
    subst (λ (b : Bool). FedSoFar n r k id old host b0 now b) (sym mores)
    (subst (λ (o : Option (List ℕ)). FedSoFar n r k id old host b0 o was) (sym inputs) (subst (λ (l : List Admission). FedSoFar n r k id old l b0 b1 was) (sym hosts) h))
