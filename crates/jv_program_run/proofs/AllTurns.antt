-- All guests of a host have their turns, and one of them is fed.
use Rattle.std.proofs.Common.{◌≡◌, ◌≢◌, ℕ, zero, suc, ◌-◌, ◌*◌, ◌<◌, ◌≤◌, ◌^◌, List, [], ◌∷◌, length, get_or, Some, refl, sym, ap, subst, ◌∙◌, inl, inr, arith}
use Rattle.std.specs.Prelude.{slice_get}
use Rattle.std.proofs.lemmas.Nat.{mul-le}
use Rattle.jv_meaning_machine.specs.Laws.Shown.{ShowsOneThing}
use Rattle.jv_meaning_machine.specs.Laws.Feeds.{FeedShowsLater}
use Rattle.jv_host.specs.Host.{Admission, after_feed, fed_now, stepped}
use Rattle.jv_host.specs.Calls.{IsRound, IsRun, NoneRuns, Rounds, TookTurn}
use Rattle.jv_host.proofs.Places.{at_changed, beside_changed, count_of_changed, same_or_other}
use Rattle.jv_program_run.specs.Inside.Turns.{AreAtStart, IsSamePlayed, NoneFed, OnlyFed, PlayedSince}
use Rattle.jv_program_base.proofs.Places.{in_place, some_same, within}
use Rattle.jv_program_run.proofs.Turns.{has_been_fed, has_begun, has_idled, has_turned}

-- ---- places

abbrev SomeAt : List Admission → ℕ → Type 0
SomeAt host place = (a : Admission) × (slice_get host place ≡ Some a)

some_at : (host : List Admission) (place : ℕ) (d : Admission) → place < length host → SomeAt host place
some_at host place d lt = (get_or host place d, in_place host place d lt)

-- where there is a guest in one list, there is one in another that is as long
pub beside : (host other : List Admission) (place : ℕ) (a : Admission) → length other ≡ length host → slice_get host place ≡ Some a → SomeAt other place
beside host other place a same found =
    let there = within host place a found in
    some_at other place a (omega (arith, same, there))

-- ---- turns

-- what a round makes of a guest, from what it is afterwards
abbrev pub CameFrom : (n : ℕ) → List Admission → ℕ → Admission → Type 0
CameFrom n mid place b = (a : Admission) × (slice_get mid place ≡ Some a) × TookTurn n a b

pub came_from : (n : ℕ) (mid new : List Admission) (place : ℕ) (b : Admission) → IsRound n mid new → slice_get new place ≡ Some b → CameFrom n mid place b
came_from n mid new place b round found =
    let was = beside new mid place b (sym round.same_count) found in
    let turn = round.had place was.0 (within mid place was.0 was.1) was.1 in
    let same : turn.0 ≡ b = some_same turn.0 b (sym turn.1 ∙ found) in
    (was.0, was.1, subst (λ (x : Admission). TookTurn n was.0 x) same turn.2)

pub same_feeds : (n : ℕ) (a b : Admission) → TookTurn n a b → b.feeds ≡ a.feeds
same_feeds n a b turn = ap (λ (x : Admission). x.feeds) turn.2

module _ (n : ℕ) (old : List Admission) where
  pub start_all : AreAtStart old → PlayedSince n 0 old old
  start_all start =
      record {
        count = refl;
        each = λ place a found.
            let fresh = start place a found in
            (a, found, record { guest = refl; budget = refl; played = has_begun n a fresh.0 fresh.1 });
      }

  pub idle_all : (turns more : ℕ) (mid : List Admission) → turns ≤ more → PlayedSince n turns old mid → NoneRuns mid → PlayedSince n more old mid
  idle_all turns more mid least before none =
      record {
        count = before.count;
        each = λ place a found.
            let was = before.each place a found in
            (was.0, was.1, record { guest = was.2.guest; budget = was.2.budget; played = has_idled n turns more was.0 least was.2.played (none place was.0 was.1) });
      }

  module _ (one : ShowsOneThing) where
    turn_one : (turns : ℕ) (a b c : Admission) → IsSamePlayed n turns a b → TookTurn n b c → n * suc turns < 2 ^ 64 - 1 → IsSamePlayed n (suc turns) a c
    turn_one turns a b c before turn bound =
        let after : IsSamePlayed n (suc turns) a (stepped turn.0 b) =
        record { guest = before.guest; budget = before.budget; played = has_turned one n turns turn.0 b before.played turn.1 bound } in
        subst (λ (x : Admission). IsSamePlayed n (suc turns) a x) (sym turn.2) after

    pub turn_all : (turns : ℕ) (mid new : List Admission) → PlayedSince n turns old mid → IsRound n mid new → n * suc turns < 2 ^ 64 - 1 → PlayedSince n (suc turns) old new
    turn_all turns mid new before round bound =
        record {
          count = round.same_count ∙ before.count;
          each = λ place a found.
              let was = before.each place a found in
              let turn = round.had place was.0 (within mid place was.0 was.1) was.1 in
              (turn.0, turn.1, turn_one turns a was.0 turn.0 was.2 turn.2 bound);
        }

    -- one round, or none where each guest has ended
    pub run_once : (turns m : ℕ) (mid new : List Admission) → PlayedSince n turns old mid → IsRun n 1 mid new m → n * suc turns < 2 ^ 64 - 1 → PlayedSince n (suc turns) old new
    run_once turns zero mid new before run bound =
        subst (λ (host : List Admission). PlayedSince n (suc turns) old host) (sym run.went)
        (idle_all turns (suc turns) mid (omega arith) before (subst NoneRuns run.went (run.full (omega arith))))
    run_once turns (suc zero) mid new before run bound =
        let went = run.went in
        turn_all turns mid new before (subst (λ (host : List Admission). IsRound n host new) went.1 went.3) bound
    run_once turns (suc (suc m)) mid new before run bound = let most = run.most in absurd (omega (arith, most))

    -- all rounds, where no guest is fed
    pub rounds_all : (m : ℕ) (new : List Admission) → AreAtStart old → Rounds n m old new → n * m < 2 ^ 64 - 1 → PlayedSince n m old new
    rounds_all zero new start went bound = subst (λ (host : List Admission). PlayedSince n 0 old host) (sym went) (start_all start)
    rounds_all (suc m) new start went bound =
        let least : n * m ≤ n * suc m = mul-le n m n (suc m) (omega arith) (omega arith) in
        turn_all m went.0 new (rounds_all m went.0 start went.1 (omega (arith, least, bound))) went.3 bound

-- ---- who was fed

none_fed : (n m : ℕ) (old new : List Admission) → NoneFed old → Rounds n m old new → NoneFed new
none_fed n zero old new none went = subst NoneFed (sym went) none
none_fed n (suc m) old new none went = λ place b found.
    let was = came_from n went.0 new place b went.3 found in
    same_feeds n was.0 b was.2 ∙ none_fed n m old went.0 none went.1 place was.0 was.1

pub none_fed_since : (n m : ℕ) (old new : List Admission) → AreAtStart old → Rounds n m old new → NoneFed new
none_fed_since n m old new start went = none_fed n m old new (λ place a found. (start place a found).1) went

-- a round at most feeds none
only_in_round : (n id : ℕ) (mid new : List Admission) → OnlyFed id mid → IsRound n mid new → OnlyFed id new
only_in_round n id mid new only round place b found other =
    let was = came_from n mid new place b round found in
    same_feeds n was.0 b was.2 ∙ only place was.0 was.1 other

pub only_once : (n id m : ℕ) (mid new : List Admission) → OnlyFed id mid → IsRun n 1 mid new m → OnlyFed id new
only_once n id zero mid new only run = subst (OnlyFed id) (sym run.went) only
only_once n id (suc zero) mid new only run =
    let went = run.went in
    only_in_round n id mid new only (subst (λ (host : List Admission). IsRound n host new) went.1 went.3)
only_once n id (suc (suc m)) mid new only run = let most = run.most in absurd (omega (arith, most))

pub only_at_start : (id : ℕ) (old : List Admission) → AreAtStart old → OnlyFed id old
only_at_start id old start place a found other = (start place a found).1

-- ---- a feed

module _ (id : ℕ) (mid new : List Admission) (bytes : List ℕ) (after : new ≡ after_feed mid id bytes) where
  pub at_fed : (a : Admission) → slice_get mid id ≡ Some a → slice_get new id ≡ Some (fed_now bytes a)
  at_fed a found = ap (λ (host : List Admission). slice_get host id) after ∙ at_changed (fed_now bytes) mid id a found

  pub at_others : (place : ℕ) → place ≢ id → slice_get new place ≡ slice_get mid place
  at_others place other = ap (λ (host : List Admission). slice_get host place) after ∙ beside_changed (fed_now bytes) mid id place other

  pub only_fed : OnlyFed id mid → OnlyFed id new
  only_fed only place a found other = only place a (sym (at_others place other) ∙ found) other

same_guest : (a : Admission) (bytes : List ℕ) → (fed_now bytes a).guest ≡ a.guest
same_guest a [] = refl
same_guest a (byte ∷ bytes) = refl

same_budget : (a : Admission) (bytes : List ℕ) → (fed_now bytes a).budget ≡ a.budget
same_budget a [] = refl
same_budget a (byte ∷ bytes) = refl

module _ (later : FeedShowsLater) where
  -- bytes for the guest at a place, to which some came before each round so far
  pub feed_all : (n turns id : ℕ) (old mid new : List Admission) (bytes : List ℕ) (fed : Admission) → new ≡ after_feed mid id bytes → slice_get mid id ≡ Some fed
      → length fed.feeds ≡ turns → PlayedSince n turns old mid → PlayedSince n turns old new
  feed_all n turns id old mid new bytes fed after found many before =
      record {
        count = ap length after ∙ count_of_changed (fed_now bytes) mid id ∙ before.count;
        each = λ place a there.
            let was = before.each place a there in
            elim (same_or_other place id) [
              | inl same ↦
                  let here : slice_get mid id ≡ Some was.0 = subst (λ (k : ℕ). slice_get mid k ≡ Some was.0) same was.1 in
                  let it : fed ≡ was.0 = some_same fed was.0 (sym found ∙ here) in
                  let enough : length was.0.feeds ≡ turns = subst (λ (x : Admission). length x.feeds ≡ turns) it many in
                  let now : slice_get new place ≡ Some (fed_now bytes was.0) =
                  subst (λ (k : ℕ). slice_get new k ≡ Some (fed_now bytes was.0)) (sym same) (at_fed id mid new bytes after was.0 here) in (
                    fed_now bytes was.0,
                    now,
                    record {
                      guest = same_guest was.0 bytes ∙ was.2.guest;
                      budget = same_budget was.0 bytes ∙ was.2.budget;
                      played = has_been_fed later n turns was.0 bytes enough was.2.played;
                    },
                  )
              | inr other ↦ (was.0, at_others id mid new bytes after place other ∙ was.1, was.2)
            ];
      }
