-- What was read before the rounds so far is what came to one guest.
use Rattle.std.proofs.Common.{◌≡◌, ◌≢◌, ℕ, zero, suc, ◌+◌, ◌≤◌, Bool, true, false, cond, List, [], ◌∷◌, ◌++◌, length, Option, Some, None, refl, sym, ap, subst, ◌∙◌, inl, inr, arith, append_assoc, append-nil}
use Rattle.std.specs.Prelude.{All, IsTrue, slice_get}
use Rattle.std.specs.Io.KnownBytes.{Consumes, IsAtEnd}
use Rattle.std.proofs.KnownBytes.{Consumes-nil, Consumes-trans}
use Rattle.std.proofs.lemmas.Bool.{cases_lt, lt-ltb}
use Rattle.std.proofs.lemmas.List.{length-append}
use Rattle.std.proofs.lemmas.List.Elements.{All-append, All-cons, All-nil}
use Rattle.jv_meaning_machine.specs.Alone.{Feed}
use Rattle.jv_limits.specs.declared.fault.FeedFault.TheVariants as faults
use Rattle.jv_host.specs.Host.{Admission, after_feed, fed_bytes, fed_now, input_bytes}
use Rattle.jv_host.specs.Limits.{feed_refusal, feed_refusal_of}
use Rattle.jv_host.specs.Calls.{IsRound, IsRun}
use Rattle.jv_program_run.specs.Feeding.{IsPiece, bytes_of_feeds}
use Rattle.jv_program_run.specs.Inside.Turns.{AreAtStart, IsFedNext, ReadSoFar}
use Rattle.jv_program_base.proofs.Places.{length-more, within}
use Rattle.jv_program_run.proofs.AllTurns.{at_fed, same_feeds}

bytes_of_more : (feeds : List Feed) (feed : Feed) → bytes_of_feeds (feeds ++ feed ∷ []) ≡ bytes_of_feeds feeds ++ feed.bytes
bytes_of_more [] feed = append-nil feed.bytes
bytes_of_more (f ∷ feeds) feed =
    ap (λ (l : List ℕ). f.bytes ++ l) (bytes_of_more feeds feed) ∙ sym (append_assoc f.bytes (bytes_of_feeds feeds) feed.bytes)

pub count_of_bytes : (feeds : List Feed) → length (bytes_of_feeds feeds) ≡ fed_bytes feeds
count_of_bytes [] = refl
count_of_bytes (feed ∷ more) = length-append feed.bytes (bytes_of_feeds more) ∙ ap (λ (k : ℕ). length feed.bytes + k) (count_of_bytes more)

count_of_more : (feeds : List Feed) (feed : Feed) → fed_bytes (feeds ++ feed ∷ []) ≡ fed_bytes feeds + length feed.bytes
count_of_more [] feed = omega arith
count_of_more (f ∷ feeds) feed = let rest = count_of_more feeds feed in omega (arith, rest)

-- bytes that a guest is allowed fit
allowed_fit : (a : Admission) (count : ℕ) → feed_refusal_of (Some a) count ≡ None → input_bytes a + count ≤ 16777216
allowed_fit a count allowed =
    elim (cases_lt 16777216 (input_bytes a + count)) [
      | inl more ↦
          let long : feed_refusal_of (Some a) count ≡ Some faults.InputTooLong =
          ap (λ (b : Bool). cond b (Some faults.InputTooLong) None) (lt-ltb 16777216 (input_bytes a + count) more) in
          let bad : Some faults.InputTooLong ≡ None = sym long ∙ allowed in
          absurd cc
      | inr few ↦ few
    ]

-- nothing was read before the first round
pub read_at_start : (id : ℕ) (old : List Admission) (before : Option (List ℕ)) (a : Admission) → slice_get old id ≡ Some a → AreAtStart old
    → ReadSoFar id 0 old before before true
read_at_start id old before a found start =
    let none : a.feeds ≡ [] = (start id a found).1 in
    let count : length a.feeds ≡ 0 = ap length none in
    record {
      a = a;
      found = found;
      few = omega (arith, count);
      pieces = subst (λ (l : List Feed). All IsPiece l) (sym none) (All-nil IsPiece);
      bytes = subst (λ (l : List Feed). Consumes before before (bytes_of_feeds l)) (sym none) (Consumes-nil before);
      each = λ _. count;
      end = λ e. absurd cc;
      unread = λ _. refl;
      fits = λ some. absurd (some none);
    }

module _ (id rounds : ℕ) (mid new : List Admission) (b0 b1 b2 : Option (List ℕ)) (more : Bool) where
  -- what is read now comes behind what was read
  read_bytes : (bytes : List ℕ) → length bytes ≤ 4096 → Consumes b1 b2 bytes → new ≡ after_feed mid id bytes → feed_refusal mid id bytes ≡ None
      → (IsTrue more → 1 ≤ length bytes) → (more ≡ false → (bytes ≡ []) × IsAtEnd b2) → ReadSoFar id rounds mid b0 b1 true
      → ReadSoFar id (suc rounds) new b0 b2 more
  read_bytes [] most read fed allowed some end before =
      let few = before.few in
      let a = before.a in
      record {
        a = a;
        found = at_fed id mid new [] fed a before.found;
        few = omega (arith, few);
        pieces = before.pieces;
        bytes = subst (λ (l : List ℕ). Consumes b0 b2 l) (append-nil (bytes_of_feeds a.feeds)) (Consumes-trans b0 b1 b2 (bytes_of_feeds a.feeds) [] before.bytes read);
        each = λ yes_more. let least : 1 ≤ 0 = some yes_more in absurd (omega (arith, least));
        end = λ none. (end none).1;
        unread = λ e. absurd cc;
        fits = before.fits;
      }
  read_bytes (byte ∷ bytes) most read fed allowed some end before =
      let a = before.a in
      let feed : Feed = record { own_step = a.steps; bytes = byte ∷ bytes } in
      let count : length (a.feeds ++ feed ∷ []) ≡ length a.feeds + 1 = length-more a.feeds feed in
      let few = before.few in
      let each : length a.feeds ≡ rounds = before.each refl in
      let piece : IsPiece feed = (omega arith, most) in
      let here : feed_refusal_of (Some a) (length (byte ∷ bytes)) ≡ None =
      subst (λ (o : Option Admission). feed_refusal_of o (length (byte ∷ bytes)) ≡ None) before.found allowed in
      let fit : input_bytes a + length (byte ∷ bytes) ≤ 16777216 = allowed_fit a (length (byte ∷ bytes)) here in
      let fed_count : fed_bytes (a.feeds ++ feed ∷ []) ≡ fed_bytes a.feeds + length (byte ∷ bytes) = count_of_more a.feeds feed in
      record {
        a = fed_now (byte ∷ bytes) a;
        found = at_fed id mid new (byte ∷ bytes) fed a before.found;
        few = omega (arith, count, few);
        pieces = All-append IsPiece a.feeds (feed ∷ []) before.pieces (All-cons IsPiece feed [] piece (All-nil IsPiece));
        bytes = subst (λ (l : List ℕ). Consumes b0 b2 l) (sym (bytes_of_more a.feeds feed))
            (Consumes-trans b0 b1 b2 (bytes_of_feeds a.feeds) (byte ∷ bytes) before.bytes read);
        each = λ _. omega (arith, count, each);
        end = λ none. (end none).1;
        unread = λ e. absurd cc;
        fits = λ _. omega (arith, fit, fed_count);
      }

  pub read_next : IsFedNext id mid new b1 b2 more → ReadSoFar id rounds mid b0 b1 true → ReadSoFar id (suc rounds) new b0 b2 more
  read_next next before = read_bytes next.bytes next.most next.read next.fed next.allowed next.some next.end before

-- where there is no more to read, nothing is
pub read_none : (id rounds : ℕ) (mid : List Admission) (b0 b1 : Option (List ℕ)) → ReadSoFar id rounds mid b0 b1 false → ReadSoFar id (suc rounds) mid b0 b1 false
read_none id rounds mid b0 b1 before =
    let few = before.few in
    record {
      a = before.a;
      found = before.found;
      few = omega (arith, few);
      pieces = before.pieces;
      bytes = before.bytes;
      each = λ e. absurd cc;
      end = before.end;
      unread = λ e. absurd cc;
      fits = before.fits;
    }

-- a round feeds none
in_round : (n id rounds : ℕ) (mid new : List Admission) (b0 b1 : Option (List ℕ)) (more : Bool) → IsRound n mid new → ReadSoFar id rounds mid b0 b1 more
    → ReadSoFar id rounds new b0 b1 more
in_round n id rounds mid new b0 b1 more round before =
    let a = before.a in
    let turn = round.had id a (within mid id a before.found) before.found in
    let same : a.feeds ≡ turn.0.feeds = sym (same_feeds n a turn.0 turn.2) in
    record {
      a = turn.0;
      found = turn.1;
      few = subst (λ (l : List Feed). length l ≤ rounds) same before.few;
      pieces = subst (λ (l : List Feed). All IsPiece l) same before.pieces;
      bytes = subst (λ (l : List Feed). Consumes b0 b1 (bytes_of_feeds l)) same before.bytes;
      each = λ e. ap length (sym same) ∙ before.each e;
      end = before.end;
      unread = before.unread;
      fits = subst (λ (x : Admission). x.feeds ≢ [] → input_bytes x ≤ 16777216) (sym turn.2.2) before.fits;
    }

pub read_once : (n id rounds m : ℕ) (mid new : List Admission) (b0 b1 : Option (List ℕ)) (more : Bool) → IsRun n 1 mid new m → ReadSoFar id rounds mid b0 b1 more
    → ReadSoFar id rounds new b0 b1 more
read_once n id rounds zero mid new b0 b1 more run before = subst (λ (host : List Admission). ReadSoFar id rounds host b0 b1 more) (sym run.went) before
read_once n id rounds (suc zero) mid new b0 b1 more run before =
    let went = run.went in
    in_round n id rounds mid new b0 b1 more (subst (λ (host : List Admission). IsRound n host new) went.1 went.3) before
read_once n id rounds (suc (suc m)) mid new b0 b1 more run before = let most = run.most in absurd (omega (arith, most))
