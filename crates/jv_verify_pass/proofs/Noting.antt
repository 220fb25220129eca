-- Writes that are noted.
use Rattle.std.proofs.Common.{◌≡◌, ◌≢◌, ◌⊎◌, inl, inr, ℕ, suc, ◌+◌, ◌-◌, ◌<◌, ◌≤◌, ◌/◌, Bool, true, false, ◌&&◌, ◌||◌, ◌==◌, List, [], ◌∷◌, ◌++◌, length, get_or, set, take, refl, sym, ap, ◌∙◌, arith}
use Rattle.std.specs.Prelude.{nat_le}
use Rattle.std.proofs.lemmas.Bool.{cases_lt, eqb-false, eqb-true, leb-true}
use Rattle.std.proofs.lemmas.Grind.{get_or-set_at}
use Rattle.std.proofs.lemmas.List.{get_or-set_other, get_or_past, length-set, take_more}
use Rattle.jv_verify_rules.specs.Laws.{is_beside}
use Rattle.jv_verify_known.specs.Known.{number_at, with_writes, written_at, KnownLocals, StaysKnown}
use Rattle.jv_verify_open.proofs.Words.{same_or}
use Rattle.jv_verify_pass.specs.Inside.Changes.{is_written}
use Rattle.jv_verify_pass.specs.Inside.Seen.{NotesWrites}

clash : true ≡ false → ⊥
clash e = cc

neither : (a b : Bool) → a ≡ false → b ≡ false → (a || b) ≡ false
neither a b e f = ap (λ x. x || b) e ∙ f

pub none_noted : (known : KnownLocals) → NotesWrites (λ k. false) known known
none_noted known = record {
  words = refl;
  next = refl;
  many = refl;
  same = λ k low. refl;
  covers = λ k small within low. refl;
  known = λ types locals h. h;
}

pub fewer_noted : (may more : ℕ → Bool) (old new : KnownLocals) → ((k : ℕ) → k < 65536 → more k ≡ false → may k ≡ false) → NotesWrites more old new → NotesWrites may old new
fewer_noted may more old new covers notes = record {
  words = notes.words;
  next = notes.next;
  many = notes.many;
  same = notes.same;
  covers = λ k small within low. covers k small (notes.covers k small within low);
  known = notes.known;
}

-- one write behind others
module _ (may : ℕ → Bool) (old mid new : KnownLocals) (place : ℕ) (notes : NotesWrites may old mid) (is : new ≡ with_writes (written_at place mid.writes) mid)
    (known : StaysKnown mid new) where
  numbers_are : new.writes.numbers ≡ set mid.writes.numbers (place / 16) mid.writes.next
  numbers_are = ap (λ (k : KnownLocals). k.writes.numbers) is

  at_place : (k : ℕ) → k / 16 ≡ place / 16 → k / 16 < length mid.writes.numbers → number_at new.writes k ≡ mid.writes.next
  at_place k e within = ap (λ ns. get_or ns (k / 16) 0) numbers_are ∙ get_or-set_at mid.writes.numbers (place / 16) (k / 16) mid.writes.next 0 e (omega (arith, e, within))

  at_other : (k : ℕ) → k / 16 ≢ place / 16 → number_at new.writes k ≡ number_at mid.writes k
  at_other k e = ap (λ ns. get_or ns (k / 16) 0) numbers_are ∙ get_or-set_other mid.writes.numbers (place / 16) (k / 16) mid.writes.next 0 e

  beyond : (k : ℕ) → length mid.writes.numbers ≤ k / 16 → number_at new.writes k ≡ number_at mid.writes k
  beyond k past =
      ap (λ ns. get_or ns (k / 16) 0) numbers_are
      ∙ (get_or_past (set mid.writes.numbers (place / 16) mid.writes.next) (k / 16) 0
      (let many = length-set mid.writes.numbers (place / 16) mid.writes.next in omega (arith, many, past)) ∙ sym (get_or_past mid.writes.numbers (k / 16) 0 past))

  apart : (k : ℕ) → number_at new.writes k < mid.writes.next → number_at new.writes k ≡ number_at mid.writes k
  apart k low =
      elim (cases_lt (k / 16) (length mid.writes.numbers)) [
        | inr past ↦ beyond k past
        | inl within ↦
            elim (same_or (k / 16) (place / 16)) [
              | inl e ↦ let at = at_place k e within in absurd (omega (arith, at, low))
              | inr e ↦ at_other k e
            ]
      ]

  pub one_noted : NotesWrites (λ k. may k || place == k) old new
  one_noted = record {
    words = ap (λ (k : KnownLocals). k.words) is ∙ notes.words;
    next = ap (λ (k : KnownLocals). k.writes.next) is ∙ notes.next;
    many = ap length numbers_are ∙ (length-set mid.writes.numbers (place / 16) mid.writes.next ∙ notes.many);
    same = λ k low.
        let next = notes.next in
        let here = apart k (omega (arith, low, next)) in here ∙ notes.same k (omega (arith, here, low));
    covers = λ k small within low.
        let next = notes.next in
        let many = notes.many in
        let here = apart k (omega (arith, low, next)) in
        neither (may k) (place == k) (notes.covers k small within (omega (arith, here, low)))
        (not_here k (omega (arith, within, many)) (omega (arith, low, next)) (place == k) refl);
    known = λ types locals h. known types locals (notes.known types locals h);
  }
    where
      not_here : (k : ℕ) → k / 16 < length mid.writes.numbers → number_at new.writes k < mid.writes.next → (b : Bool) → (place == k) ≡ b → b ≡ false
      not_here k within low false e = refl
      not_here k within low true e =
          let at = at_place k (ap (λ n. n / 16) (sym (eqb-true place k e))) within in absurd (omega (arith, at, low))

-- a store at an index is noted by writes at it, and at those beside it
pub store_noted : (index before behind k : ℕ) → before ≡ index - 1 → (behind ≡ index + 1) ⊎ (65535 ≤ index) → k < 65536
    → (((false || before == k) || index == k) || behind == k) ≡ false → is_beside index k ≡ false
store_noted index before behind k bottom top small none = by_test (is_beside index k) refl
  where
    first : (a b : Bool) → (a || b) ≡ false → (a ≡ false) × (b ≡ false)
    first false false e = (refl, refl)
    first false true e = absurd cc
    first true b e = absurd cc

    by_test : (b : Bool) → is_beside index k ≡ b → b ≡ false
    by_test false e = refl
    by_test true e = absurd (no (parts (nat_le index (suc k)) (nat_le k (suc index)) e))
      where
        parts : (a b : Bool) → (a && b) ≡ true → (a ≡ true) × (b ≡ true)
        parts true true e = (refl, refl)
        parts true false e = absurd cc
        parts false b e = absurd cc

        no : (nat_le index (suc k) ≡ true) × (nat_le k (suc index) ≡ true) → ⊥
        no h =
            let last = first ((false || before == k) || index == k) (behind == k) none in
            let mid = first (false || before == k) (index == k) last.0 in
            let not_before = eqb-false before k mid.0 in
            let not_index = eqb-false index k mid.1 in
            let not_behind = eqb-false behind k last.1 in
            let under = leb-true index (suc k) h.0 in
            let over = leb-true k (suc index) h.1 in
            elim top [
              | inl is ↦ omega (arith, not_before, not_index, not_behind, under, over, is, bottom)
              | inr past ↦ omega (arith, not_before, not_index, under, over, past, bottom, small)
            ]

any_more : (xs : List ℕ) (y k : ℕ) → is_written (xs ++ y ∷ []) k ≡ (is_written xs k || y == k)
any_more [] y k = last (y == k)
  where
    last : (b : Bool) → (b || false) ≡ b
    last true = refl
    last false = refl
any_more (x ∷ xs) y k = ap (λ b. (x == k) || b) (any_more xs y k) ∙ grouped (x == k) (is_written xs k) (y == k)
  where
    grouped : (a b c : Bool) → (a || (b || c)) ≡ ((a || b) || c)
    grouped true b c = refl
    grouped false b c = refl

pub written_more : (xs : List ℕ) (n k place d : ℕ) → n < length xs → place ≡ get_or xs n d → (is_written (take n xs) k || place == k) ≡ false
    → is_written (take (n + 1) xs) k ≡ false
written_more xs n k place d lt at none =
    ap (λ ys. is_written ys k) (take_more xs n d lt) ∙ (any_more (take n xs) (get_or xs n d) k ∙ (ap (λ p. is_written (take n xs) k || p == k) (sym at) ∙ none))
