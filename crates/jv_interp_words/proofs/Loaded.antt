-- What a local variable that was loaded holds.
use Rattle.std.proofs.Common.{◌≡◌, ℕ, zero, suc, ◌+◌, ◌<◌, ◌≤◌, ℤ, true, false, List, [], ◌∷◌, ◌++◌, Some, Ok, length, reverse, get_or, refl, sym, ap, subst, ◌∙◌, arith, slice_get, length-append}
use Rattle.std.proofs.lemmas.List.{length-reverse}
use Rattle.std.specs.Int.{w32, cast_signed}
use Rattle.jv_code.specs.declared.kinds.ValueKind.{ValueKind}
use Rattle.jv_code.specs.declared.kinds.ValueKind.TheVariants as kinds
use Rattle.jv_meaning_machine.specs.Faults.{found, tested, ◌>>=◌}
use Rattle.jv_meaning_machine.specs.Faults.Fault.{LocalFault, TagFault}
use Rattle.jv_meaning_machine.specs.Values.{Value, has_kind}
use Rattle.jv_meaning_machine.specs.Values.Value.{Int, Long, Null, Reference, Half, Unset}
use Rattle.jv_meaning_machine.specs.Frames.{local_value, local_at}
use Rattle.jv_interp_words.specs.ValuesInWords.{long_of, IsLocal, AreLocals, IsOnTop}
use Rattle.jv_interp_words.specs.Inside.Locals.{Loads}
use Rattle.jv_interp_words.proofs.Gave.{bound_gave, found_gave, tested_gave}
use Rattle.jv_interp_words.proofs.Reversed.{local_word}

-- the words from an index on
abbrev pub behind_local : ℕ → List ℕ → List ℕ
behind_local zero [] = []
behind_local zero (word ∷ behind) = behind
behind_local (suc k) [] = []
behind_local (suc k) (word ∷ behind) = behind_local k behind

pub record StandsAt (addresses : List ℕ) (value : Value) (words : List ℕ) (k : ℕ) : Type 0 where
  pub within : k < length words
  pub is : IsLocal addresses value (get_or words k 0) (behind_local k words)

pub local_stands :
    (addresses : List ℕ) (locals : List Value) (words : List ℕ) (k : ℕ) (value : Value) → AreLocals addresses locals words
    → slice_get locals k ≡ Some value → StandsAt addresses value words k
local_stands addresses [] words k value h e = absurd cc
local_stands addresses (local ∷ more) [] k value h e = absurd h
local_stands addresses (local ∷ more) (word ∷ behind) zero value h e =
    let known : local ≡ value = cc in
    record { within = omega arith; is = subst (λ (v : Value). IsLocal addresses v word behind) known h.0 }
local_stands addresses (local ∷ more) (word ∷ behind) (suc k) value h e =
    let rest = local_stands addresses more behind k value h.1 e in
    record { within = omega (arith, rest.within); is = rest.is }

-- the word behind is the one at the next index
pub next_word : (words : List ℕ) (k : ℕ) → get_or (behind_local k words) 0 0 ≡ get_or words (suc k) 0
next_word [] zero = refl
next_word [] (suc k) = refl
next_word (word ∷ behind) zero = refl
next_word (word ∷ behind) (suc k) = next_word behind k

-- ---- a load

clash : false ≡ true → ⊥
clash e = absurd cc

pub record Loaded (kind : ValueKind) (index : ℕ) (locals : List Value) (value : Value) : Type 0 where
  pub stood : slice_get locals index ≡ Some value
  pub kind_is : has_kind kind value ≡ true

value_gave : (value same : Value) → local_value value ≡ Ok same → value ≡ same
value_gave (Int number) same e = cc
value_gave (Long number) same e = cc
value_gave Null same e = cc
value_gave (Reference id) same e = cc
value_gave Half same e = absurd cc
value_gave Unset same e = absurd cc

pub load_gave :
    (kind : ValueKind) (index : ℕ) (locals : List Value) (value : Value) → local_at kind index locals ≡ Ok value
    → Loaded kind index locals value
load_gave kind index locals value e =
    let outer =
    bound_gave (found LocalFault (slice_get locals index) >>= local_value) (λ (v : Value). tested TagFault (has_kind kind v) v) value e in
    let inner = bound_gave (found LocalFault (slice_get locals index)) local_value outer.0 outer.1 in
    let test = tested_gave TagFault (has_kind kind outer.0) outer.0 value outer.2 in
    record {
      stood =
          found_gave LocalFault (slice_get locals index) inner.0 inner.1
          ∙ ap (λ (v : Value). Some v) (value_gave inner.0 outer.0 inner.2 ∙ test.1);
      kind_is = ap (λ (v : Value). has_kind kind v) (sym test.1) ∙ test.0;
    }

-- ---- where it stands among the words in use

-- so many words of local variables are in use from a frame's own on
pub local_within :
    (stack words below : List ℕ) (k : ℕ) → k < length words → length below + k < length (stack ++ (reverse words ++ below))
local_within stack words below k h =
    omega (arith, length-append stack (reverse words ++ below), length-append (reverse words) below, length-reverse words)

-- behind a local variable there is another word
second_within : (words : List ℕ) (k : ℕ) → 1 ≤ length (behind_local k words) → suc k < length words
second_within [] zero h = absurd (omega arith)
second_within [] (suc k) h = absurd (omega arith)
second_within (word ∷ behind) zero h = omega arith
second_within (word ∷ behind) (suc k) h = let rest = second_within behind k h in omega arith

-- what was loaded, among all words in use from the oldest on
pub record Found (kind : ValueKind) (at : ℕ) (used addresses : List ℕ) (value : Value) : Type 0 where
  pub words : List ℕ
  pub index : ℕ
  pub kind_is : has_kind kind value ≡ true
  pub is : IsLocal addresses value (get_or words index 0) (behind_local index words)
  pub within : at < length used
  pub word : get_or (reverse used) at 0 ≡ get_or words index 0
  pub second_is : suc index < length words → (at + 1 < length used) × (get_or (reverse used) (at + 1) 0 ≡ get_or (behind_local index words) 0 0)

pub load_found :
    (kind : ValueKind) (base index : ℕ) (used addresses : List ℕ) (value : Value) → Loads kind base index used addresses value
    → Found kind (base + index) used addresses value
load_found kind base index used addresses value h =
    let gave = load_gave kind index h.locals value h.holds in
    let stands = local_stands addresses h.locals h.has.words index value h.has.stand gave.stood in
    let words = h.has.words in
    let here :
    (k : ℕ) → k < length words → (base + k < length used) × (get_or (reverse used) (base + k) 0 ≡ get_or words k 0) =
    λ k within.
    subst (λ (l : List ℕ). (base + k < length l) × (get_or (reverse l) (base + k) 0 ≡ get_or words k 0)) (sym h.has.place)
    (subst
    (λ (n : ℕ).
    (n + k < length (h.above ++ (reverse words ++ h.below)))
    × (get_or (reverse (h.above ++ (reverse words ++ h.below))) (n + k) 0 ≡ get_or words k 0))
    (sym h.base_is) (local_within h.above words h.below k within, local_word h.above words h.below k within)) in
    let next : suc index ≡ index + 1 = omega arith in
    let sums : base + suc index ≡ base + index + 1 = omega arith in
    record {
      words = words;
      index = index;
      kind_is = gave.kind_is;
      is = stands.is;
      within = (here index stands.within).0;
      word = (here index stands.within).1;
      second_is =
          λ within.
          subst (λ (n : ℕ). (n < length used) × (get_or (reverse used) n 0 ≡ get_or (behind_local index words) 0 0)) sums
          ((here (suc index) within).0, (here (suc index) within).1 ∙ sym (next_word words index));
    }

pub load_within :
    (kind : ValueKind) (base index : ℕ) (used addresses : List ℕ) (value : Value) → Loads kind base index used addresses value
    → base + index < length used
load_within kind base index used addresses value h = (load_found kind base index used addresses value h).within

-- ---- one word

one_loaded :
    (kind : ValueKind) (at : ℕ) (used addresses : List ℕ) (value : Value) (after : List ℕ) → (kind ≡ kinds.Long → ⊥)
    → Found kind at used addresses value → after ≡ get_or (reverse used) at 0 ∷ used → IsOnTop addresses value after used
one_loaded kind at used addresses (Int number) after other h e =
    (get_or (reverse used) at 0, e, h.is ∙ ap (cast_signed w32) (sym h.word))
one_loaded kinds.Int at used addresses (Long number) after other h e = absurd (clash h.kind_is)
one_loaded kinds.Long at used addresses (Long number) after other h e = absurd (other refl)
one_loaded kinds.Reference at used addresses (Long number) after other h e = absurd (clash h.kind_is)
one_loaded kind at used addresses Null after other h e = e ∙ ap (λ (n : ℕ). n ∷ used) (h.word ∙ h.is)
one_loaded kind at used addresses (Reference id) after other h e =
    (get_or (reverse used) at 0, e, h.is ∙ ap (λ (n : ℕ). Some n) (sym h.word))
one_loaded kinds.Int at used addresses Half after other h e = absurd (clash h.kind_is)
one_loaded kinds.Long at used addresses Half after other h e = absurd (clash h.kind_is)
one_loaded kinds.Reference at used addresses Half after other h e = absurd (clash h.kind_is)
one_loaded kinds.Int at used addresses Unset after other h e = absurd (clash h.kind_is)
one_loaded kinds.Long at used addresses Unset after other h e = absurd (clash h.kind_is)
one_loaded kinds.Reference at used addresses Unset after other h e = absurd (clash h.kind_is)

pub word_loaded :
    (kind : ValueKind) (base index : ℕ) (used addresses : List ℕ) (value : Value) (after : List ℕ) → (kind ≡ kinds.Long → ⊥)
    → Loads kind base index used addresses value → after ≡ get_or (reverse used) (base + index) 0 ∷ used
    → IsOnTop addresses value after used
word_loaded kind base index used addresses value after other h e =
    one_loaded kind (base + index) used addresses value after other (load_found kind base index used addresses value h) e

-- ---- two words

pub record IsLongAt (at : ℕ) (used : List ℕ) (value : Value) : Type 0 where
  pub within : at + 1 < length used
  pub is : value ≡ Long (long_of (get_or (reverse used) at 0) (get_or (reverse used) (at + 1) 0))

long_found : (at : ℕ) (used addresses : List ℕ) (value : Value) → Found kinds.Long at used addresses value → IsLongAt at used value
long_found at used addresses (Int number) h = absurd (clash h.kind_is)
long_found at used addresses (Long number) h =
    let second = h.second_is (second_within h.words h.index h.is.0) in
    record {
      within = second.0;
      is =
          ap (λ (z : ℤ). Long z)
          (h.is.1 ∙ ap (λ (n : ℕ). long_of n (get_or (behind_local h.index h.words) 0 0)) (sym h.word)
          ∙ ap (λ (n : ℕ). long_of (get_or (reverse used) at 0) n) (sym second.1));
    }
long_found at used addresses Null h = absurd (clash h.kind_is)
long_found at used addresses (Reference id) h = absurd (clash h.kind_is)
long_found at used addresses Half h = absurd (clash h.kind_is)
long_found at used addresses Unset h = absurd (clash h.kind_is)

pub long_loads :
    (base index : ℕ) (used addresses : List ℕ) (value : Value) → Loads kinds.Long base index used addresses value
    → IsLongAt (base + index) used value
long_loads base index used addresses value h =
    long_found (base + index) used addresses value (load_found kinds.Long base index used addresses value h)

pub long_loaded :
    (base index : ℕ) (used addresses : List ℕ) (value : Value) (after : List ℕ) → Loads kinds.Long base index used addresses value
    → after ≡ get_or (reverse used) (base + index + 1) 0 ∷ get_or (reverse used) (base + index) 0 ∷ used → IsOnTop addresses value after used
long_loaded base index used addresses value after h e =
    let long = long_loads base index used addresses value h in
    let low = get_or (reverse used) (base + index) 0 in
    let high = get_or (reverse used) (base + index + 1) 0 in
    subst (λ (v : Value). IsOnTop addresses v after used) (sym long.is) (low, high, e, refl)
