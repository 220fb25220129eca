-- What a store leaves.
use Rattle.std.proofs.Common.{◌≡◌, ℕ, zero, suc, ◌+◌, ◌<◌, ℤ, true, false, List, [], ◌∷◌, ◌++◌, Some, length, reverse, get_or, set, refl, sym, ap, subst, ◌∙◌, arith}
use Rattle.std.proofs.lemmas.List.{reverse-reverse}
use Rattle.std.specs.Int.{w32, cast_signed, int_wrapping_add}
use Rattle.jv_code.specs.declared.kinds.ValueKind.{ValueKind}
use Rattle.jv_code.specs.declared.kinds.ValueKind.TheVariants as kinds
use Rattle.jv_meaning_machine.specs.Values.{Value, has_kind}
use Rattle.jv_meaning_machine.specs.Values.Value.{Int, Long, Null, Reference, Half, Unset}
use Rattle.jv_meaning_machine.specs.Frames.{local_words, stored}
use Rattle.jv_interp_words.specs.ValuesInWords.{IsOnTop, AreLocals}
use Rattle.jv_interp_words.specs.Inside.Locals.{HasLocals, Loads, Stores, Increments}
use Rattle.jv_interp_words.proofs.Loaded.{local_within, load_found}
use Rattle.jv_interp_words.proofs.Reversed.{local_set}
use Rattle.jv_interp_words.proofs.Stored.{locals_stored, overwritten, one_set, two_set}

clash : false ≡ true → ⊥
clash e = absurd cc

-- ---- one word

pub record IsOneWord (used under addresses : List ℕ) (value : Value) : Type 0 where
  pub word : ℕ
  pub top : used ≡ word ∷ under
  pub stands : AreLocals addresses (local_words value) (word ∷ [])
  pub count : length (local_words value) ≡ 1

one_word :
    (kind : ValueKind) (value : Value) (used under addresses : List ℕ) → (kind ≡ kinds.Long → ⊥) → has_kind kind value ≡ true
    → IsOnTop addresses value used under → IsOneWord used under addresses value
one_word kind (Int number) used under addresses other k h = record { word = h.0; top = h.1; stands = (h.2, tt); count = refl }
one_word kinds.Int (Long number) used under addresses other k h = absurd (clash k)
one_word kinds.Long (Long number) used under addresses other k h = absurd (other refl)
one_word kinds.Reference (Long number) used under addresses other k h = absurd (clash k)
one_word kind Null used under addresses other k h = record { word = 0; top = h; stands = (refl, tt); count = refl }
one_word kind (Reference id) used under addresses other k h = record { word = h.0; top = h.1; stands = (h.2, tt); count = refl }
one_word kind Half used under addresses other k h = absurd h
one_word kind Unset used under addresses other k h = absurd h

-- ---- two words

pub record AreTwoWords (used under addresses : List ℕ) (value : Value) : Type 0 where
  pub low : ℕ
  pub high : ℕ
  pub top : used ≡ high ∷ low ∷ under
  pub stands : AreLocals addresses (local_words value) (low ∷ high ∷ [])
  pub count : length (local_words value) ≡ 2

two_words :
    (value : Value) (used under addresses : List ℕ) → has_kind kinds.Long value ≡ true → IsOnTop addresses value used under
    → AreTwoWords used under addresses value
two_words (Int number) used under addresses k h = absurd (clash k)
two_words (Long number) used under addresses k h =
    record { low = h.0; high = h.1; top = h.2; stands = ((omega arith, h.3), (tt, tt)); count = refl }
two_words Null used under addresses k h = absurd (clash k)
two_words (Reference id) used under addresses k h = absurd (clash k)
two_words Half used under addresses k h = absurd h
two_words Unset used under addresses k h = absurd h

-- ---- among the words in use

pub record PutsWord (at : ℕ) (used addresses : List ℕ) (after : List Value) (above below : List ℕ) : Type 0 where
  pub word : ℕ
  pub under : List ℕ
  pub top : used ≡ word ∷ under
  pub within : at < length under
  pub leaves : (now : List ℕ) → now ≡ reverse (set (reverse under) at word) → HasLocals addresses after above now below

placed :
    (addresses : List ℕ) (after : List Value) (above below words : List ℕ) (turned now : List ℕ) → AreLocals addresses after words
    → turned ≡ reverse (above ++ (reverse words ++ below)) → now ≡ reverse turned → HasLocals addresses after above now below
placed addresses after above below words turned now h e f = record {
  words = words;
  place = f ∙ ap (λ (l : List ℕ). reverse l) e ∙ reverse-reverse (above ++ (reverse words ++ below));
  stand = h;
}

-- a word is written where one local variable is stored to
pub record IsWritten (at word : ℕ) (under addresses : List ℕ) (after : List Value) (above below : List ℕ) : Type 0 where
  pub within : at < length under
  pub leaves : (now : List ℕ) → now ≡ reverse (set (reverse under) at word) → HasLocals addresses after above now below

pub one_written :
    (values : List Value) (word base index : ℕ) (under addresses : List ℕ) (locals after : List Value) (above below : List ℕ)
    → AreLocals addresses values (word ∷ []) → length values ≡ 1 → stored values index locals ≡ Some after
    → HasLocals addresses locals above under below → base ≡ length below → IsWritten (base + index) word under addresses after above below
one_written values word base index under addresses locals after above below stands count stores has base_is =
    let words = has.words in
    let there = locals_stored addresses values (word ∷ []) index locals words after stands stores has.stand in
    let inside : index < length words = omega (arith, there.within, count) in
    let at : base + index ≡ length below + index = ap (λ (n : ℕ). n + index) base_is in
    let here : length below + index < length (above ++ (reverse words ++ below)) = local_within above words below index inside in
    record {
      within =
          subst (λ (n : ℕ). n < length under) (sym at)
          (subst (λ (l : List ℕ). length below + index < length l) (sym has.place) here);
      leaves =
          λ now e.
          placed addresses after above below (overwritten (word ∷ []) index words) (set (reverse under) (base + index) word) now there.stand
          (ap (λ (l : List ℕ). set (reverse l) (base + index) word) has.place
          ∙ ap (λ (n : ℕ). set (reverse (above ++ (reverse words ++ below))) n word) at
          ∙ local_set above words below index word inside
          ∙ ap (λ (l : List ℕ). reverse (above ++ (reverse l ++ below))) (one_set words index word inside))
          e;
    }

pub word_stored :
    (kind : ValueKind) (base index : ℕ) (used addresses : List ℕ) (after : List Value) (above below : List ℕ) → (kind ≡ kinds.Long → ⊥)
    → Stores kind base index used addresses after above below → PutsWord (base + index) used addresses after above below
word_stored kind base index used addresses after above below other h =
    let one = one_word kind h.value used h.under addresses other h.kind_is h.on_top in
    let written =
    one_written (local_words h.value) one.word base index h.under addresses h.locals after above below one.stands one.count h.stores h.has
    h.base_is in
    record { word = one.word; under = h.under; top = one.top; within = written.within; leaves = written.leaves }

-- the int that is added to, and the word of the sum
pub record IsAdded (by : ℤ) (at : ℕ) (used addresses : List ℕ) (after : List Value) (above below : List ℕ) : Type 0 where
  pub within : at < length used
  pub leaves :
      (sum : ℕ) (now : List ℕ) → cast_signed w32 sum ≡ int_wrapping_add w32 (cast_signed w32 (get_or (reverse used) at 0)) by
      → now ≡ reverse (set (reverse used) at sum) → HasLocals addresses after above now below

pub int_added :
    (by : ℤ) (base index : ℕ) (used addresses : List ℕ) (after : List Value) (above below : List ℕ)
    → Increments by base index used addresses after above below → IsAdded by (base + index) used addresses after above below
int_added by base index used addresses after above below h =
    let loads : Loads kinds.Int base index used addresses (Int h.number) =
    record { locals = h.locals; above = above; below = below; has = h.has; base_is = h.base_is; holds = h.holds } in
    let found = load_found kinds.Int base index used addresses (Int h.number) loads in
    let number : h.number ≡ cast_signed w32 (get_or (reverse used) (base + index) 0) = found.is ∙ ap (cast_signed w32) (sym found.word) in
    record {
      within = found.within;
      leaves =
          λ sum now e.
          (one_written (Int (int_wrapping_add w32 h.number by) ∷ []) sum base index used addresses h.locals after above below
          (ap (λ (z : ℤ). int_wrapping_add w32 z by) number ∙ sym e, tt) refl h.stores h.has h.base_is).leaves now;
    }

pub record PutsLong (at : ℕ) (used addresses : List ℕ) (after : List Value) (above below : List ℕ) : Type 0 where
  pub low : ℕ
  pub high : ℕ
  pub under : List ℕ
  pub top : used ≡ high ∷ low ∷ under
  pub within : at + 1 < length under
  pub leaves : (now : List ℕ) → now ≡ reverse (set (set (reverse under) at low) (at + 1) high) → HasLocals addresses after above now below

length_set : (words : List ℕ) (k word : ℕ) → length (set words k word) ≡ length words
length_set [] k word = refl
length_set (first ∷ words) zero word = refl
length_set (first ∷ words) (suc k) word = ap suc (length_set words k word)

pub long_stored :
    (base index : ℕ) (used addresses : List ℕ) (after : List Value) (above below : List ℕ)
    → Stores kinds.Long base index used addresses after above below → PutsLong (base + index) used addresses after above below
long_stored base index used addresses after above below h =
    let two = two_words h.value used h.under addresses h.kind_is h.on_top in
    let words = h.has.words in
    let there =
    locals_stored addresses (local_words h.value) (two.low ∷ two.high ∷ []) index h.locals words after two.stands h.stores h.has.stand in
    let inside : suc index < length words = omega (arith, there.within, two.count) in
    let first : index < length words = omega (arith, inside) in
    let at : base + index ≡ length below + index = ap (λ (n : ℕ). n + index) h.base_is in
    let next : base + index + 1 ≡ length below + suc index = omega (arith, at) in
    let here : length below + suc index < length (above ++ (reverse words ++ below)) = local_within above words below (suc index) inside in
    let second : suc index < length (set words index two.low) = omega (arith, inside, length_set words index two.low) in
    record {
      low = two.low;
      high = two.high;
      under = h.under;
      top = two.top;
      within =
          subst (λ (n : ℕ). n < length h.under) (sym next)
          (subst (λ (l : List ℕ). length below + suc index < length l) (sym h.has.place) here);
      leaves =
          λ now e.
          placed addresses after above below (overwritten (two.low ∷ two.high ∷ []) index words)
          (set (set (reverse h.under) (base + index) two.low) (base + index + 1) two.high) now there.stand
          (ap (λ (l : List ℕ). set (set (reverse l) (base + index) two.low) (base + index + 1) two.high) h.has.place
          ∙ ap (λ (n : ℕ). set (set (reverse (above ++ (reverse words ++ below))) n two.low) (base + index + 1) two.high) at
          ∙ ap (λ (l : List ℕ). set l (base + index + 1) two.high) (local_set above words below index two.low first)
          ∙ ap (λ (n : ℕ). set (reverse (above ++ (reverse (set words index two.low) ++ below))) n two.high) next
          ∙ local_set above (set words index two.low) below (suc index) two.high second
          ∙ ap (λ (l : List ℕ). reverse (above ++ (reverse l ++ below))) (two_set words index two.low two.high inside))
          e;
    }

-- ---- the words that were read are those that stood there

pub word_there :
    (read under : List ℕ) (at word known : ℕ) → word ∷ read ≡ known ∷ under
    → reverse (set (reverse read) at word) ≡ reverse (set (reverse under) at known)
word_there read under at word known e =
    let words : read ≡ under = cc in
    let same : word ≡ known = cc in
    ap (λ (l : List ℕ). reverse (set (reverse l) at word)) words ∙ ap (λ (n : ℕ). reverse (set (reverse under) at n)) same

pub two_there :
    (read under : List ℕ) (at low known_low high known_high : ℕ) → high ∷ low ∷ read ≡ known_high ∷ known_low ∷ under
    → reverse (set (reverse (reverse (set (reverse read) at low))) (at + 1) high)
    ≡ reverse (set (set (reverse under) at known_low) (at + 1) known_high)
two_there read under at low known_low high known_high e =
    let words : read ≡ under = cc in
    let lower : low ≡ known_low = cc in
    let upper : high ≡ known_high = cc in
    ap (λ (l : List ℕ). reverse (set l (at + 1) high)) (reverse-reverse (set (reverse read) at low))
    ∙ ap (λ (l : List ℕ). reverse (set (set (reverse l) at low) (at + 1) high)) words
    ∙ ap (λ (n : ℕ). reverse (set (set (reverse under) at n) (at + 1) high)) lower
    ∙ ap (λ (n : ℕ). reverse (set (set (reverse under) at known_low) (at + 1) n)) upper
