-- A value that is carried from a block to the stack, or from the stack to a block.
use Rattle.std.proofs.Common.{◌≡◌, ℕ, List, [], ◌∷◌, Some, length, refl, sym, ap, ◌∙◌, get_or}
use Rattle.std.specs.Int.{w32, cast_signed}
use Rattle.jv_meaning_machine.specs.Values.{Value, value_words}
use Rattle.jv_meaning_machine.specs.Values.Value.{Int, Long, Null, Reference, Half, Unset}
use Rattle.jv_interp_words.specs.ValuesInWords.{long_of, IsOnTop}
use Rattle.jv_interp_heap.specs.ObjectsInBlocks.{IsIn}

same_first : (a b : ℕ) (xs ys : List ℕ) → a ∷ xs ≡ b ∷ ys → a ≡ b
same_first a b xs ys e = ap (λ (l : List ℕ). get_or l 0 0) e

same_second : (a b c d : ℕ) (xs ys : List ℕ) → a ∷ c ∷ xs ≡ b ∷ d ∷ ys → c ≡ d
same_second a b c d xs ys e = ap (λ (l : List ℕ). get_or l 1 0) e

-- ---- to the stack

pub word_pushed : (addresses : List ℕ) (value : Value) (word : ℕ) (under : List ℕ) → IsIn addresses value (word ∷ []) → IsOnTop addresses value (word ∷ under) under
word_pushed addresses (Int number) word under h =
    (word, refl, h.2 ∙ ap (cast_signed w32) (sym (same_first word h.0 [] [] h.1)))
word_pushed addresses (Long number) word under h = absurd (longer word h.0 h.1 h.2)
  where
    longer : (a b c : ℕ) → a ∷ [] ≡ b ∷ c ∷ [] → ⊥
    longer a b c e = cc
word_pushed addresses Null word under h = ap (λ (w : ℕ). w ∷ under) (same_first word 0 [] [] h)
word_pushed addresses (Reference id) word under h =
    (word, refl, h.2 ∙ ap Some (sym (same_first word h.0 [] [] h.1)))
word_pushed addresses Half word under h = absurd h
word_pushed addresses Unset word under h = absurd h

pub long_pushed :
    (addresses : List ℕ) (value : Value) (low high : ℕ) (under : List ℕ) → IsIn addresses value (low ∷ high ∷ [])
    → IsOnTop addresses value (high ∷ low ∷ under) under
long_pushed addresses (Long number) low high under h = (
  low,
  high,
  refl,
  h.3 ∙ ap (λ (a : ℕ). long_of a h.1) (sym (same_first low h.0 (high ∷ []) (h.1 ∷ []) h.2))
      ∙ ap (λ (b : ℕ). long_of low b) (sym (same_second low h.0 high h.1 [] [] h.2)),
)
long_pushed addresses (Int number) low high under h = absurd (longer low high h.0 h.1)
  where
    longer : (a b c : ℕ) → a ∷ b ∷ [] ≡ c ∷ [] → ⊥
    longer a b c e = cc
long_pushed addresses Null low high under h = absurd (longer low high h)
  where
    longer : (a b : ℕ) → a ∷ b ∷ [] ≡ 0 ∷ [] → ⊥
    longer a b e = cc
long_pushed addresses (Reference id) low high under h = absurd (longer low high h.0 h.1)
  where
    longer : (a b c : ℕ) → a ∷ b ∷ [] ≡ c ∷ [] → ⊥
    longer a b c e = cc
long_pushed addresses Half low high under h = absurd h
long_pushed addresses Unset low high under h = absurd h

-- ---- from the stack

pub record WordTaken (addresses : List ℕ) (value : Value) (used under : List ℕ) : Type 0 where
  pub word : ℕ
  pub used_is : used ≡ word ∷ under
  pub stands : IsIn addresses value (word ∷ [])

pub word_taken : (addresses : List ℕ) (value : Value) (used under : List ℕ) → IsOnTop addresses value used under → value_words value ≡ 1 → WordTaken addresses value used under
word_taken addresses (Int number) used under h e = record { word = h.0; used_is = h.1; stands = (h.0, refl, h.2) }
word_taken addresses (Long number) used under h e = absurd (clash e)
  where
    clash : ◌≡◌ {A = ℕ} 2 1 → ⊥
    clash e = cc
word_taken addresses Null used under h e = record { word = 0; used_is = h; stands = refl }
word_taken addresses (Reference id) used under h e = record { word = h.0; used_is = h.1; stands = (h.0, refl, h.2) }
word_taken addresses Half used under h e = absurd h
word_taken addresses Unset used under h e = absurd h

pub record LongTaken (addresses : List ℕ) (value : Value) (used under : List ℕ) : Type 0 where
  pub low : ℕ
  pub high : ℕ
  pub used_is : used ≡ high ∷ low ∷ under
  pub stands : IsIn addresses value (low ∷ high ∷ [])

pub long_taken : (addresses : List ℕ) (value : Value) (used under : List ℕ) → IsOnTop addresses value used under → value_words value ≡ 2 → LongTaken addresses value used under
long_taken addresses (Long number) used under h e = record { low = h.0; high = h.1; used_is = h.2; stands = (h.0, h.1, refl, h.3) }
long_taken addresses (Int number) used under h e = absurd (clash e)
  where
    clash : ◌≡◌ {A = ℕ} 1 2 → ⊥
    clash e = cc
long_taken addresses Null used under h e = absurd (clash e)
  where
    clash : ◌≡◌ {A = ℕ} 1 2 → ⊥
    clash e = cc
long_taken addresses (Reference id) used under h e = absurd (clash e)
  where
    clash : ◌≡◌ {A = ℕ} 1 2 → ⊥
    clash e = cc
long_taken addresses Half used under h e = absurd h
long_taken addresses Unset used under h e = absurd h

-- ---- words of their own, in a list

pub one_own : (own : List ℕ) → length own ≡ 1 → (word : ℕ) × (own ≡ word ∷ [])
one_own [] e = absurd cc
one_own (word ∷ []) e = (word, refl)
one_own (word ∷ other ∷ more) e = absurd cc

pub two_own : (own : List ℕ) → length own ≡ 2 → (first : ℕ) × (second : ℕ) × (own ≡ first ∷ second ∷ [])
two_own [] e = absurd cc
two_own (first ∷ []) e = absurd cc
two_own (first ∷ second ∷ []) e = (first, second, refl)
two_own (first ∷ second ∷ third ∷ more) e = absurd cc
