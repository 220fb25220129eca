-- What is taken from the top of a frame's stack, and the frame without it.
use Rattle.std.proofs.Common.{◌≡◌, ℕ, suc, ◌≤◌, List, ◌∷◌, ◌++◌, Some, length, reverse, sym, ap, subst, ◌∙◌, get_or, drop, arith, slice_get}
use Rattle.jv_meaning_machine.specs.Values.{Value}
use Rattle.jv_meaning_machine.specs.Values.Value.{Int, Long, Null, Reference, Half, Unset}
use Rattle.jv_interp_words.specs.ValuesInWords.{AreAddresses, IsOnTop, AreOnTop}
use Rattle.jv_interp_words.specs.FramesInWords.{in_use, FrameStands}
use Rattle.jv_interp_words.proofs.InUse.{length-in_use}

pub record Popped (addresses : List ℕ) (locals : List Value) (value : Value) (rest : List Value) (used below : List ℕ) : Type 0 where
  pub under : List ℕ
  pub on_top : IsOnTop addresses value used under
  pub lower : FrameStands addresses locals rest under below

pub frame_popped :
    (addresses : List ℕ) (locals stack : List Value) (value : Value) (rest : List Value) (used below : List ℕ)
    → FrameStands addresses locals stack used below → stack ≡ value ∷ rest → Popped addresses locals value rest used below
frame_popped addresses locals stack value rest used below h e =
    let s = subst (λ (vs : List Value). AreOnTop addresses vs used (reverse h.words ++ below)) e h.stack_stands in
    record { under = s.0; on_top = s.1; lower = record { words = h.words; stack_stands = s.2; locals_stand = h.locals_stand } }

pub frame_pushed :
    (addresses : List ℕ) (locals : List Value) (value : Value) (rest : List Value) (after under below : List ℕ)
    → FrameStands addresses locals rest under below → IsOnTop addresses value after under → FrameStands addresses locals (value ∷ rest) after below
frame_pushed addresses locals value rest after under below h top =
    record { words = h.words; stack_stands = (under, top, h.stack_stands); locals_stand = h.locals_stand }

-- ---- the words that are in use

pub some_used : (addresses : List ℕ) (value : Value) (words : List ℕ) (top : ℕ) (under : List ℕ) → top ≤ length words
    → IsOnTop addresses value (in_use words top) under → 1 ≤ top
some_used addresses (Int number) words top under within h = by_length top (ap length h.1) (length-in_use words top within)
  where
    by_length : (n : ℕ) → length (in_use words top) ≡ suc (length under) → length (in_use words top) ≡ n → 1 ≤ n
    by_length n a b = omega (arith, a, b)
some_used addresses (Long number) words top under within h = by_length top (ap length h.2) (length-in_use words top within)
  where
    by_length : (n : ℕ) → length (in_use words top) ≡ suc (suc (length under)) → length (in_use words top) ≡ n → 1 ≤ n
    by_length n a b = omega (arith, a, b)
some_used addresses Null words top under within h = by_length top (ap length h) (length-in_use words top within)
  where
    by_length : (n : ℕ) → length (in_use words top) ≡ suc (length under) → length (in_use words top) ≡ n → 1 ≤ n
    by_length n a b = omega (arith, a, b)
some_used addresses (Reference id) words top under within h = by_length top (ap length h.1) (length-in_use words top within)
  where
    by_length : (n : ℕ) → length (in_use words top) ≡ suc (length under) → length (in_use words top) ≡ n → 1 ≤ n
    by_length n a b = omega (arith, a, b)
some_used addresses Half words top under within h = absurd h
some_used addresses Unset words top under within h = absurd h

-- ---- references on top, by their word

same_first : (a b : ℕ) (xs ys : List ℕ) → a ∷ xs ≡ b ∷ ys → a ≡ b
same_first a b xs ys e = ap (λ (l : List ℕ). get_or l 0 0) e

same_rest : (a b : ℕ) (xs ys : List ℕ) → a ∷ xs ≡ b ∷ ys → xs ≡ ys
same_rest a b xs ys e = ap (λ (l : List ℕ). drop 1 l) e

-- null's is 0, and no other reference's
pub null_word : (addresses : List ℕ) (word : ℕ) (rest under : List ℕ) → IsOnTop addresses Null (word ∷ rest) under → (word ≡ 0) × (rest ≡ under)
null_word addresses word rest under h = (same_first word 0 rest under h, same_rest word 0 rest under h)

pub reference_word :
    (addresses : List ℕ) (id word : ℕ) (rest under : List ℕ) → IsOnTop addresses (Reference id) (word ∷ rest) under
    → (slice_get addresses id ≡ Some word) × (rest ≡ under)
reference_word addresses id word rest under h =
    (h.2 ∙ ap Some (sym (same_first word h.0 rest under h.1)), same_rest word h.0 rest under h.1)

pub not_zero : (addresses : List ℕ) (id word : ℕ) → AreAddresses addresses → slice_get addresses id ≡ Some word → word ≡ 0 → ⊥
not_zero addresses id word are at zero_is = are.not_null id (at ∙ ap Some zero_is)
