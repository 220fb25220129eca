-- How values stand in words of 32 bits (JVMS 2.3, 2.4): an int and a reference in one, a long in two, its lower half first. No word
-- tells of which kind it is: the value tells that, which is one of a state of the machine. So the same words can stand for many
-- states, and what is said of words is said for each state that stands in them.
use Rattle.std.specs.Prelude.{◌≡◌, ℕ, ◌+◌, ◌*◌, ◌≤◌, ℤ, ⊤, List, [], ◌∷◌, Some, length, slice_get, slice_index}
use Rattle.std.specs.Int.{w32, w64, cast_signed}
use Rattle.jv_meaning_machine.specs.Values.{Value}
use Rattle.jv_meaning_machine.specs.Values.Value.{Int, Long, Null, Reference, Half, Unset}

-- the number of 64 bits whose halves two words are
abbrev pub long_of : ℕ → ℕ → ℤ
long_of low high = cast_signed w64 (high * 4294967296 + low)

-- ---- references: the word of null is 0, and that of an object its address, one of a list that has each object's at its number

-- no two objects have one address, and none has 0
pub record AreAddresses (addresses : List ℕ) : Type 0 where
  pub apart :
      (id other address : ℕ) → slice_get addresses id ≡ Some address → slice_get addresses other ≡ Some address → id ≡ other
  pub not_null : (id : ℕ) → slice_get addresses id ≡ Some 0 → ⊥

-- ---- stacks (2.6.2), the top first, as their words are

-- A value stands on top of words, the others of which are these.
abbrev pub IsOnTop : List ℕ → Value → List ℕ → List ℕ → Type 0
IsOnTop addresses (Int value) words below = (word : ℕ) × (words ≡ word ∷ below) × (value ≡ cast_signed w32 word)
IsOnTop addresses (Long value) words below =
    (low : ℕ) × (high : ℕ) × (words ≡ high ∷ low ∷ below) × (value ≡ long_of low high)
IsOnTop addresses Null words below = words ≡ 0 ∷ below
IsOnTop addresses (Reference id) words below =
    (address : ℕ) × (words ≡ address ∷ below) × (slice_get addresses id ≡ Some address)
IsOnTop addresses Half words below = ⊥
IsOnTop addresses Unset words below = ⊥

-- The values of a stack do, one on the other.
abbrev pub AreOnTop : List ℕ → List Value → List ℕ → List ℕ → Type 0
AreOnTop addresses [] words below = words ≡ below
AreOnTop addresses (value ∷ stack) words below =
    (under : List ℕ) × IsOnTop addresses value words under × AreOnTop addresses stack under below

-- ---- local variables (2.6.1), the first one first: each has a word, and a long those of two

-- What a local variable holds stands in its word, and a long's higher half in the first of the words behind. A word that holds
-- nothing, or that half, may be any.
abbrev pub IsLocal : List ℕ → Value → ℕ → List ℕ → Type 0
IsLocal addresses (Int value) word behind = value ≡ cast_signed w32 word
IsLocal addresses (Long value) word behind = (1 ≤ length behind) × (value ≡ long_of word (slice_index behind 0))
IsLocal addresses Null word behind = word ≡ 0
IsLocal addresses (Reference id) word behind = slice_get addresses id ≡ Some word
IsLocal addresses Half word behind = ⊤
IsLocal addresses Unset word behind = ⊤

abbrev pub AreLocals : List ℕ → List Value → List ℕ → Type 0
AreLocals addresses [] [] = ⊤
AreLocals addresses (local ∷ locals) (word ∷ behind) = IsLocal addresses local word behind × AreLocals addresses locals behind
AreLocals addresses _ _ = ⊥
