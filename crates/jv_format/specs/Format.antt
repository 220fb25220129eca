-- Formats: how values are spelled in bytes, and how they are read from the front of bytes.
use Rattle.std.specs.Prelude.{◌≡◌, ℕ, ◌+◌, ◌*◌, ◌<◌, Bool, List, [], ◌∷◌, ◌++◌, length, take, drop, slice_index, Option, Some, None, nat_lt, if◌then◌else◌}
use Rattle.jv_format.specs.Numbers.{u1_bytes, u1_fits, u2_bytes, u2_fits, u4_bytes, u4_fits}

-- the bytes of a value, which values have bytes, and what stands at the front of bytes, with the rest
pub record Format (A : Type 0) : Type 0 where
  pub spelling : A → List ℕ
  pub fits : A → Bool
  pub read : List ℕ → Option (A × List ℕ)

-- the next step of a reading, where the one before found something
infixl 10 ◌>>=◌
abbrev pub ◌>>=◌ : {A B : Type 0} → Option A → (A → Option B) → Option B
None >>= f = None
(Some x) >>= f = f x

-- numbers below 256
abbrev pub IsBytes : List ℕ → Type 0
IsBytes bytes = (i : ℕ) → slice_index bytes i < 256

-- What a function found at the front, seen by view, is what the format reads there.
abbrev pub Finds : {A X : Type 0} → Format A → List ℕ → (X → A × List ℕ) → Option X → Type 0
Finds f bytes view None = f.read bytes ≡ None
Finds f bytes view (Some x) = f.read bytes ≡ Some (view x)

-- One byte.
abbrev pub byte_read : List ℕ → Option (ℕ × List ℕ)
byte_read [] = None
byte_read (a ∷ rest) = Some (a, rest)

abbrev pub byte : Format ℕ
byte = record { spelling = u1_bytes; fits = u1_fits; read = byte_read }

-- Two bytes: a `u2` of the class file format.
abbrev pub half_read : List ℕ → Option (ℕ × List ℕ)
half_read [] = None
half_read (a ∷ []) = None
half_read (a ∷ b ∷ rest) = Some (a * 256 + b, rest)

abbrev pub half : Format ℕ
half = record { spelling = u2_bytes; fits = u2_fits; read = half_read }

-- as many bytes of the front as the number says, and the rest
abbrev pub front : ℕ × List ℕ → Option (List ℕ × List ℕ)
front n = if nat_lt (length n.1) n.0 then None else Some (take n.0 n.1, drop n.0 n.1)

-- a length in two bytes, and that many bytes
abbrev pub text : Format (List ℕ)
text = record {
  spelling = λ t. half.spelling (length t) ++ t;
  fits = λ t. nat_lt (length t) 65536;
  read = λ bytes. half.read bytes >>= front;
}

-- Four bytes: a `u4` of the class file format.
abbrev pub quad_read : List ℕ → Option (ℕ × List ℕ)
quad_read (a ∷ b ∷ c ∷ d ∷ rest) = Some (a * 16777216 + b * 65536 + c * 256 + d, rest)
quad_read _ = None

abbrev pub quad : Format ℕ
quad = record { spelling = u4_bytes; fits = u4_fits; read = quad_read }
