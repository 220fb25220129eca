-- The numbers of a class file (JVMS 4): the bytes of a u1, a u2 and a u4, the high byte first, and which numbers have
-- such bytes.
use Rattle.std.specs.Prelude.{◌≡◌, ℕ, ◌/◌, ◌%◌, ◌<◌, Bool, ◌&&◌, List, [], ◌∷◌, nat_lt, nat_le}
use Rattle.byteorder.specs.Endian.{big_bytes}

abbrev pub u1_bytes : ℕ → List ℕ
u1_bytes n = n ∷ []

abbrev pub u2_bytes : ℕ → List ℕ
u2_bytes n = (n / 256) ∷ (n % 256) ∷ []

abbrev pub u4_bytes : ℕ → List ℕ
u4_bytes n = (n / 16777216) ∷ (n / 65536 % 256) ∷ (n / 256 % 256) ∷ (n % 256) ∷ []

abbrev pub u1_fits : ℕ → Bool
u1_fits n = nat_lt n 256

abbrev pub u2_fits : ℕ → Bool
u2_fits n = nat_lt n 65536

abbrev pub u4_fits : ℕ → Bool
u4_fits n = nat_lt n 4294967296

-- a number from one to another
abbrev pub is_from_to : (first last n : ℕ) → Bool
is_from_to first last n = nat_le first n && nat_le n last

-- A law: these are the bytes that the library that reads and writes them calls big-endian.
pub record AreBigEndian : Type 0 where
  pub two : (n : ℕ) → n < 65536 → u2_bytes n ≡ big_bytes 2 n
  pub four : (n : ℕ) → n < 4294967296 → u4_bytes n ≡ big_bytes 4 n
