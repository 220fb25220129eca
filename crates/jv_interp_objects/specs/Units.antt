-- The units of a text that is known to spell some (JVMS 4.4.7).
use Rattle.std.specs.Prelude.{◌≡◌, ℕ, ◌<◌, ◌^◌, Bool, ◌||◌, nat_lt, nat_le, List, ◌∷◌, ◌++◌, length}
use Rattle.jv_text.specs.Text.{unit_bytes, Spells}

-- a byte that begins one
abbrev pub begins_unit : ℕ → Bool
begins_unit byte = nat_lt byte 128 || nat_le 192 byte

-- it has so many
abbrev pub HasUnits : List ℕ → ℕ → Type 0
HasUnits text count = (units : List ℕ) → Spells units text → count ≡ length units

-- it spells one unit at least
pub record IsSomeText (text : List ℕ) : Type 0 where
  pub unit : ℕ
  pub units : List ℕ
  pub spells : Spells (unit ∷ units) text

-- the unit at its front, and what follows
pub record BeginsWithUnit (text : List ℕ) (unit : ℕ) (rest : List ℕ) : Type 0 where
  pub fits : unit < 2 ^ 16
  pub spelled : text ≡ unit_bytes unit ++ rest
