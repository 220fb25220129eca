-- Texts that get numbers one after the other.
use Rattle.std.specs.Prelude.{◌≡◌, ℕ, ⊤, List, ◌++◌, Option, Some, None, slice_get}
use Rattle.jv_pool.specs.Constants.{Entry, utf8_at, string_at}
use Rattle.jv_interp_objects.specs.Texts.{HasText, AreDifferent, AreShort}

-- others may have joined behind them
abbrev pub Extends : List (List ℕ) → List (List ℕ) → Type 0
Extends old new = (number : ℕ) (text : List ℕ) → HasText old text number → HasText new text number

-- no two are the same still, and none is long
pub record Numbers (old new : List (List ℕ)) : Type 0 where
  pub extends : Extends old new
  pub differ : AreDifferent old → AreDifferent new
  pub short : AreShort old → AreShort new

-- the number of the text at an index is known, or not yet
abbrev pub IsKnown : List (List ℕ) → List Entry → Option (ℕ × ℕ) → Type 0
IsKnown texts pool None = ⊤
IsKnown texts pool (Some entry) = (text : List ℕ) → utf8_at pool entry.0 ≡ Some text → HasText texts text entry.1

-- it is the number of the String constant at an index, if there is one
abbrev pub IsNumberAt : List (List ℕ) → List Entry → ℕ → ℕ → Type 0
IsNumberAt texts pool index number = (text : List ℕ) → string_at pool index ≡ Some text → HasText texts text number

-- they are those of the String constants before an index
abbrev pub AreBefore : List (List ℕ) → List Entry → List ℕ → Type 0
AreBefore texts pool numbers = (index number : ℕ) → slice_get numbers index ≡ Some number → IsNumberAt texts pool index number
