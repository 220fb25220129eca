-- Numbers that are taken from the words in use, and put there.
use Rattle.std.specs.Prelude.{◌≡◌, ℕ, ℤ, List}
use Rattle.jv_code.specs.declared.kinds.NumberKind.{NumberKind}
use Rattle.jv_meaning_machine.specs.Arithmetic.{number_value}
use Rattle.jv_interp_words.specs.ValuesInWords.{IsOnTop}

-- This number is the one that stands on top, and these are the words below it.
abbrev pub Takes : NumberKind → List ℕ → List ℕ → ℤ → Type 0
Takes kind before after number =
    (addresses : List ℕ) (value : ℤ) (below : List ℕ) → IsOnTop addresses (number_value kind value) before below
    → (value ≡ number) × (after ≡ below)

-- It stands on top of them.
abbrev pub Puts : NumberKind → List ℕ → List ℕ → ℤ → Type 0
Puts kind before after number = (addresses : List ℕ) → IsOnTop addresses (number_value kind number) after before
