-- Division and remainder on the words in use (JVMS 6.5, idiv and its kin).
use Rattle.std.specs.Prelude.{◌≡◌, ℕ, ℤ, pos, true, false, List, [], ◌∷◌, Option, Some, None}
use Rattle.std.specs.Ordering.{int_eq}
use Rattle.jv_code.specs.declared.kinds.DivisionOperator.{DivisionOperator}
use Rattle.jv_code.specs.declared.kinds.NumberKind.{NumberKind}
use Rattle.jv_meaning_machine.specs.Arithmetic.{number_value, width_of, divided}
use Rattle.jv_interp_words.specs.ValuesInWords.{IsOnTop, AreOnTop}
use Rattle.jv_interp_words.specs.FramesInWords.{in_use}

-- The numbers on top, a below b, are divided: what that gives stands in their place, where so many words are then in use; and none
-- are told only where b is 0.
abbrev pub Divides : NumberKind → DivisionOperator → List ℕ → List ℕ → Option ℕ → Type 0
Divides kind operator before words (Some top) =
    (addresses : List ℕ) (a b : ℤ) (below : List ℕ)
    → AreOnTop addresses (number_value kind b ∷ number_value kind a ∷ []) before below
    → (int_eq b (pos 0) ≡ false)
    × IsOnTop addresses (number_value kind (divided operator (width_of kind) a b)) (in_use words top) below
Divides kind operator before words None =
    (addresses : List ℕ) (a b : ℤ) (below : List ℕ)
    → AreOnTop addresses (number_value kind b ∷ number_value kind a ∷ []) before below → int_eq b (pos 0) ≡ true
