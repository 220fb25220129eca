-- Computations on the words in use (JVMS 6.5).
use Rattle.std.specs.Prelude.{◌≡◌, ℕ, ◌+◌, ◌≤◌, List, Ok, length, reverse}
use Rattle.jv_code.specs.declared.kinds.Computation.{Computation}
use Rattle.jv_meaning_machine.specs.Values.{Value, value_words}
use Rattle.jv_meaning_machine.specs.Arithmetic.{computed}
use Rattle.jv_interp_words.specs.ValuesInWords.{IsOnTop, AreOnTop}

-- A computation has its operands on top, and there is room for what it gives.
pub record Computes (what : Computation) (used : List ℕ) (size : ℕ) : Type 0 where
  pub addresses : List ℕ
  pub values : List Value
  pub value : Value
  pub below : List ℕ
  pub gives : computed what values ≡ Ok value
  pub stand : AreOnTop addresses (reverse values) used below
  pub room : length below + value_words value ≤ size

-- What it gives comes to stand in the place of its operands.
abbrev pub Gives : Computation → List ℕ → List ℕ → Type 0
Gives what before after =
    (addresses : List ℕ) (values : List Value) (value : Value) (below : List ℕ) → computed what values ≡ Ok value
    → AreOnTop addresses (reverse values) before below → IsOnTop addresses value after below
