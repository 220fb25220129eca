-- Local variables among the words in use (JVMS 2.6.1).
use Rattle.std.specs.Prelude.{◌≡◌, ℕ, ◌+◌, ◌≤◌, ℤ, true, List, [], ◌∷◌, ◌++◌, Ok, Some, length, reverse}
use Rattle.std.specs.Int.{w32, int_wrapping_add}
use Rattle.jv_code.specs.declared.kinds.ValueKind.{ValueKind}
use Rattle.jv_code.specs.declared.kinds.ValueKind.TheVariants as kinds
use Rattle.jv_meaning_machine.specs.Values.{Value, has_kind, value_words}
use Rattle.jv_meaning_machine.specs.Values.Value.{Int}
use Rattle.jv_meaning_machine.specs.Frames.{local_at, local_words, stored}
use Rattle.jv_interp_words.specs.ValuesInWords.{AreLocals, IsOnTop}

-- Local variables stand among words: on those of other frames, with these above them.
pub record HasLocals (addresses : List ℕ) (locals : List Value) (above used below : List ℕ) : Type 0 where
  pub words : List ℕ
  pub place : used ≡ above ++ (reverse words ++ below)
  pub stand : AreLocals addresses locals words

-- A local variable, with a number, holds a value of a kind.
pub record Loads (kind : ValueKind) (base index : ℕ) (used addresses : List ℕ) (value : Value) : Type 0 where
  pub locals : List Value
  pub above : List ℕ
  pub below : List ℕ
  pub has : HasLocals addresses locals above used below
  pub base_is : base ≡ length below
  pub holds : local_at kind index locals ≡ Ok value

-- There is one that holds one, and room for it.
pub record CanLoad (kind : ValueKind) (base index : ℕ) (used : List ℕ) (size : ℕ) : Type 0 where
  pub addresses : List ℕ
  pub value : Value
  pub loads : Loads kind base index used addresses value
  pub room : length used + value_words value ≤ size

-- A value of a kind on top can be stored from a local variable on; what the local variables then are, and the words above and
-- below them, which stay.
pub record Stores (kind : ValueKind) (base index : ℕ) (used addresses : List ℕ) (after : List Value) (above below : List ℕ) : Type 0 where
  pub value : Value
  pub kind_is : has_kind kind value ≡ true
  pub under : List ℕ
  pub on_top : IsOnTop addresses value used under
  pub locals : List Value
  pub has : HasLocals addresses locals above under below
  pub base_is : base ≡ length below
  pub stores : stored (local_words value) index locals ≡ Some after

pub record CanStore (kind : ValueKind) (base index : ℕ) (used : List ℕ) : Type 0 where
  pub addresses : List ℕ
  pub after : List Value
  pub above : List ℕ
  pub below : List ℕ
  pub stores : Stores kind base index used addresses after above below

-- A local variable holds an int, to which another can be added; what the local variables then are, among these words.
pub record Increments (by : ℤ) (base index : ℕ) (used addresses : List ℕ) (after : List Value) (above below : List ℕ) : Type 0 where
  pub number : ℤ
  pub locals : List Value
  pub has : HasLocals addresses locals above used below
  pub base_is : base ≡ length below
  pub holds : local_at kinds.Int index locals ≡ Ok (Int number)
  pub stores : stored (Int (int_wrapping_add w32 number by) ∷ []) index locals ≡ Some after

pub record CanIncrement (by : ℤ) (base index : ℕ) (used : List ℕ) : Type 0 where
  pub addresses : List ℕ
  pub after : List Value
  pub above : List ℕ
  pub below : List ℕ
  pub increments : Increments by base index used addresses after above below
