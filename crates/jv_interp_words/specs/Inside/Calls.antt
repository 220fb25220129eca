-- Words of frames that are entered and left (JVMS 2.6).
use Rattle.std.specs.Prelude.{◌≡◌, ℕ, true, List, ◌++◌, Ok, length, reverse}
use Rattle.std.specs.List.{flat_map}
use Rattle.jv_code.specs.declared.kinds.ValueKind.{ValueKind}
use Rattle.jv_meaning_machine.specs.Values.{Value, has_kind}
use Rattle.jv_meaning_machine.specs.Frames.{local_words, filled}
use Rattle.jv_interp_words.specs.ValuesInWords.{IsOnTop, AreOnTop}

-- These arguments are on top of other words, and fit a frame with so many local variables, which then are these.
pub record Passes (max_locals count : ℕ) (used addresses : List ℕ) (locals : List Value) (under : List ℕ) : Type 0 where
  pub arguments : List Value
  pub on_top : AreOnTop addresses (reverse arguments) used under
  pub count_is : count ≡ length (flat_map local_words arguments)
  pub fills : filled max_locals (flat_map local_words arguments) ≡ Ok locals

-- A value of a kind is on top of a frame's words, which stand on others.
pub record Returns (kind : ValueKind) (base : ℕ) (used addresses : List ℕ) (value : Value) (under : List ℕ) : Type 0 where
  pub kind_is : has_kind kind value ≡ true
  pub above : List ℕ
  pub on_top : IsOnTop addresses value used (above ++ under)
  pub base_is : base ≡ length under

pub record CanPass (max_locals count : ℕ) (used : List ℕ) : Type 0 where
  pub addresses : List ℕ
  pub locals : List Value
  pub under : List ℕ
  pub passes : Passes max_locals count used addresses locals under

pub record CanReturn (kind : ValueKind) (base : ℕ) (used : List ℕ) : Type 0 where
  pub addresses : List ℕ
  pub value : Value
  pub under : List ℕ
  pub returns : Returns kind base used addresses value under
