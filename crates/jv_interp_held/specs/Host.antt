-- What host/Io's methods do in words (own), once they are called, each with its arguments on top.
use Rattle.std.specs.Prelude.{◌≡◌, ℕ, ℤ, List, ◌∷◌, length}
use Rattle.jv_meaning_machine.specs.Values.{Value}
use Rattle.jv_meaning_machine.specs.Values.Value.{Int}
use Rattle.jv_meaning_machine.specs.State.{Memory}
use Rattle.jv_meaning_machine.specs.Effects.{Effect as EffectOfNames, Context, Outcome}
use Rattle.jv_meaning_machine.specs.Calls.{write, read}
use Rattle.jv_interp_words.specs.declared.registers.Registers.{Registers}
use Rattle.jv_interp_heap.specs.ObjectsInBlocks.{Blocks}
use Rattle.jv_interp_heap.specs.SystemNumbers.{IsGuestsWorld}
use Rattle.jv_interp_held.specs.declared.held.Held.{Held}
use Rattle.jv_interp_held.specs.declared.effect.Effect.{Effect}
use Rattle.jv_interp_held.specs.Executing.{Place, place, Executes, HasRoom, Did}

-- The machine writes a byte of the int on top of the stack.
pub record Writing (next : ℕ) (here : Place) (texts : List (List ℕ)) (c : Context) (number : ℤ) (rest : List Value)
    (addresses : List ℕ) (done : Memory × EffectOfNames) (below : List ℕ) : Type 0 where
  pub executes : Executes (λ c. write c number rest) texts next here c addresses done below
  pub stack : c.frame.stack ≡ Int number ∷ rest

pub record CanWrite (next : ℕ) (at : Registers) (words : List ℕ) (held : Held) : Type 0 where
  pub blocks : Blocks
  pub texts : List (List ℕ)
  pub c : Context
  pub number : ℤ
  pub rest : List Value
  pub addresses : List ℕ
  pub done : Memory × EffectOfNames
  pub below : List ℕ
  pub writes : Writing next (place at words held blocks) texts c number rest addresses done below

abbrev pub Writes : ℕ → Registers → List ℕ → Held → Registers → Held → Effect → Type 0
Writes next at words held at_after held_after effect =
    (blocks : Blocks) (texts : List (List ℕ)) (c : Context) (number : ℤ) (rest : List Value) (addresses : List ℕ)
    (done : Memory × EffectOfNames) (below : List ℕ) → Writing next (place at words held blocks) texts c number rest addresses done below
    → Did texts (place at_after words held_after blocks) effect c addresses done below

-- The machine reads a byte onto the stack.
pub record Reading (next : ℕ) (here : Place) (texts : List (List ℕ)) (c : Context) (addresses : List ℕ)
    (done : Memory × EffectOfNames) (below : List ℕ) : Type 0 where
  pub executes : Executes (λ c. read c c.frame.stack c.memory.input) texts next here c addresses done below

pub record CanRead (next : ℕ) (at : Registers) (words : List ℕ) (held : Held) : Type 0 where
  pub blocks : Blocks
  pub texts : List (List ℕ)
  pub c : Context
  pub addresses : List ℕ
  pub done : Memory × EffectOfNames
  pub below : List ℕ
  pub reads : Reading next (place at words held blocks) texts c addresses done below
  pub room : HasRoom c below (length words) done

abbrev pub Reads : ℕ → Registers → List ℕ → Held → Registers → List ℕ → Held → Effect → Type 0
Reads next at words held at_after words_after held_after effect =
    (blocks : Blocks) (texts : List (List ℕ)) (c : Context) (addresses : List ℕ) (done : Memory × EffectOfNames) (below : List ℕ)
    → Reading next (place at words held blocks) texts c addresses done below
    → Did texts (place at_after words_after held_after blocks) effect c addresses done below

-- The machine runs a method with two arguments, a reference and an int above it: `className` or `arrayLike`.
pub record RunningOnTwo (part : Context → ℤ → List Value → Value → Outcome) (next : ℕ) (here : Place) (texts : List (List ℕ))
    (c : Context) (number : ℤ) (value : Value) (rest : List Value) (addresses : List ℕ) (done : Memory × EffectOfNames)
    (below : List ℕ) : Type 0 where
  pub executes : Executes (λ c. part c number rest value) texts next here c addresses done below
  pub stack : c.frame.stack ≡ Int number ∷ value ∷ rest
  pub guests : IsGuestsWorld c.program.world
