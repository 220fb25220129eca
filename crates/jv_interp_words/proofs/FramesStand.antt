-- How many words a frame has, and a frame with a value more on its stack.
use Rattle.std.proofs.Common.{◌≡◌, ℕ, ◌+◌, ◌≤◌, List, [], ◌∷◌, ◌++◌, Ok, length, reverse, ap, subst, ◌∙◌, arith, length-append}
use Rattle.std.proofs.lemmas.List.{length-reverse}
use Rattle.std.proofs.lemmas.List.Sums.{sum_by-cons}
use Rattle.jv_meaning_machine.specs.Faults.{OrFault}
use Rattle.jv_meaning_machine.specs.Values.{Value, value_words, words_of_values}
use Rattle.jv_meaning_machine.specs.State.{Memory}
use Rattle.jv_meaning_machine.specs.Effects.{Effect, Context}
use Rattle.jv_meaning_machine.specs.Effects.Effect.{Goes}
use Rattle.jv_interp_words.specs.ValuesInWords.{IsOnTop, AreOnTop}
use Rattle.jv_interp_words.specs.FramesInWords.{FrameStands}
use Rattle.jv_interp_words.proofs.Computed.{on_top_length}
use Rattle.jv_interp_words.proofs.Stored.{same_length}
use Rattle.jv_interp_words.specs.Going.{HasRoom}

pub same_done : (a b : Memory × Effect) (o : OrFault (Memory × Effect)) → o ≡ Ok a → o ≡ Ok b → b ≡ a
same_done a b o e f = cc

pub stack_length :
    (addresses : List ℕ) (stack : List Value) (words below : List ℕ) → AreOnTop addresses stack words below
    → length words ≡ words_of_values stack + length below
stack_length addresses [] words below h = ap length h ∙ omega arith
stack_length addresses (value ∷ stack) words below h =
    on_top_length addresses value words h.0 h.1
    ∙ ap (λ (n : ℕ). value_words value + n) (stack_length addresses stack h.0 below h.2)
    ∙ omega (arith, sum_by-cons value_words value stack)

pub frame_length :
    (addresses : List ℕ) (locals stack : List Value) (used below : List ℕ) → FrameStands addresses locals stack used below
    → length used ≡ words_of_values stack + length locals + length below
frame_length addresses locals stack used below h =
    omega (
      arith,
      stack_length addresses stack used (reverse h.words ++ below) h.stack_stands,
      length-append (reverse h.words) below,
      length-reverse h.words,
      same_length addresses locals h.words h.locals_stand,
    )

-- a value more on the stack
pub pushed :
    (addresses : List ℕ) (locals stack : List Value) (value : Value) (after used below : List ℕ) → FrameStands addresses locals stack used below
    → IsOnTop addresses value after used → FrameStands addresses locals (value ∷ stack) after below
pushed addresses locals stack value after used below h k =
    record { words = h.words; stack_stands = (used, k, h.stack_stands); locals_stand = h.locals_stand }

-- and there is room for it
pub room_for :
    (c : Context) (addresses : List ℕ) (stack : List Value) (value : Value) (used below : List ℕ) (size : ℕ) (memory : Memory) (offset : ℕ)
    (done : Memory × Effect) → FrameStands addresses c.frame.locals stack used below
    → done ≡ (memory, Goes offset c.frame.locals (value ∷ stack)) → HasRoom c below size done → length used + value_words value ≤ size
room_for c addresses stack value used below size memory offset done h e room =
    let here : length below + length c.frame.locals + words_of_values (value ∷ stack) ≤ size =
    subst (λ (d : Memory × Effect). HasRoom c below size d) e room in
    omega (arith, here, frame_length addresses c.frame.locals stack used below h, sum_by-cons value_words value stack)
