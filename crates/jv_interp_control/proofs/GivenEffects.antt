-- The machine's effect by the one that stands for it.
use Rattle.std.proofs.Common.{◌≡◌, ℕ, List, ◌∷◌, Option, Some, Ok, refl, slice_get}
use Rattle.jv_meaning_world.specs.World.{Loaded, World}
use Rattle.jv_meaning_world.specs.Overriding.{Declared}
use Rattle.jv_meaning_machine.specs.Values.{Value}
use Rattle.jv_meaning_machine.specs.Frames.{MethodFrame, Frame}
use Rattle.jv_meaning_machine.specs.State.{Program, Memory, Control as ControlOfNames, State, state_of}
use Rattle.jv_meaning_machine.specs.Effects.{Effect as EffectOfNames}
use Rattle.jv_meaning_machine.specs.Effects.Effect.{Goes, Enters, Constructs, Leaves, Throws, Raises, Begins}
use Rattle.jv_meaning_machine.specs.Fields.{with_object}
use Rattle.jv_meaning_machine.specs.Entering.{passed_values, entered_on}
use Rattle.jv_meaning_machine.specs.Step.{waiting, act}
use Rattle.jv_interp_words.specs.declared.registers.Registers.{Registers}
use Rattle.jv_interp_heap.specs.ObjectsInBlocks.{Blocks, HasNumber}
use Rattle.jv_interp_held.specs.declared.effect.Effect.TheVariants as effects
use Rattle.jv_interp_held.specs.declared.held.Held.{Held}
use Rattle.jv_interp_held.specs.EffectsInWords.{Stays, GoesOnAt, EntersWith, LeavesWith, OutcomeStands}
use Rattle.jv_interp_held.specs.HeldInWords.{MemoryStands}
use Rattle.jv_interp_control.specs.Moves.{entering}
use Rattle.jv_interp_control.proofs.Noted.{noted_stands}

module _ (world : World) (addresses : List ℕ) (frame : MethodFrame) (memory : Memory) (at : Registers) (used below : List ℕ) where
  pub goes_given :
      (e : EffectOfNames) → OutcomeStands world addresses frame (memory, e) effects.Goes at used below
      → (offset : ℕ) × (locals : List Value) × (stack : List Value) × (e ≡ Goes offset locals stack)
      × GoesOnAt addresses frame offset locals stack at used below
  goes_given (Goes offset locals stack) h = (offset, locals, stack, refl, h)
  goes_given (Enters d receiver arguments stack) h = absurd h
  goes_given (Constructs d object instance arguments stack) h = absurd h.1
  goes_given (Leaves result) h = absurd h
  goes_given (Throws object) h = absurd h
  goes_given (Raises class) h = absurd h
  goes_given (Begins l) h = absurd h

  pub leaves_given :
      (e : EffectOfNames) (words : ℕ) → OutcomeStands world addresses frame (memory, e) (effects.Leaves words) at used below
      → (result : List Value) × (e ≡ Leaves result) × LeavesWith addresses result words used below
  leaves_given (Goes offset locals stack) words h = absurd h
  leaves_given (Enters d receiver arguments stack) words h = absurd h
  leaves_given (Constructs d object instance arguments stack) words h = absurd h.1
  leaves_given (Leaves result) words h = (result, refl, h)
  leaves_given (Throws object) words h = absurd h
  leaves_given (Raises class) words h = absurd h
  leaves_given (Begins l) words h = absurd h

  pub throws_given :
      (e : EffectOfNames) (address : ℕ) → OutcomeStands world addresses frame (memory, e) (effects.Throws address) at used below
      → (object : ℕ) × (e ≡ Throws object) × (slice_get addresses object ≡ Some address) × Stays addresses frame at used below
  throws_given (Goes offset locals stack) address h = absurd h
  throws_given (Enters d receiver arguments stack) address h = absurd h
  throws_given (Constructs d object instance arguments stack) address h = absurd h.1
  throws_given (Leaves result) address h = absurd h
  throws_given (Throws object) address h = (object, refl, h.0, h.1)
  throws_given (Raises class) address h = absurd h
  throws_given (Begins l) address h = absurd h

  pub raises_given :
      (e : EffectOfNames) (number : ℕ) → OutcomeStands world addresses frame (memory, e) (effects.Raises number) at used below
      → (class : List ℕ) × (e ≡ Raises class) × HasNumber world class number × Stays addresses frame at used below
  raises_given (Goes offset locals stack) number h = absurd h
  raises_given (Enters d receiver arguments stack) number h = absurd h
  raises_given (Constructs d object instance arguments stack) number h = absurd h.1
  raises_given (Leaves result) number h = absurd h
  raises_given (Throws object) number h = absurd h
  raises_given (Raises class) number h = (class, refl, h.0, h.1)
  raises_given (Begins l) number h = absurd h

  pub begins_given :
      (e : EffectOfNames) (number : ℕ) → OutcomeStands world addresses frame (memory, e) (effects.Begins number) at used below
      → (l : Loaded) × (e ≡ Begins l) × (slice_get world number ≡ Some l) × Stays addresses frame at used below
  begins_given (Goes offset locals stack) number h = absurd h
  begins_given (Enters d receiver arguments stack) number h = absurd h
  begins_given (Constructs d object instance arguments stack) number h = absurd h.1
  begins_given (Leaves result) number h = absurd h
  begins_given (Throws object) number h = absurd h
  begins_given (Raises class) number h = absurd h
  begins_given (Begins l) number h = (l, refl, h.0, h.1)

-- ---- a method that is entered, `<init>` or not

pub record EntersNow (program : Program) (addresses : List ℕ) (frame : MethodFrame) (others : List Frame) (control : ControlOfNames) (memory : Memory)
    (t : State) (number words : ℕ) (at : Registers) (used below : List ℕ) : Type 0 where
  pub d : Declared
  pub receiver : Option ℕ
  pub arguments : List Value
  pub stack : List Value
  pub enters : EntersWith program.world addresses frame d (passed_values receiver arguments) stack number words at used below
  pub noted : Memory
  pub same_words :
      (texts : List (List ℕ)) (held : Held) (blocks : Blocks) → MemoryStands program.world texts memory addresses held blocks
      → MemoryStands program.world texts noted addresses held blocks
  pub does : entering program (state_of memory (waiting frame stack ∷ others) control) d receiver arguments noted ≡ Ok t

pub enters_given :
    (program : Program) (addresses : List ℕ) (frame : MethodFrame) (others : List Frame) (control : ControlOfNames) (memory : Memory) (t : State) (number words : ℕ) (at : Registers)
    (used below : List ℕ) (e : EffectOfNames) → OutcomeStands program.world addresses frame (memory, e) (effects.Enters number words) at used below
    → act program frame others control (memory, e) ≡ Ok t
    → EntersNow program addresses frame others control memory t number words at used below
enters_given program addresses frame others control memory t number words at used below (Goes offset locals stack) h does = absurd h
enters_given program addresses frame others control memory t number words at used below (Enters d receiver arguments stack) h does = record {
  d = d;
  receiver = receiver;
  arguments = arguments;
  stack = stack;
  enters = h;
  noted = memory;
  same_words = λ texts held blocks m. m;
  does = does;
}
enters_given program addresses frame others control memory t number words at used below (Constructs d object instance arguments stack) h does = record {
  d = d;
  receiver = Some object;
  arguments = arguments;
  stack = stack;
  enters = h.1;
  noted = with_object object (entered_on d instance) memory;
  same_words = λ texts held blocks m. noted_stands program.world texts memory addresses held blocks d object instance h.0 m;
  does = does;
}
enters_given program addresses frame others control memory t number words at used below (Leaves result) h does = absurd h
enters_given program addresses frame others control memory t number words at used below (Throws object) h does = absurd h
enters_given program addresses frame others control memory t number words at used below (Raises class) h does = absurd h
enters_given program addresses frame others control memory t number words at used below (Begins l) h does = absurd h
