-- What stays while a guest runs (JVMS 2.5.3, 2.9; own): what was written, the objects and their shapes, and what the budget
-- comes to.
use Rattle.std.specs.Prelude.{◌≡◌, ℕ, ◌+◌, true, List, ◌++◌, length, Some, slice_get}
use Rattle.jv_meaning_world.specs.World.{World}
use Rattle.jv_meaning_machine.specs.Objects.{Object, is_constructed}
use Rattle.jv_meaning_machine.specs.State.{Memory, State}
use Rattle.jv_meaning_machine.specs.Literals.{literal_in}
use Rattle.jv_meaning_machine.specs.Laws.Shapes.{keys_in, shapes, AreOfClasses, used_cells, used_words}

-- a list begins with another one
abbrev pub BeginsWith : {A : Type 0} → List A → List A → Type 0
BeginsWith {A = A} all front = (more : List A) × (all ≡ front ++ more)

-- or ends with it
abbrev pub EndsWith : {A : Type 0} → List A → List A → Type 0
EndsWith {A = A} all end = (front : List A) × (all ≡ front ++ end)

-- an object that is constructed stays so (JVMS 2.9), with its number
abbrev pub StayConstructed : List Object → List Object → Type 0
StayConstructed before after =
    (number : ℕ) (object : Object) → slice_get before number ≡ Some object → is_constructed object ≡ true
    → (same : Object) × (slice_get after number ≡ Some same) × (is_constructed same ≡ true)

-- What stays from an earlier memory to a later one, in the world of the classes that ran.
pub record Keeps (world : World) (before after : Memory) : Type 0 where
  -- what was written is added to at its end alone
  pub output : BeginsWith after.output before.output
  -- what was written and what can still be written are the same together
  pub output_budget : length after.output + after.output_left ≡ length before.output + before.output_left
  -- no object goes, none changes its shape, and new ones stand behind the others
  pub objects : BeginsWith (shapes after) (shapes before)
  -- where all had the fields of their classes' layouts, all have them
  pub fields : AreOfClasses world (shapes before) → AreOfClasses world (shapes after)
  -- none that is constructed is not any more
  pub constructed : StayConstructed before.objects after.objects
  -- the cells of the objects and those that are left are the same together
  pub cells_budget : used_cells after + after.cells ≡ used_cells before + before.cells
  -- no static field comes or goes
  pub statics : keys_in after.statics ≡ keys_in before.statics
  -- the object of a string literal stays its object
  pub literals : (text : List ℕ) (object : ℕ) → literal_in text before.literals ≡ Some object → literal_in text after.literals ≡ Some object
  -- the input is read from its front
  pub input : EndsWith before.input after.input

-- And from an earlier state to a later one; the words of the frames and those that are left are the same together.
pub record KeepsState (world : World) (before after : State) : Type 0 where
  pub memory : Keeps world before.memory after.memory
  pub words_budget : used_words after.frames + after.control.words ≡ used_words before.frames + before.control.words
  pub main : after.control.main ≡ before.control.main

-- Each object and each static field is as it was, and new objects stand behind the others.
pub record LeavesAll (before after : Memory) : Type 0 where
  pub statics : after.statics ≡ before.statics
  pub objects : BeginsWith after.objects before.objects
