-- The code of a method that stands in a frame, by the method's number.
use Rattle.std.specs.Prelude.{◌≡◌, ℕ, Some, slice_get}
use Rattle.jv_class_structure.specs.Parts.{CodeSeen}
use Rattle.jv_meaning_world.specs.Overriding.{Declared}
use Rattle.jv_meaning_machine.specs.State.{Program}
use Rattle.jv_interp_words.specs.FramesInWords.{methods_of}
use Rattle.jv_interp_members.specs.declared.methods.Methods.{Methods}
use Rattle.jv_interp_members.specs.Methods.{AreMethods}

-- the method with a number can be entered, and this is its code
pub record IsCodeOf (methods : Methods) (number : ℕ) (program : Program) (d : Declared) (code : CodeSeen) : Type 0 where
  pub are : AreMethods program.world methods
  pub at : slice_get (methods_of program.world) number ≡ Some d
  pub has_code : d.method.code ≡ Some code

pub record CanFind (methods : Methods) (number : ℕ) : Type 0 where
  pub program : Program
  pub d : Declared
  pub code : CodeSeen
  pub is : IsCodeOf methods number program d code
