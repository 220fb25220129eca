-- The references of a class's methods that don't resolve (JVMS 5.4.3).
use Rattle.std.specs.Prelude.{◌≡◌, ℕ, List, [], ◌∷◌, ◌++◌, length, Option, Some, None, slice_get}
use Rattle.jv_class_structure.specs.Parts.{CodeSeen}
use Rattle.jv_class.specs.Class.{Method}
use Rattle.jv_code.specs.Insns.{Instruction}
use Rattle.jv_code.specs.Places.{IsCode}
use Rattle.jv_meaning_world.specs.World.{Loaded, World}
use Rattle.jv_meaning_world.specs.Verdicts.{declared_by}
use Rattle.jv_meaning_typing.specs.Uses.{Site}
use Rattle.jv_meaning_typing.specs.LinkErrors.{LinkError}
use Rattle.jv_meaning_typing.specs.Environment.{offset_behind}
use Rattle.jv_links.specs.References.{link_error}

-- one of a method: the instruction, its offset in bytes, and the error that is thrown where it is run
pub record Unresolved : Type 0 where
  pub offset : ℕ
  pub insn : Instruction
  pub error : LinkError

abbrev pub if_unresolved : ℕ → Instruction → Option LinkError → List Unresolved
if_unresolved offset insn None = []
if_unresolved offset insn (Some error) = record { offset = offset; insn = insn; error = error } ∷ []

-- those of instructions, the first of which stands at an offset
abbrev pub unresolved_from : World → Site → ℕ → List Instruction → List Unresolved
unresolved_from world site offset [] = []
unresolved_from world site offset (insn ∷ more) =
    if_unresolved offset insn (link_error world site insn) ++ unresolved_from world site (offset_behind offset insn) more

-- Exactly those of a method, by offset: of all instructions of its code. A method without code has none.
abbrev pub AreInCode : World → Site → Option CodeSeen → List Unresolved → Type 0
AreInCode world site None those = those ≡ []
AreInCode world site (Some body) those =
    (insns : List Instruction) × IsCode body.code insns × (those ≡ unresolved_from world site 0 insns)

abbrev pub AreOfMethod : World → Loaded → Method → List Unresolved → Type 0
AreOfMethod world l m those = AreInCode world (declared_by l m) m.code those

-- exactly those of each method of a class, in the class's order
pub record AreUnresolved (world : World) (l : Loaded) (found : List (List Unresolved)) : Type 0 where
  pub count : length found ≡ length l.class.methods
  pub each : (number : ℕ) (m : Method) (those : List Unresolved) → slice_get l.class.methods number ≡ Some m
      → slice_get found number ≡ Some those → AreOfMethod world l m those
