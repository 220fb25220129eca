-- The instruction at a place of a class, as text (JVMS 4.6, 4.7.3, 6.5).
use Rattle.std.specs.Prelude.{◌≡◌, ℕ, List, Option, Some, None, slice_get}
use Rattle.jv_class.specs.Class.{Class, Method}
use Rattle.jv_class_structure.specs.Parts.{CodeSeen}
use Rattle.jv_code.specs.Insns.{Instruction}
use Rattle.jv_code.specs.Places.{IsAt}
use Rattle.jv_meaning_world.specs.FileContent.{IsContent}
use Rattle.jv_meaning_world.specs.declared.content.Content.TheVariants.{Holds}
use Rattle.jv_meaning_machine.specs.State.{ThrowPlace}
use Rattle.jv_shown.specs.Instructions.{instruction_text}

-- The class has the place's name, and the instruction stands at the offset of the code of its method with this name and descriptor: of
-- these a class has one at most (4.6), and at an offset stands one instruction at most (4.9.1).
pub record StandsAt (class : Class) (p : ThrowPlace) (text : List ℕ) : Type 0 where
  pub class_name : class.name ≡ p.class
  pub number : ℕ
  pub method : Method
  pub found : slice_get class.methods number ≡ Some method
  pub name : method.name ≡ p.method
  pub descriptor : method.descriptor ≡ p.descriptor
  pub body : CodeSeen
  pub has_code : method.code ≡ Some body
  pub insn : Instruction
  pub at : IsAt body.code p.offset insn
  pub told : text ≡ instruction_text class.constant_pool p.offset insn

-- That of the class that a file with these bytes holds; none where it holds no class, or nothing stands there.
abbrev pub IsInstructionIn : (bytes : List ℕ) → ThrowPlace → Option (List ℕ) → Type 0
IsInstructionIn bytes p (Some text) = (class : Class) × IsContent bytes (Holds class) × StandsAt class p text
IsInstructionIn bytes p None = (class : Class) (text : List ℕ) → IsContent bytes (Holds class) → StandsAt class p text → ⊥
