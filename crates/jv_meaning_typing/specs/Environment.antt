-- What is known while a method is type checked (JVMS 4.10.1.6): the classes that the guest can name, the method and its
-- class, what its descriptor says, its code as instructions, and where each of these starts.
use Rattle.std.specs.Prelude.{◌≡◌, ℕ, ◌+◌, ◌==◌, List, [], ◌∷◌, length, Option, Some, None, if◌then◌else◌}
use Rattle.jv_text.specs.Descriptor.{MethodDescriptor}
use Rattle.jv_text.specs.Types.{method_type_of}
use Rattle.jv_class_structure.specs.Parts.{CodeSeen}
use Rattle.jv_class.specs.Class.{Class}
use Rattle.jv_code.specs.Insns.{Instruction, insn_bytes}
use Rattle.jv_code.specs.Places.{IsCode}
use Rattle.jv_meaning_world.specs.World.{World}
use Rattle.jv_meaning_typing.specs.Uses.{Site}

pub record Environment : Type 0 where
  pub world : World
  -- the method, with its class, the current class
  pub site : Site
  -- the types of its parameters, without the receiver, and of its result
  pub descriptor : MethodDescriptor
  -- its code with the limits, the handlers and the stack map
  pub code : CodeSeen
  pub instructions : List Instruction

-- a method has code, and these are its instructions
pub record IsEnvironment (env : Environment) : Type 0 where
  pub descriptor : method_type_of env.site.method.descriptor ≡ Some env.descriptor
  pub code : env.site.method.code ≡ Some env.code
  pub instructions : IsCode env.code.code env.instructions

abbrev pub current_class : Environment → Class
current_class env = env.site.by.class

-- ---- where instructions start: at the sum of the lengths before them

abbrev pub offset_behind : ℕ → Instruction → ℕ
offset_behind pc insn = pc + length (insn_bytes insn)

-- the instruction that starts at an offset, where the first of these starts at another
abbrev pub instruction_from : ℕ → List Instruction → ℕ → Option Instruction
instruction_from start [] pc = None
instruction_from start (insn ∷ more) pc =
    if start == pc then Some insn else instruction_from (offset_behind start insn) more pc

abbrev pub instruction_at : Environment → ℕ → Option Instruction
instruction_at env pc = instruction_from 0 env.instructions pc
