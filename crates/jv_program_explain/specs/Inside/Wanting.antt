-- What an instruction wants of the frame before it that isn't there, found by the file of its class.
use Rattle.std.specs.Prelude.{◌≡◌, ℕ, List, Option, Some, slice_get}
use Rattle.jv_pool.specs.Constants.{utf8_at}
use Rattle.jv_class_structure.specs.Parts.{MethodSeen}
use Rattle.jv_class_structure.specs.Structure.{ClassStructure}
use Rattle.jv_class.specs.Class.{Method}
use Rattle.jv_stackmap.specs.Frames.{Frame}
use Rattle.jv_meaning_world.specs.World.{Loaded, World}
use Rattle.jv_meaning_world.specs.Verdicts.{declared_by}
use Rattle.jv_meaning_typing.specs.Environment.{Environment, IsEnvironment, current_class}
use Rattle.jv_meaning_typing.specs.declared.verdict.VerifyFault.{VerifyFault}
use Rattle.jv_operands.specs.Unmet.{Unmet}
use Rattle.jv_program_explain.specs.Frames.{unmet_want_at}

-- an environment of a method that the file of a class shows so
pub record IsEnvironmentOf (file : ClassStructure) (class : List ℕ) (shown : MethodSeen) (env : Environment) : Type 0 where
  pub is : IsEnvironment env
  pub pool : (current_class env).constant_pool ≡ file.constant_pool
  pub class_is : (current_class env).name ≡ class
  pub name : utf8_at file.constant_pool shown.name_index ≡ Some env.site.method.name
  pub descriptor : utf8_at file.constant_pool shown.descriptor_index ≡ Some env.site.method.descriptor

-- this is what the instruction at which a method breaks a rule wants first that the frame before it doesn't meet
abbrev pub IsUnmetWantOf : World → Loaded → VerifyFault → (before : Option Frame) → Option Unmet → Type 0
IsUnmetWantOf world l fault before want =
    (m : Method) → slice_get l.class.methods fault.method ≡ Some m
    → (env : Environment) → env.world ≡ world → env.site ≡ declared_by l m → IsEnvironment env
    → unmet_want_at env fault.offset before ≡ want
