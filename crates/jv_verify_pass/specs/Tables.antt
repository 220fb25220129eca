-- The tables of a method's code (JVMS 4.7.3, 4.7.4), and the environments that have them.
use Rattle.std.specs.Prelude.{◌≡◌, ℕ, List, Option, Some, None, ◌↔◌, Bool, IsTrue}
use Rattle.jv_format.specs.declared.handlers.Handler.{Handler}
use Rattle.jv_stackmap.specs.declared.limits.Limits.{Limits}
use Rattle.jv_stackmap.specs.Entries.{ReadFrame, frames_placed}
use Rattle.jv_stackmap.specs.Frames.{PlacedFrame}
use Rattle.jv_code.specs.Places.{IsCode}
use Rattle.jv_meaning_typing.specs.Environment.{Environment, current_class}
use Rattle.jv_meaning_typing.specs.Typing.{AreFrames, entries_before, limits_of, catch_type, HandlersKeepRules}
use Rattle.jv_verify_types.specs.PoolTypes.{PoolTypes}
use Rattle.jv_verify_types.specs.Numbered.{Item}
use Rattle.jv_verify_types.specs.Mapped.{EntryTypes, initial_types}
use Rattle.std.specs.Option.{option_map}
use Rattle.jv_verify_types.specs.Typed.{typed}

-- what says which types entries stand for, over these constants and behind these initial local entries, the first first
abbrev pub entry_types : PoolTypes → List Item → EntryTypes
entry_types constants initial = record { constants = constants; initial = initial }

-- an environment of a class with these constants, in their world, and of a method with this code and these handlers
pub record HasHandlers (constants : PoolTypes) (code_bytes : List ℕ) (table : List Handler) (env : Environment) : Type 0 where
  pub pool : (current_class env).constant_pool ≡ constants.pool
  pub world : env.world ≡ constants.types.world
  pub code : env.code.code ≡ code_bytes
  pub handlers : env.code.exception_table ≡ table

-- an environment of a class with these constants, and of a method with these initial local entries, this code, which is a
-- list of instructions, these limits and, where it has a stack map, these contents of it
pub record HasMap (types : EntryTypes) (code_bytes : List ℕ) (within : Limits) (map_bytes : Option (List ℕ)) (env : Environment)
    : Type 0 where
  pub pool : (current_class env).constant_pool ≡ types.constants.pool
  pub initial : entries_before env ≡ initial_types types
  pub code : env.code.code ≡ code_bytes
  pub instructions : IsCode env.code.code env.instructions
  pub limits : limits_of env ≡ within
  pub bytes : env.code.stack_map_table ≡ map_bytes

-- the frames that were read are those of the stack map, each at an instruction; where none were read, it has none
abbrev pub MapsTo : EntryTypes → ℕ → Environment → Option (List ReadFrame) → Type 0
MapsTo types max_locals env (Some frames) = AreFrames env (frames_placed types.constants.pool (initial_types types) max_locals frames)
MapsTo types max_locals env None = (maps : List PlacedFrame) → AreFrames env maps → ⊥

-- the frames of a stack map, of a method with this code and these limits, or that they break a rule
abbrev pub IsMapOf : PoolTypes → List Item → List ℕ → Limits → Option (List ℕ) → Option (List ReadFrame) → Type 0
IsMapOf constants initial code within map_bytes found =
    (env : Environment) → HasMap (entry_types constants initial) code within map_bytes env
    → MapsTo (entry_types constants initial) within.max_locals env found

-- what a handler catches, in every environment of a class with these constants
abbrev pub IsCatchType : PoolTypes → ℕ → Option Item → Type 0
IsCatchType constants index type =
    (env : Environment) → (current_class env).constant_pool ≡ constants.pool
    → option_map (typed constants.types.names) type ≡ catch_type env index

abbrev pub DoHandlersKeepRules : PoolTypes → List ℕ → List Handler → Bool → Type 0
DoHandlersKeepRules constants code handlers answer =
    (env : Environment) → HasHandlers constants code handlers env → IsTrue answer ↔ HandlersKeepRules env
