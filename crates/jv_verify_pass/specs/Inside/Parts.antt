-- Parts of the rules on a method's tables.
use Rattle.std.specs.Prelude.{◌≡◌, ◌<◌, ℕ, Bool, true, ◌&&◌, List, Option, Some, None, is_some, slice_get}
use Rattle.std.specs.List.{list_all}
use Rattle.jv_stackmap.specs.declared.entry.FrameEntry.{FrameEntry}
use Rattle.jv_stackmap.specs.declared.entry.FrameEntry.TheVariants as entries
use Rattle.jv_stackmap.specs.declared.limits.Limits.{Limits}
use Rattle.jv_stackmap.specs.Entries.{ReadFrame, SharesBelow, frames_placed}
use Rattle.jv_stackmap.specs.Frames.{PlacedFrame, Maps}
use Rattle.jv_code.specs.Places.{IsCode}
use Rattle.jv_meaning_typing.specs.Environment.{Environment, current_class, instruction_at}
use Rattle.jv_meaning_typing.specs.Typing.{is_new, catches_throwable}
use Rattle.jv_verify_types.specs.PoolTypes.{PoolTypes}
use Rattle.jv_verify_types.specs.Mapped.{EntryTypes, initial_types}
use Rattle.jv_format.specs.declared.handlers.Handler.{Handler}

-- an environment of a class with these constants, in their world
pub record HasConstants (constants : PoolTypes) (env : Environment) : Type 0 where
  pub pool : (current_class env).constant_pool ≡ constants.pool
  pub world : env.world ≡ constants.types.world

-- an environment of a method with this code, which is a list of instructions
pub record HasCode (bytes : List ℕ) (env : Environment) : Type 0 where
  pub code : env.code.code ≡ bytes
  pub instructions : IsCode env.code.code env.instructions

-- what an entry stands for was made by a `new`, where it says which; no initial local entry does
abbrev pub is_made_by_new : Environment → FrameEntry → Bool
is_made_by_new env (entries.Uninitialized offset) = is_new (instruction_at env offset)
is_made_by_new env _ = true

abbrev pub frame_stands : Environment → ReadFrame → Bool
frame_stands env f =
    is_some (instruction_at env f.offset) && (list_all (is_made_by_new env) f.locals && list_all (is_made_by_new env) f.stack)

-- the frame at a place has, below so many of its last local entries, those that one before it has below some
abbrev pub SharesBelowBefore : List ReadFrame → ℕ → ℕ → Type 0
SharesBelowBefore frames place count =
    (before : ℕ) × (above : ℕ) × (before < place) × SharesBelow (count, above) (slice_get frames place) (slice_get frames before)

-- the bytes spell these frames, or none
abbrev pub IsSpelled : EntryTypes → Limits → List ℕ → Option (List ReadFrame) → Type 0
IsSpelled types limits bytes (Some frames) =
    Maps types.constants.pool limits (initial_types types) bytes
    (frames_placed types.constants.pool (initial_types types) limits.max_locals frames)
IsSpelled types limits bytes None = (frames : List PlacedFrame) → Maps types.constants.pool limits (initial_types types) bytes frames → ⊥

-- each handler catches a Throwable, in every environment of a class with these constants
abbrev pub CatchThrowables : PoolTypes → List Handler → Bool → Type 0
CatchThrowables constants handlers answer =
    (env : Environment) → HasConstants constants env → answer ≡ list_all (catches_throwable env) handlers
