-- Rules of instructions that name fields and methods, over the types that they name (JVMS 4.10.1.9).
use Rattle.std.specs.Prelude.{Bool, List, [], ◌∷◌, ◌++◌, Option, Some}
use Rattle.jv_format.specs.Format.{◌>>=◌}
use Rattle.jv_stackmap.specs.declared.verification.VerificationTypeOf.TheVariants as types
use Rattle.jv_stackmap.specs.Types.{FrameType}
use Rattle.jv_stackmap.specs.Frames.{Frame}
use Rattle.jv_code.specs.declared.kinds.FieldAccess.{FieldAccess}
use Rattle.jv_code.specs.declared.kinds.FieldAccess.TheVariants as access
use Rattle.jv_meaning_world.specs.World.{World}
use Rattle.jv_meaning_typing.specs.FrameChanges.{with_stack, taken, taken_as_all, exchanged}
use Rattle.jv_meaning_typing.specs.Named.{when}

-- an object that flows to each of these types is taken, and a value given
abbrev pub got : World → List FrameType → FrameType → Frame → Option Frame
got world receiver value frame =
    taken_as_all world receiver frame.stack >>= λ below. Some (with_stack frame (value ∷ below))

-- such an object, or one under construction where that may be set
abbrev pub taken_to_store : World → Bool → List FrameType → List FrameType → Option (List FrameType)
taken_to_store world sets_own receiver (types.UninitializedThis ∷ below) = when sets_own below
taken_to_store world sets_own receiver stack = taken_as_all world receiver stack

-- a value is taken, and such an object
abbrev pub put : World → Bool → List FrameType → FrameType → Frame → Option Frame
put world sets_own receiver value frame =
    taken world (value ∷ []) frame.stack >>= taken_to_store world sets_own receiver >>= λ below. Some (with_stack frame below)

abbrev pub accessed : World → FieldAccess → Bool → List FrameType → FrameType → Frame → Option Frame
accessed world access.GetStatic sets_own receiver value frame = exchanged world [] (value ∷ []) frame
accessed world access.PutStatic sets_own receiver value frame = exchanged world (value ∷ []) [] frame
accessed world access.GetField sets_own receiver value frame = got world receiver value frame
accessed world access.PutField sets_own receiver value frame = put world sets_own receiver value frame

-- the arguments are taken, and below them an object that flows to each of these types; the result is given
abbrev pub called : World → List FrameType → List FrameType → List FrameType → Frame → Option Frame
called world arguments receiver result frame =
    taken world arguments frame.stack >>= taken_as_all world receiver >>= λ below. Some (with_stack frame (result ++ below))
