-- What `new` at an offset does, where it names a class.
use Rattle.std.specs.Prelude.{ℕ, not, Option, List, ◌∷◌, [], codes, None, if◌then◌else◌}
use Rattle.std.specs.List.{list_any}
use Rattle.jv_format.specs.Format.{◌>>=◌}
use Rattle.jv_stackmap.specs.declared.verification.VerificationTypeOf.TheVariants as types
use Rattle.jv_stackmap.specs.Frames.{Frame}
use Rattle.jv_meaning_typing.specs.FrameChanges.{with_locals, is_same_object, replaced, is_of_kind, exchanged}
use Rattle.jv_meaning_typing.specs.Named.{when, array_with, class_components, object_class_type}
use Rattle.jv_meaning_typing.specs.ValueRules.{pushed, take_reference}
use Rattle.jv_stackmap.specs.Types.{FrameType}
use Rattle.jv_meaning_world.specs.World.{World}
use Rattle.jv_code.specs.declared.kinds.ValueKind.{ValueKind}

abbrev pub new_object : ℕ → Frame → Option Frame
new_object pc frame =
    when (not (list_any (is_same_object (types.Uninitialized pc)) frame.stack))
    (pushed (with_locals frame (replaced (types.Uninitialized pc) types.Top frame.locals)) (types.Uninitialized pc))

-- two references, of a branch that compares them
abbrev pub take_references : Frame → Option Frame
take_references frame = take_reference frame >>= take_reference

-- what aastore takes, the value on top
abbrev pub stored_reference : List FrameType
stored_reference = array_with (class_components (codes "java/lang/Object")) ∷ types.Int ∷ object_class_type ∷ []

-- a result of the method's type is taken, where the instruction is one for its kind
abbrev pub return_of : World → ValueKind → FrameType → Frame → Option Frame
return_of world kind type frame = if is_of_kind kind type then exchanged world (type ∷ []) [] frame else None
