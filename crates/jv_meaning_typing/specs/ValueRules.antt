-- Rules of instructions whose types depend on the frame, on a constant or on the method (JVMS 4.10.1.9), members aside.
use Rattle.std.specs.Prelude.{ℕ, ◌+◌, Bool, true, false, not, ◌&&◌, nat_lt, List, [], ◌∷◌, length, replicate, Option, Some, None, slice_get, if◌then◌else◌}
use Rattle.std.specs.List.{list_any}
use Rattle.std.specs.Option.{option_map}
use Rattle.jv_format.specs.Format.{◌>>=◌}
use Rattle.jv_text.specs.declared.descriptor.FieldTypeOf.{FieldTypeOf}
use Rattle.jv_stackmap.specs.declared.verification.VerificationTypeOf.TheVariants as types
use Rattle.jv_stackmap.specs.Types.{FrameType, value_type}
use Rattle.jv_stackmap.specs.Frames.{Frame, type_by_words}
use Rattle.jv_code.specs.declared.kinds.NumberElement.{NumberElement}
use Rattle.jv_code.specs.declared.kinds.StackForm.{StackForm}
use Rattle.jv_code.specs.declared.kinds.ValueKind.{ValueKind}
use Rattle.jv_code.specs.declared.kinds.ValueKind.TheVariants as kinds
use Rattle.jv_code.specs.declared.kinds.WordKind.{WordKind}
use Rattle.jv_code.specs.declared.kinds.WordKind.TheVariants as word_kinds
use Rattle.jv_meaning_world.specs.World.{World}
use Rattle.jv_meaning_typing.specs.Environment.{Environment}
use Rattle.jv_meaning_typing.specs.StackForms.{rearranged}
use Rattle.jv_meaning_typing.specs.FrameChanges.{with_stack, with_locals, is_reference, is_of_kind, taken, taken_as_any, taken_of_kind, exchanged, item_width, stored, is_same_object, replaced}
use Rattle.jv_meaning_typing.specs.Named.{object_class_type, constant_type, long_constant_type, operand_type, operand_name, array_of_operand, array_operand, when}
use Rattle.jv_meaning_typing.specs.NumberRules.{number_arrays, element_number}

abbrev pub pushed : Frame → FrameType → Frame
pushed frame type = with_stack frame (type ∷ frame.stack)

-- ---- constants of the pool

abbrev pub push_constant : Environment → ℕ → Frame → Option Frame
push_constant env index frame = option_map (pushed frame) (constant_type env index)

abbrev pub push_long_constant : Environment → ℕ → Frame → Option Frame
push_long_constant env index frame = option_map (pushed frame) (long_constant_type env index)

-- ---- local variables: the index is below max_locals, and for a long so is the next one

abbrev pub has_room : ValueKind → ℕ → List FrameType → Bool
has_room kinds.Long index locals = nat_lt (index + 1) (length locals)
has_room _ index locals = true

abbrev pub load : ValueKind → ℕ → Frame → Option Frame
load kind index frame =
    slice_get frame.locals index >>= λ type. when (is_of_kind kind type && has_room kind index frame.locals) (pushed frame type)

abbrev pub value_kind : WordKind → ValueKind
value_kind word_kinds.Int = kinds.Int
value_kind word_kinds.Reference = kinds.Reference

-- what is popped fills the local, a long this one and the next
abbrev pub store : ValueKind → ℕ → Frame → Option Frame
store kind index frame =
    taken_of_kind kind frame.stack >>= λ popped. stored (type_by_words popped.0) index frame.locals >>= λ locals.
    Some (with_locals (with_stack frame popped.1) locals)

abbrev pub increment : ℕ → Frame → Option Frame
increment index frame = slice_get frame.locals index >>= λ type. when (is_of_kind kinds.Int type) frame

-- ---- arrays

abbrev pub array_load : World → NumberElement → Frame → Option Frame
array_load world element frame =
    taken world (types.Int ∷ []) frame.stack >>= taken_as_any world (number_arrays element) >>= λ below.
    Some (with_stack frame (element_number element ∷ below))

abbrev pub array_store : World → NumberElement → Frame → Option Frame
array_store world element frame =
    taken world (types.Int ∷ element_number element ∷ []) frame.stack >>= taken_as_any world (number_arrays element) >>= λ below.
    Some (with_stack frame below)

-- the type of what an array of references holds; null for null, which may be any array
abbrev pub reference_component : FrameType → Option FrameType
reference_component types.Null = Some types.Null
reference_component (types.Array components) = when (is_reference (value_type components)) (value_type components)
reference_component _ = None

abbrev pub with_component : Frame → List FrameType → Option Frame
with_component frame [] = None
with_component frame (array ∷ below) = option_map (λ type. with_stack frame (type ∷ below)) (reference_component array)

abbrev pub reference_array_load : World → Frame → Option Frame
reference_array_load world frame = taken world (types.Int ∷ []) frame.stack >>= with_component frame

abbrev pub is_array_or_null : FrameType → Bool
is_array_or_null types.Null = true
is_array_or_null (types.Array components) = true
is_array_or_null _ = false

abbrev pub array_length : List FrameType → Option (List FrameType)
array_length [] = None
array_length (array ∷ below) = when (is_array_or_null array) (types.Int ∷ below)

abbrev pub new_reference_array : Environment → ℕ → Frame → Option Frame
new_reference_array env index frame =
    array_of_operand env index >>= λ array. exchanged env.world (types.Int ∷ []) (array ∷ []) frame

-- an int for each of so many dimensions
abbrev pub new_multi_array : Environment → ℕ → ℕ → Frame → Option Frame
new_multi_array env index dimensions frame =
    array_operand env index dimensions >>= λ array. exchanged env.world (replicate dimensions types.Int) (array ∷ []) frame

-- ---- forms of the stack, and branches on references

abbrev pub move_words : StackForm → Frame → Option Frame
move_words form frame = option_map (with_stack frame) (rearranged item_width form frame.stack)

abbrev pub take_reference : Frame → Option Frame
take_reference frame = taken_of_kind kinds.Reference frame.stack >>= λ popped. Some (with_stack frame popped.1)

-- ---- objects

-- what `new` at this offset makes is not on the stack yet; copies of an earlier one in local variables cannot be used any more
abbrev pub new_object : Environment → ℕ → ℕ → Frame → Option Frame
new_object env pc index frame =
    operand_name env index >>= λ name. when (not (list_any (is_same_object (types.Uninitialized pc)) frame.stack))
    (pushed (with_locals frame (replaced (types.Uninitialized pc) types.Top frame.locals)) (types.Uninitialized pc))

-- any class or array is cast to the type that is named
abbrev pub check_cast : Environment → ℕ → Frame → Option Frame
check_cast env index frame = operand_type env index >>= λ type. exchanged env.world (object_class_type ∷ []) (type ∷ []) frame

abbrev pub instance_of : Environment → ℕ → Frame → Option Frame
instance_of env index frame = operand_type env index >>= λ type. exchanged env.world (object_class_type ∷ []) (types.Int ∷ []) frame

-- ---- returns

-- a value is returned by the instruction for its kind, and flows to the type of the result
abbrev pub return_value : Environment → ValueKind → Option (FieldTypeOf (List ℕ)) → Frame → Option Frame
return_value env kind None frame = None
return_value env kind (Some result) frame =
    if is_of_kind kind (value_type result) then exchanged env.world (value_type result ∷ []) [] frame else None

-- no value is returned, and an object that its constructor was given is initialized (own: in every method)
abbrev pub return_nothing : Option (FieldTypeOf (List ℕ)) → Frame → Option Frame
return_nothing None frame = when (not frame.flag_this_uninit) frame
return_nothing (Some result) frame = None
