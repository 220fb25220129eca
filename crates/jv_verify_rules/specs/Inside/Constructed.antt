-- Calls of `<init>` step by step (JVMS 4.10.1.9).
use Rattle.std.specs.Prelude.{◌≡◌, ◌≢◌, ℕ, ◌<◌, List, length, Option, Some, None, slice_get, Bool}
use Rattle.std.specs.Option.{option_map}
use Rattle.jv_format.specs.Format.{◌>>=◌}
use Rattle.jv_text.specs.Name.{is_init}
use Rattle.jv_pool.specs.Constants.{Entry, class_name_at, utf8_at}
use Rattle.jv_stackmap.specs.declared.verification.VerificationTypeOf.TheVariants as types
use Rattle.jv_stackmap.specs.Types.{FrameType}
use Rattle.jv_stackmap.specs.Frames.{Frame}
use Rattle.jv_meaning_typing.specs.Operands.{class_operand, MethodReference}
use Rattle.jv_meaning_typing.specs.Environment.{Environment, current_class}
use Rattle.jv_meaning_typing.specs.Named.{method_named_by, when, MethodUse}
use Rattle.jv_meaning_typing.specs.MemberRules.{constructed, constructed_type, is_that_name}
use Rattle.jv_verify_types.specs.Numbered.{Item}
use Rattle.jv_link.specs.Inside.References.{method_operand_in}

-- ---- what is called

-- what an index, if there is one, names as a class
abbrev pub class_by : List Entry → Option ℕ → Option (List ℕ)
class_by pool None = None
class_by pool (Some index) = class_name_at pool index

-- the least index of a text, where there is a text
abbrev pub IsFirst : List Entry → Option (List ℕ) → Option ℕ → Type 0
IsFirst pool None None = Unit {0}
IsFirst pool (Some text) (Some first) = (utf8_at pool first ≡ Some text) × ((index : ℕ) → index < first → utf8_at pool index ≢ Some text)
IsFirst pool _ _ = ⊥

-- the class that `new` names, by the index in it
abbrev pub class_made : Environment → Option ℕ → Option (List ℕ)
class_made env None = None
class_made env (Some index) = class_operand (current_class env) index

-- ---- the object

-- all copies of an object get a type, if there is one
abbrev pub constructed_as : Frame → FrameType → List FrameType → Option FrameType → Option Frame
constructed_as frame object below type = option_map (λ t. constructed frame object t below) type

abbrev pub one_word : Item → Option Item
one_word types.Long = None
one_word item = Some item

-- the item below the arguments of the `<init>` that an index, if there is one, names
abbrev pub object_below : Environment → Option ℕ → Frame → Option FrameType
object_below env None frame = None
object_below env (Some index) frame =
    method_named_by env index >>= λ method. when (is_init method.reference.name) method >>= λ method.
    slice_get frame.stack (length method.arguments)

-- the object, by its type, gets the one that the called `<init>` gives it
abbrev pub constructed_here : Environment → MethodUse → FrameType → Frame → Option Frame
constructed_here env named object frame = constructed_as frame object frame.stack (constructed_type env named object)

-- the constant at an index is that of a method of the class that another index names
abbrev pub NamesMemberOf : List Entry → ℕ → ℕ → Bool → Type 0
NamesMemberOf pool index class answer =
    (m : MethodReference) → method_operand_in pool index ≡ Some m → is_that_name m.member.class (class_name_at pool class) ≡ answer
