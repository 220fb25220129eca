-- The frame with which a method begins (JVMS 4.10.1.6).
use Rattle.std.specs.Prelude.{ℕ, Bool, not, ◌&&◌, List, [], ◌∷◌, ◌++◌, map, codes, if◌then◌else◌}
use Rattle.std.specs.Str.{bytes_eq}
use Rattle.jv_text.specs.declared.descriptor.FieldTypeOf.{FieldTypeOf}
use Rattle.jv_stackmap.specs.declared.verification.VerificationTypeOf.TheVariants as types
use Rattle.jv_stackmap.specs.Types.{FrameType, value_type}
use Rattle.jv_stackmap.specs.Frames.{Frame, by_words}

-- the receiver of `<init>` is uninitializedThis, but in java/lang/Object a plain class; that of other methods is the class
abbrev pub receiver_type : List ℕ → Bool → FrameType
receiver_type class_name is_init =
    if is_init && not (bytes_eq class_name (codes "java/lang/Object")) then types.UninitializedThis else types.Class class_name

abbrev pub receiver_entries : List ℕ → Bool → Bool → List FrameType
receiver_entries class_name is_static is_init = if is_static then [] else receiver_type class_name is_init ∷ []

-- The initial local entries of a method of a class, the first first, without the filling tops: the receiver, where the
-- method isn't static, and the parameters.
abbrev pub initial_entries : List ℕ → Bool → Bool → List (FieldTypeOf (List ℕ)) → List FrameType
initial_entries class_name is_static is_init parameters = receiver_entries class_name is_static is_init ++ map value_type parameters

-- The initial frame: these local entries and then top, an empty stack, and the flag exactly where the receiver is
-- uninitializedThis.
abbrev pub initial_frame : ℕ → List ℕ → Bool → Bool → List (FieldTypeOf (List ℕ)) → Frame
initial_frame max_locals class_name is_static is_init parameters =
    by_words max_locals (initial_entries class_name is_static is_init parameters) []
