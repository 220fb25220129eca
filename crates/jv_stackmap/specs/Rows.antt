-- Worked rows: initial frames, and what frames come to, computed.
use Rattle.std.specs.Prelude.{◌≡◌, ℕ, true, false, List, [], ◌∷◌, Option, Some, None, codes}
use Rattle.jv_text.specs.declared.descriptor.Base.TheVariants as bases
use Rattle.jv_text.specs.declared.descriptor.Element.{Element}
use Rattle.jv_text.specs.declared.descriptor.Element.TheVariants as elements
use Rattle.jv_text.specs.declared.descriptor.FieldTypeOf.{FieldTypeOf}
use Rattle.jv_stackmap.specs.declared.item.Item.TheVariants as items
use Rattle.jv_stackmap.specs.declared.form.Form.TheVariants.{Same, SameItem, SameItemExtended, Chop, SameExtended, Append, Full}
use Rattle.jv_stackmap.specs.declared.limits.Limits.{Limits}
use Rattle.jv_stackmap.specs.declared.verification.VerificationTypeOf.TheVariants as types
use Rattle.jv_stackmap.specs.Bytes.{MapForm, stack_map_bytes}
use Rattle.jv_stackmap.specs.Types.{FrameType, reference_type}
use Rattle.jv_stackmap.specs.Frames.{MapFrame, map_frame, frames_behind, is_within, type_of, by_words}
use Rattle.jv_stackmap.specs.Initial.{initial_entries, initial_frame}

abbrev pub field_type : ℕ → Element (List ℕ) → FieldTypeOf (List ℕ)
field_type dimensions element = record { dimensions = dimensions; element = element }

abbrev pub array : ℕ → Element (List ℕ) → FrameType
array dimensions element = types.Array (field_type dimensions element)

-- (BJ[ILA;)V
abbrev pub parameters : List (FieldTypeOf (List ℕ))
parameters =
    field_type 0 (elements.Base bases.Byte) ∷ field_type 0 (elements.Base bases.Long) ∷ field_type 1 (elements.Base bases.Int)
    ∷ field_type 0 (elements.Class (codes "A")) ∷ []

abbrev pub typed_parameters : List FrameType
typed_parameters = types.Int ∷ types.Long ∷ array 0 (elements.Base bases.Int) ∷ types.Class (codes "A") ∷ []

abbrev pub object_name : List ℕ
object_name = codes "java/lang/Object"

abbrev pub limits : Limits
limits = record { max_locals = 4; max_stack = 2 }

-- the frames of forms behind a class, a long and an int, in a pool without constants
abbrev pub frames_of : List MapForm → Option (List (MapFrame FrameType))
frames_of forms = frames_behind (type_of []) (is_within limits) 0 (types.Int ∷ types.Long ∷ types.Class (codes "A") ∷ []) forms

-- one frame of each form
abbrev pub forms : List MapForm
forms =
    Same 5 ∷ SameItem 3 items.Integer ∷ SameItemExtended 300 (items.Object 7) ∷ Chop 2 1 ∷ SameExtended 64 ∷ Append 1 (items.Long ∷ [])
    ∷ Full 2 (items.Top ∷ []) (items.Null ∷ []) ∷ []

pub record WorkedRows : Type 0 where
  -- the bytes of a map: its count, and each frame
  pub bytes : stack_map_bytes forms
      ≡ 0 ∷ 7 ∷ 5 ∷ 67 ∷ 1 ∷ 247 ∷ 1 ∷ 44 ∷ 7 ∷ 0 ∷ 7 ∷ 249 ∷ 0 ∷ 1 ∷ 251 ∷ 0 ∷ 64 ∷ 252 ∷ 0 ∷ 1 ∷ 4 ∷ 255 ∷ 0 ∷ 2 ∷ 0 ∷ 1 ∷ 0 ∷ 0 ∷ 1 ∷ 5
      ∷ []
  -- what Class constants name
  pub names_class : reference_type (codes "A") ≡ Some (types.Class (codes "A"))
  pub names_array : reference_type (codes "[[J") ≡ Some (array 1 (elements.Base bases.Long))
  pub names_objects : reference_type (codes "[LA;") ≡ Some (array 0 (elements.Class (codes "A")))
  pub names_none : reference_type (codes "[A") ≡ None
  -- the receiver and the parameters
  pub static : initial_entries (codes "C") true false parameters ≡ typed_parameters
  pub of_class : initial_entries (codes "C") false false [] ≡ types.Class (codes "C") ∷ []
  pub constructor : initial_entries (codes "C") false true parameters ≡ types.UninitializedThis ∷ typed_parameters
  pub of_object : initial_entries object_name false true [] ≡ types.Class object_name ∷ []
  -- initial frames
  pub first : initial_frame 4 (codes "C") false true (field_type 0 (elements.Base bases.Long) ∷ [])
      ≡ record { locals = types.UninitializedThis ∷ types.Long ∷ types.Top ∷ types.Top ∷ []; stack = []; flag_this_uninit = true }
  pub plain : initial_frame 1 object_name false true []
      ≡ record { locals = types.Class object_name ∷ []; stack = []; flag_this_uninit = false }
  -- the first offset is its delta, the next is one more than its delta behind it; a chop takes the last
  pub chopped : frames_of (Same 3 ∷ Chop 2 4 ∷ [])
      ≡ Some (map_frame 3 (types.Int ∷ types.Long ∷ types.Class (codes "A") ∷ []) [] ∷ map_frame 8 (types.Class (codes "A") ∷ []) [] ∷ [])
  pub chopped_too_many : frames_of (Chop 3 0 ∷ Chop 1 0 ∷ []) ≡ None
  -- the last of the stack's items is its top
  pub full : frames_of (Full 5 (items.Null ∷ items.Uninitialized 7 ∷ []) (items.Integer ∷ items.Top ∷ []) ∷ [])
      ≡ Some (map_frame 5 (types.Uninitialized 7 ∷ types.Null ∷ []) (types.Top ∷ types.Int ∷ []) ∷ [])
  -- a long on a stack of two words, and an int more than the local variables hold
  pub long_on_stack : frames_of (Chop 3 0 ∷ SameItem 0 items.Long ∷ []) ≡ Some (map_frame 0 [] [] ∷ map_frame 1 [] (types.Long ∷ []) ∷ [])
  pub too_many_words : frames_of (Append 0 (items.Integer ∷ []) ∷ []) ≡ None
  -- the flag is that of a local variable alone
  pub flag_of_local : (by_words 1 (types.UninitializedThis ∷ []) []).flag_this_uninit ≡ true
  pub no_flag_of_stack : (by_words 1 (types.Int ∷ []) (types.UninitializedThis ∷ [])).flag_this_uninit ≡ false
