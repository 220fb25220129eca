-- Frames whose classes are numbers of names, and the frames that they stand for (JVMS 4.10.1.4).
use Rattle.std.specs.Prelude.{◌≡◌, ℕ, Bool, true, false, List, [], ◌∷◌, replicate, sum_by, Option, Some, None}
use Rattle.jv_stackmap.specs.declared.verification.VerificationTypeOf.{VerificationTypeOf}
use Rattle.jv_stackmap.specs.declared.verification.VerificationTypeOf.TheVariants as types
use Rattle.jv_stackmap.specs.Types.{FrameType}
use Rattle.jv_stackmap.specs.Frames.{Frame, type_by_words}
use Rattle.jv_meaning_typing.specs.FrameChanges.{stored, replaced}
use Rattle.jv_verify_types.specs.Typed.{typed_all, typed}

abbrev pub Item : Type 0
Item = VerificationTypeOf ℕ

-- the local variables, the first first, the stack, the top first, and the flag that `this` may not be initialized
pub record NumberFrame : Type 0 where
  pub locals : List Item
  pub stack : List Item
  pub flag_this_uninit : Bool

-- the frame that it stands for, by the names with these numbers
abbrev pub frame_of : List (List ℕ) → NumberFrame → Frame
frame_of names f = record { locals = typed_all names f.locals; stack = typed_all names f.stack; flag_this_uninit = f.flag_this_uninit }

-- an item more on top
abbrev pub topped : NumberFrame → Item → NumberFrame
topped f item = record f { stack = item ∷ f.stack }

-- two words for a long, one for every other type
abbrev pub item_words : Item → ℕ
item_words types.Long = 2
item_words _ = 1

-- the number of the name of a class, and no array, where there is an item
abbrev pub class_number : Option Item → Option ℕ
class_number (Some (types.Class number)) = Some number
class_number _ = None

abbrev pub stack_words : List Item → ℕ
stack_words items = sum_by item_words items

abbrev pub with_locals : List Item → NumberFrame → NumberFrame
with_locals locals f = record f { locals = locals }

abbrev pub with_stack : List Item → NumberFrame → NumberFrame
with_stack stack f = record f { stack = stack }

-- local variables that hold nothing, an empty stack, and no flag
abbrev pub blank : ℕ → NumberFrame
blank max_locals = record { locals = replicate max_locals types.Top; stack = []; flag_this_uninit = false }

abbrev pub with_flag : Bool → NumberFrame → NumberFrame
with_flag flag f = record f { flag_this_uninit = flag }

abbrev pub without_flag : NumberFrame → NumberFrame
without_flag f = record f { flag_this_uninit = false }

-- Words are stored in local variables from an index on, or there are not as many.
abbrev pub Stores : Bool → List FrameType → ℕ → List FrameType → List FrameType → Type 0
Stores true words index old new = stored words index old ≡ Some new
Stores false words index old new = stored words index old ≡ None

-- ---- whatever the names are

abbrev pub StoresAny : Bool → (List (List ℕ) → List FrameType) → ℕ → List Item → List Item → Type 0
StoresAny answer words index old new =
    (names : List (List ℕ)) → Stores answer (words names) index (typed_all names old) (typed_all names new)

abbrev pub ReplacesAny : Item → Item → List Item → List Item → Type 0
ReplacesAny object by old new =
    (names : List (List ℕ)) → typed_all names new ≡ replaced (typed names object) (typed names by) (typed_all names old)

-- the local variables that a type takes
abbrev pub words_of_item : Item → List (List ℕ) → List FrameType
words_of_item item names = type_by_words (typed names item)
