-- The object that `<init>` is called on (JVMS 4.10.1.9).
use Rattle.std.specs.Prelude.{◌≡◌, ℕ, List, ◌∷◌, Option, Some, None}
use Rattle.jv_stackmap.specs.Types.{FrameType}
use Rattle.jv_verify_types.specs.Typed.{typed, typed_all, TypeWorld}
use Rattle.jv_verify_types.specs.Numbered.{Item, NumberFrame, with_stack, frame_of}
use Rattle.jv_meaning_typing.specs.FrameChanges.{taken}
use Rattle.jv_meaning_typing.specs.MemberRules.{constructed}

-- the object on top of what the arguments leave of a stack, where they leave one
abbrev pub object_in : Option (List FrameType) → Option FrameType
object_in (Some (object ∷ below)) = Some object
object_in _ = None

-- It was taken, with the arguments above it, and else nothing has changed; or there is none.
abbrev pub TakesObject : List (List ℕ) → Option (List FrameType) → NumberFrame → NumberFrame → Option Item → Type 0
TakesObject names left old new None = object_in left ≡ None
TakesObject names left old new (Some object) =
    (left ≡ Some (typed names object ∷ typed_all names new.stack)) × (new ≡ with_stack new.stack old)

-- the same of the object below arguments of these types
abbrev pub TakesBelowArguments : TypeWorld → List Item → NumberFrame → NumberFrame → Option Item → Type 0
TakesBelowArguments types arguments old new answer =
    TakesObject types.names (taken types.world (typed_all types.names arguments) (typed_all types.names old.stack)) old new answer

-- all copies of it get a type, whatever the names are
abbrev pub Constructs : Item → Item → NumberFrame → NumberFrame → Type 0
Constructs object by old new =
    (names : List (List ℕ)) → frame_of names new
    ≡ constructed (frame_of names old) (typed names object) (typed names by) (typed_all names old.stack)
