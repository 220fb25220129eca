-- An item that was taken from the stack.
use Rattle.std.specs.Prelude.{◌≡◌, ℕ, List, Option, Some, None}
use Rattle.jv_stackmap.specs.Types.{FrameType}
use Rattle.jv_verify_types.specs.Typed.{typed, typed_all}
use Rattle.jv_verify_types.specs.Numbered.{Item, NumberFrame, topped}

-- it was the one on top, and else nothing has changed; or it could not be taken
abbrev pub IsPopped : List (List ℕ) → Option (FrameType × List FrameType) → NumberFrame → NumberFrame → Option Item → Type 0
IsPopped names taken old new None = taken ≡ None
IsPopped names taken old new (Some item) = (taken ≡ Some (typed names item, typed_all names new.stack)) × (old ≡ topped new item)
