-- A want that is not met, as text (own).
use Rattle.std.specs.Prelude.{ℕ, List, ◌∷◌, [], ◌++◌, codes, Option, Some, None}
use Rattle.std.specs.Fmt.{decimal}
use Rattle.jv_stackmap.specs.Types.{FrameType}
use Rattle.jv_shown.specs.Frames.{type_text}
use Rattle.jv_operands.specs.declared.unmet.Place.{Place}
use Rattle.jv_operands.specs.declared.unmet.Place.TheVariants.{Item, Local}
use Rattle.jv_operands.specs.declared.want.Want.TheVariants as wants
use Rattle.jv_operands.specs.Unmet.{Unmet}
use Rattle.jv_operands.specs.Wants.{FrameWant}

abbrev pub want_text : FrameWant → List ℕ
want_text (wants.Type type) = type_text type
want_text (wants.Either one other) = type_text one ++ codes " or " ++ type_text other
want_text wants.Reference = codes "a reference"
want_text wants.Array = codes "an array"
want_text wants.ReferenceArray = codes "an array of references"
want_text wants.Uninitialized = codes "an uninitialized object"
want_text wants.Word = codes "a value of one word"
want_text wants.Any = codes "any type"

abbrev pub place_text : Place → List ℕ
place_text (Item depth) = codes "  stack item " ++ decimal depth ++ codes " from the top"
place_text (Local index) = codes "  local variable " ++ decimal index

abbrev pub found_text : Option FrameType → List ℕ
found_text None = codes "none"
found_text (Some type) = type_text type

-- a line with the place, what is there and what is wanted
abbrev pub unmet_line : Unmet → List ℕ
unmet_line u = place_text u.place ++ codes ": " ++ found_text u.found ++ codes "; wanted " ++ want_text u.want ++ 10 ∷ []
