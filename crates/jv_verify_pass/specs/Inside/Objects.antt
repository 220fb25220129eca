-- Objects that are not initialized on a stack, from the lowest item on.
use Rattle.std.specs.Prelude.{◌≡◌, ℕ, Bool, true, false, List, [], ◌∷◌, map, nat_le, reverse, get_or, if◌then◌else◌}
use Rattle.jv_stackmap.specs.declared.verification.VerificationTypeOf.TheVariants as types
use Rattle.jv_stackmap.specs.Types.{FrameType}
use Rattle.jv_verify_types.specs.Typed.{typed, typed_all}
use Rattle.jv_verify_types.specs.Numbered.{Item}
use Rattle.jv_verify_frame.specs.Inside.Noted.{is_among, is_in_local}

-- `this`, or what a `new` made
abbrev pub is_object : FrameType → Bool
is_object types.UninitializedThis = true
is_object (types.Uninitialized offset) = true
is_object _ = false

-- whether each item of a stack, whose top is first, is such an object, from the top on
abbrev pub objects_downward : List FrameType → List Bool
objects_downward items = map is_object items

-- the same from the lowest on
abbrev pub objects_of : List FrameType → List Bool
objects_of items = reverse (objects_downward items)

-- each copy of an object on a stack is at one of these places, from the lowest item on
abbrev pub HoldOnStack : List ℕ → Item → List Item → Type 0
HoldOnStack places object stack =
    (names : List (List ℕ)) (k : ℕ) → is_among places k ≡ false
    → is_in_local (typed names object) (typed_all names (reverse stack)) k ≡ false

abbrev pub lower : ℕ → ℕ → ℕ
lower one other = if nat_le one other then one else other

-- so many of the lowest items, or as many as are below a place, if an object is there
abbrev pub below_place : List Bool → ℕ → ℕ → ℕ
below_place objects place lowest = if get_or objects place false then lower lowest place else lowest

-- the same of all these places
abbrev pub below_places : List Bool → List ℕ → ℕ → ℕ
below_places objects [] lowest = lowest
below_places objects (place ∷ places) lowest = below_places objects places (below_place objects place lowest)

-- the least of these places and another number
abbrev pub least_of : ℕ → List ℕ → ℕ
least_of most [] = most
least_of most (place ∷ places) = least_of (lower most place) places
