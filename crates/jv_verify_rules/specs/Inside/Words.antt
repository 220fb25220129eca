-- Items that a form of the stack takes, none, one or two.
use Rattle.std.specs.Prelude.{◌≡◌, ℕ, List, [], ◌∷◌, Option, Some, None}
use Rattle.std.specs.Option.{option_map}
use Rattle.jv_stackmap.specs.Types.{FrameType}
use Rattle.jv_code.specs.declared.kinds.StackForm.{StackForm}
use Rattle.jv_meaning_typing.specs.StackForms.{arranged, item_before, top_words}
use Rattle.jv_verify_types.specs.Typed.{typed, typed_all}
use Rattle.jv_verify_types.specs.Numbered.{Item, NumberFrame, with_stack}
use Rattle.jv_verify_rules.specs.declared.forms.Words.{Words}
use Rattle.jv_verify_rules.specs.declared.forms.Words.TheVariants.{Nothing, One, Two}
use Rattle.jv_meaning_typing.specs.FrameChanges.{item_width}

-- the items, the top first
abbrev pub items_in : Words → List Item
items_in Nothing = []
items_in (One item) = item ∷ []
items_in (Two top below) = top ∷ below ∷ []

abbrev pub arranged_words : StackForm → Words → Words → List Item
arranged_words form taken passed = arranged form (items_in taken) (items_in passed)

-- one item was taken, and else nothing has changed; or none could be
abbrev pub IsWord : List (List ℕ) → Option (List FrameType × List FrameType) → NumberFrame → NumberFrame → Option Item → Type 0
IsWord names parts old new None = parts ≡ None
IsWord names parts old new (Some item) =
    (parts ≡ Some (typed names item ∷ [], typed_all names new.stack)) × (new ≡ with_stack new.stack old)

abbrev pub AreTaken : List (List ℕ) → Option (List FrameType × List FrameType) → NumberFrame → NumberFrame → Option Words → Type 0
AreTaken names parts old new None = parts ≡ None
AreTaken names parts old new (Some words) =
    (parts ≡ Some (typed_all names (items_in words), typed_all names new.stack)) × (new ≡ with_stack new.stack old)

-- an item below another, with which it is one part
abbrev pub IsBelow : List (List ℕ) → Item → Option (List FrameType × List FrameType) → NumberFrame → NumberFrame → Option Words → Type 0
IsBelow names first parts old new None = parts ≡ None
IsBelow names first parts old new (Some words) =
    (option_map (item_before (typed names first)) parts ≡ Some (typed_all names (items_in words), typed_all names new.stack))
    × (new ≡ with_stack new.stack old)

-- So many words were taken as one item, or with one below another, or as items, whatever the names are.
abbrev pub TakesWord : ℕ → NumberFrame → NumberFrame → Option Item → Type 0
TakesWord count old new answer =
    (names : List (List ℕ)) → IsWord names (top_words item_width count (typed_all names old.stack)) old new answer

abbrev pub TakesBelow : Item → ℕ → NumberFrame → NumberFrame → Option Words → Type 0
TakesBelow first count old new answer =
    (names : List (List ℕ)) → IsBelow names first (top_words item_width count (typed_all names old.stack)) old new answer

abbrev pub TakesWords : ℕ → NumberFrame → NumberFrame → Option Words → Type 0
TakesWords count old new answer =
    (names : List (List ℕ)) → AreTaken names (top_words item_width count (typed_all names old.stack)) old new answer
