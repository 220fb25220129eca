-- What a rule of the code has found, after it has changed a frame in place, in the terms of the definitions.
use Rattle.std.specs.Prelude.{◌≡◌, ℕ, Bool, true, false, List, [], ◌∷◌, Option, Some, None}
use Rattle.jv_stackmap.specs.Types.{FrameType}
use Rattle.jv_stackmap.specs.Frames.{Frame}
use Rattle.jv_verify_types.specs.Typed.{typed, typed_all, TypeWorld}
use Rattle.jv_verify_types.specs.Numbered.{Item, NumberFrame, frame_of, topped, with_stack}
use Rattle.jv_verify_types.specs.declared.outcome.Outcome.{Outcome}
use Rattle.jv_verify_types.specs.declared.outcome.Outcome.TheVariants.{Fails, Leaves, Gives}
use Rattle.jv_meaning_typing.specs.FrameChanges.{exchanged}

-- the instruction may not stand there; or the frame is the one behind it, or is so with an item more on top
abbrev pub IsOutcome : List (List ℕ) → Option Frame → NumberFrame → Outcome → Type 0
IsOutcome names left new Fails = left ≡ None
IsOutcome names left new Leaves = left ≡ Some (frame_of names new)
IsOutcome names left new (Gives item) = left ≡ Some (frame_of names (topped new item))

-- items were taken from the stack, and else nothing has changed; or they could not be taken
abbrev pub Takes : List (List ℕ) → Option (List FrameType) → NumberFrame → NumberFrame → Bool → Type 0
Takes names below old new true = (below ≡ Some (typed_all names new.stack)) × (new ≡ with_stack new.stack old)
Takes names below old new false = below ≡ None

-- the type that a rule gives, one or none
abbrev pub given : List (List ℕ) → Option Item → List FrameType
given names None = []
given names (Some item) = typed names item ∷ []

abbrev pub outcome_of : Option Item → Outcome
outcome_of None = Leaves
outcome_of (Some item) = Gives item

abbrev pub outcome_of_component : Option Item → Outcome
outcome_of_component None = Fails
outcome_of_component (Some item) = Gives item

abbrev pub typed_option : List (List ℕ) → Option Item → Option FrameType
typed_option names None = None
typed_option names (Some item) = Some (typed names item)

-- the frame is the one that is left, or none is
abbrev pub IsFrame : List (List ℕ) → Option Frame → NumberFrame → Bool → Type 0
IsFrame names left new true = left ≡ Some (frame_of names new)
IsFrame names left new false = left ≡ None

-- ---- rules that were followed

-- A rule was followed: the outcome and the frame are what it leaves of the frame before.
abbrev pub Applies : List (List ℕ) → (Frame → Option Frame) → NumberFrame → NumberFrame → Outcome → Type 0
Applies names rule old new outcome = IsOutcome names (rule (frame_of names old)) new outcome

-- the same, whatever the names are
abbrev pub AppliesToAny : (Frame → Option Frame) → NumberFrame → NumberFrame → Outcome → Type 0
AppliesToAny rule old new outcome = (names : List (List ℕ)) → Applies names rule old new outcome

-- the rule that takes items of some types and gives others
abbrev pub Exchanges : TypeWorld → List FrameType → List FrameType → NumberFrame → NumberFrame → Outcome → Type 0
Exchanges types takes gives old new outcome = Applies types.names (exchanged types.world takes gives) old new outcome

-- items were taken as a rule on the stack says, or they could not be
abbrev pub TakesBy : List (List ℕ) → (List FrameType → Option (List FrameType)) → NumberFrame → NumberFrame → Bool → Type 0
TakesBy names rule old new answer = Takes names (rule (typed_all names old.stack)) old new answer
