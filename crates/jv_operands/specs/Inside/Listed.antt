-- Lists of wants.
use Rattle.std.specs.Prelude.{ℕ, List, [], ◌∷◌, Option, Some, None, if◌then◌else◌}
use Rattle.jv_text.specs.Name.{is_init}
use Rattle.jv_stackmap.specs.Types.{FrameType}
use Rattle.jv_code.specs.declared.kinds.Invocation.{Invocation}
use Rattle.jv_code.specs.declared.kinds.Invocation.TheVariants as invocations
use Rattle.jv_code.specs.declared.kinds.Test.{Test}
use Rattle.jv_meaning_typing.specs.Environment.{Environment}
use Rattle.jv_meaning_typing.specs.Named.{current_type}
use Rattle.jv_meaning_typing.specs.NumberRules.{test}
use Rattle.jv_operands.specs.declared.want.Want.TheVariants as wants
use Rattle.jv_operands.specs.Wants.{FrameWant, of_type, reference_test_wants, wants_by}

-- what there may be, as a list
abbrev pub as_list : {A : Type 0} → Option A → List A
as_list None = []
as_list (Some a) = a ∷ []

-- of branches, on numbers and on references
abbrev pub branch_wants : Test → List FrameWant
branch_wants t = wants_by (test t) (reference_test_wants t)

-- the object that a method of this name and owner is called on
abbrev pub receiver_by : Environment → Invocation → List ℕ → FrameType → List FrameWant
receiver_by env invocations.Virtual name owner = of_type owner ∷ []
receiver_by env invocations.Special name owner = (if is_init name then wants.Uninitialized else of_type (current_type env)) ∷ []
receiver_by env invocations.Static name owner = []
