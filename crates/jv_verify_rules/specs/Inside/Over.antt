-- The environment of a method over what its class's constants say, and what is left of a frame in its stack's size.
use Rattle.std.specs.Prelude.{◌≡◌, Option, ℕ, List, Bool, Result, IfOk}
use Rattle.jv_format.specs.Format.{◌>>=◌}
use Rattle.jv_stackmap.specs.Frames.{Frame}
use Rattle.jv_meaning_typing.specs.Environment.{Environment}
use Rattle.jv_meaning_typing.specs.Rule.{within_stack, by_exchange, test_references}
use Rattle.jv_verify_types.specs.PoolTypes.{PoolTypes, typed_result}
use Rattle.jv_verify_types.specs.Operands.{HasPool}
use Rattle.jv_verify_rules.specs.Method.{MethodContext, IsOfMethod}
use Rattle.jv_verify_types.specs.Numbered.{NumberFrame, frame_of, Item, topped}
use Rattle.jv_verify_types.specs.Outcomes.{Applies, IsOutcome, IsFrame}
use Rattle.jv_verify_types.specs.declared.outcome.Outcome.{Outcome}
use Rattle.jv_text.specs.declared.descriptor.FieldTypeOf.{FieldTypeOf}
use Rattle.jv_code.specs.declared.kinds.ValueKind.{ValueKind}
use Rattle.jv_meaning_typing.specs.ValueRules.{return_value, return_nothing}
use Rattle.jv_verify_types.specs.Typed.{TypeWorld}
use Rattle.jv_code.specs.declared.kinds.Test.{Test}
use Rattle.jv_meaning_typing.specs.NumberRules.{test}

-- an environment of a method of the class with these constants
pub record IsOver (constants : PoolTypes) (env : Environment) : Type 0 where
  pub world : env.world ≡ constants.types.world
  pub pool : HasPool constants.pool env

-- one of the method itself
pub record IsMethodOver (context : MethodContext) (constants : PoolTypes) (env : Environment) : Type 0 where
  pub over : IsOver constants env
  pub types : context.class.types ≡ constants.types
  pub method : IsOfMethod context env

-- the frame, if the words of its stack are within max_stack
abbrev pub settled : Environment → Option Frame → Option Frame
settled env left = left >>= within_stack env

-- ---- rules that were followed

-- in every environment of a method of the class with these constants
abbrev pub FollowsOver : PoolTypes → (Environment → Frame → Option Frame) → NumberFrame → NumberFrame → Outcome → Type 0
FollowsOver constants rule old new outcome =
    (env : Environment) → IsOver constants env → Applies constants.types.names (rule env) old new outcome

abbrev pub FollowsByPool : PoolTypes → (Environment → Frame → Option Frame) → NumberFrame → NumberFrame → Outcome → Type 0
FollowsByPool constants rule old new outcome =
    (env : Environment) → HasPool constants.pool env → Applies constants.types.names (rule env) old new outcome

-- a constant was pushed, whatever the frame is
abbrev pub PushesByPool : PoolTypes → (Environment → Frame → Option Frame) → Outcome → Type 0
PushesByPool constants rule outcome =
    (env : Environment) (frame : NumberFrame) → HasPool constants.pool env → Applies constants.types.names (rule env) frame frame outcome

-- the rule of an instruction of the method itself, before its stack's size is asked
abbrev pub FollowsBoth : {E : Type 0} → MethodContext → PoolTypes → (Environment → Frame → Option Frame) → NumberFrame → NumberFrame
    → Result Outcome E → Type 0
FollowsBoth context constants rule old new answer =
    (env : Environment) → IsMethodOver context constants env
    → IfOk answer (IsOutcome constants.types.names (rule env (frame_of constants.types.names old)) new)

-- in every environment with this stack's limit
abbrev pub WithinStack : ℕ → (List (List ℕ) → Environment → Type 0) → Type 0
WithinStack max_stack P = (names : List (List ℕ)) (env : Environment) → env.code.max_stack ≡ max_stack → P names env

-- what a rule has left is within the stack's limit, and stays, or is none
abbrev pub Settles : {E : Type 0} → ℕ → NumberFrame → NumberFrame → Outcome → Result Bool E → Type 0
Settles max_stack old new outcome answer =
    (names : List (List ℕ)) (env : Environment) (left : Option Frame) → env.code.max_stack ≡ max_stack → IsOutcome names left old outcome
    → IfOk answer (IsFrame names (settled env left) new)

-- a test of references by a branch, and the results of methods, in a world
abbrev pub TestsReferences : TypeWorld → (Environment → Frame → Option Frame) → NumberFrame → NumberFrame → Outcome → Type 0
TestsReferences types rule old new outcome =
    (env : Environment) → env.world ≡ types.world → IsOutcome types.names (rule env (frame_of types.names old)) new outcome

abbrev pub ReturnsValue : TypeWorld → ValueKind → Option (FieldTypeOf ℕ) → NumberFrame → NumberFrame → Outcome → Type 0
ReturnsValue types kind result old new outcome =
    (env : Environment) (described : Option (FieldTypeOf (List ℕ))) → env.world ≡ types.world → described ≡ typed_result types.names result
    → IsOutcome types.names (return_value env kind described (frame_of types.names old)) new outcome

abbrev pub ReturnsNothing : Option (FieldTypeOf ℕ) → NumberFrame → Outcome → Type 0
ReturnsNothing result frame outcome =
    (names : List (List ℕ)) (described : Option (FieldTypeOf (List ℕ))) → described ≡ typed_result names result
    → IsOutcome names (return_nothing described (frame_of names frame)) frame outcome

-- an item more on the stack is within its limit, and is there, or it is not
abbrev pub SettlesTop : {E : Type 0} → ℕ → NumberFrame → Item → NumberFrame → Result Bool E → Type 0
SettlesTop max_stack old item new answer =
    (names : List (List ℕ)) (env : Environment) → env.code.max_stack ≡ max_stack
    → IfOk answer (IsFrame names (within_stack env (frame_of names (topped old item))) new)

-- a branch, whose test takes ints by the table or references
abbrev pub branch_of : Test → Environment → Frame → Option Frame
branch_of condition env frame = by_exchange env (test condition) (test_references condition frame) frame
