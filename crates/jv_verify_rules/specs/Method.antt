-- The method that is checked, with numbers for names (JVMS 4.10.1.6).
use Rattle.std.specs.Prelude.{Result, IfOk, ◌≡◌, ℕ, Bool, List, Option}
use Rattle.jv_text.specs.declared.descriptor.FieldTypeOf.{FieldTypeOf}
use Rattle.jv_text.specs.Name.{is_init}
use Rattle.jv_code.specs.Places.{IsCode}
use Rattle.jv_meaning_typing.specs.Environment.{Environment}
use Rattle.jv_verify_types.specs.PoolTypes.{typed_result}
use Rattle.jv_verify_types.specs.Current.{CurrentClass, IsOfClass}
use Rattle.jv_stackmap.specs.Frames.{Frame}
use Rattle.jv_verify_types.specs.Numbered.{NumberFrame, frame_of, Item}
use Rattle.jv_verify_types.specs.Outcomes.{Applies, IsFrame}
use Rattle.jv_verify_types.specs.declared.outcome.Outcome.{Outcome}
use Rattle.jv_stackmap.specs.Types.{FrameType}
use Rattle.jv_verify_types.specs.Typed.{typed}

-- its class, its code, whether its name is `<init>`, the type of its result, if it has one, and how many words its stack may have
pub record MethodContext : Type 0 where
  pub class : CurrentClass
  pub code : List ℕ
  pub is_init : Bool
  pub result : Option (FieldTypeOf ℕ)
  pub max_stack : ℕ

-- the environment of the method
pub record IsOfMethod (context : MethodContext) (env : Environment) : Type 0 where
  pub class : IsOfClass context.class env
  pub init : is_init env.site.method.name ≡ context.is_init
  pub result : env.descriptor.result ≡ typed_result context.class.types.names context.result
  pub max_stack : env.code.max_stack ≡ context.max_stack
  pub code : env.code.code ≡ context.code
  pub instructions : IsCode env.code.code env.instructions

-- the names whose numbers stand in types
abbrev pub names_of_method : MethodContext → List (List ℕ)
names_of_method context = context.class.types.names

-- it holds in every environment of the method
abbrev pub InMethod : MethodContext → (Environment → Type 0) → Type 0
InMethod context P = (env : Environment) → IsOfMethod context env → P env

-- A rule of the definitions was followed: in every environment of the method, the outcome and the frame are what it leaves of
-- the frame before.
abbrev pub Follows : MethodContext → (Environment → Frame → Option Frame) → NumberFrame → NumberFrame → Outcome → Type 0
Follows context rule old new outcome = InMethod context (λ env. Applies (names_of_method context) (rule env) old new outcome)

-- and the frame is left within the stack's limit
abbrev pub LeavesWithin : {E : Type 0} → MethodContext → (Environment → Frame → Option Frame) → NumberFrame → NumberFrame → Result Bool E
    → Type 0
LeavesWithin context rule old new answer =
    (env : Environment) → IsOfMethod context env
    → IfOk answer (IsFrame (names_of_method context) (rule env (frame_of (names_of_method context) old)) new)

abbrev pub typed_in : MethodContext → Item → FrameType
typed_in context item = typed (names_of_method context) item
