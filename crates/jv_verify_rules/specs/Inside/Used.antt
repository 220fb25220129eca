-- Members that the indices of a method's instructions name, as types by number (JVMS 4.10.1.9).
use Rattle.std.specs.Prelude.{◌≡◌, ℕ, List, Option, Some, None, Bool, ◌&&◌}
use Rattle.jv_meaning_typing.specs.Environment.{Environment, current_class}
use Rattle.jv_meaning_typing.specs.Named.{FieldUse, MethodUse, method_named_by, field_named_by}
use Rattle.jv_verify_types.specs.Typed.{TypeWorld, typed, name_at}
use Rattle.jv_verify_types.specs.declared.methods.CalledTypes.{CalledTypes}
use Rattle.jv_verify_types.specs.Operands.{IsCalled}
use Rattle.jv_verify_rules.specs.declared.field_access.FieldOperand.{FieldOperand}
use Rattle.jv_verify_rules.specs.Operands.{IsField}
use Rattle.std.specs.Option.{option_map}
use Rattle.jv_stackmap.specs.Frames.{Frame}
use Rattle.jv_stackmap.specs.Types.{FrameType}
use Rattle.jv_verify_types.specs.Numbered.{Item, NumberFrame, frame_of}
use Rattle.jv_verify_types.specs.Outcomes.{Applies, given}
use Rattle.jv_verify_types.specs.declared.outcome.Outcome.{Outcome}
use Rattle.jv_verify_rules.specs.Method.{MethodContext, IsOfMethod}
use Rattle.jv_meaning_typing.specs.MemberRules.{constructed_type, field_guard, method_guard, constructs_this}
use Rattle.std.specs.List.{list_all}
use Rattle.std.specs.Str.{bytes_eq}
use Rattle.jv_text.specs.Name.{is_init}
use Rattle.jv_meaning_world.specs.Flow.{flows}
use Rattle.jv_verify_rules.specs.Inside.Constructed.{constructed_here}

-- the field that is used, or none
abbrev pub UsesField : TypeWorld → Environment → Option FieldUse → Option FieldOperand → Type 0
UsesField types env None None = Unit {0}
UsesField types env (Some named) (Some operand) = IsField types env named operand
UsesField types env _ _ = ⊥

-- the method that an index names, by the types of what is called
pub record Calls (names : List (List ℕ)) (env : Environment) (index : ℕ) (called : CalledTypes) (method : MethodUse) : Type 0 where
  pub named : method_named_by env index ≡ Some method
  pub types : IsCalled names method called

-- it holds of the method that an index names, in every environment of the method that calls it
abbrev pub AtCall : MethodContext → ℕ → CalledTypes → (Environment → MethodUse → Type 0) → Type 0
AtCall context index called P =
    (env : Environment) → IsOfMethod context env → (named : MethodUse) → Calls context.class.types.names env index called named
    → P env named

-- a rule was followed for it
abbrev pub FollowsCall : MethodContext → ℕ → CalledTypes → (Environment → MethodUse → Frame → Option Frame) → NumberFrame → NumberFrame
    → Outcome → Type 0
FollowsCall context index called rule old new outcome =
    AtCall context index called (λ env named. Applies context.class.types.names (rule env named) old new outcome)

-- the type that an object gets where its `<init>` was called
abbrev pub IsConstructedType : MethodContext → ℕ → CalledTypes → Item → Option Item → Type 0
IsConstructedType context index called object result =
    AtCall context index called
    (λ env named. option_map (typed context.class.types.names) result
    ≡ constructed_type env named (typed context.class.types.names object))

-- the object that an instruction constructs, or none
abbrev pub IsObjectOf : MethodContext → (Environment → Frame → Option FrameType) → NumberFrame → Option Item → Type 0
IsObjectOf context rule frame result =
    (env : Environment) → IsOfMethod context env
    → option_map (typed context.class.types.names) result ≡ rule env (frame_of context.class.types.names frame)

-- what guards the members that an index names (JVMS 4.10.1.8)
abbrev pub GuardsField : MethodContext → ℕ → Option Item → Type 0
GuardsField context index guard =
    (env : Environment) → IsOfMethod context env → (named : FieldUse) → field_named_by env index ≡ Some named
    → field_guard env named ≡ given context.class.types.names guard

abbrev pub GuardsMethod : MethodContext → ℕ → Option Item → Type 0
GuardsMethod context index guard =
    (env : Environment) → IsOfMethod context env → (named : MethodUse) → method_named_by env index ≡ Some named
    → method_guard env named ≡ given context.class.types.names guard

-- a class flows to what guards the method
abbrev pub FlowsToGuard : MethodContext → ℕ → Item → Bool → Type 0
FlowsToGuard context index class answer =
    (env : Environment) → IsOfMethod context env → (named : MethodUse) → method_named_by env index ≡ Some named
    → list_all (flows env.world (typed context.class.types.names class)) (method_guard env named) ≡ answer

-- a field of the current class is set in its `<init>`
abbrev pub SetsOwn : MethodContext → ℕ → Bool → Type 0
SetsOwn context class answer =
    (env : Environment) → IsOfMethod context env
    → (is_init env.site.method.name && bytes_eq (name_at context.class.types.names class) (current_class env).name) ≡ answer

-- `this` is what is constructed
abbrev pub ConstructsThis : MethodContext → CalledTypes → Bool → Type 0
ConstructsThis context called answer =
    (env : Environment) → IsOfMethod context env → (named : MethodUse) → IsCalled context.class.types.names named called
    → constructs_this env named ≡ answer

-- the object gets its type where the called `<init>` gives it one
abbrev pub ConstructsCalled : MethodContext → ℕ → CalledTypes → Item → NumberFrame → NumberFrame → Outcome → Type 0
ConstructsCalled context index called object old new outcome =
    FollowsCall context index called (λ env named. constructed_here env named (typed context.class.types.names object)) old new outcome
