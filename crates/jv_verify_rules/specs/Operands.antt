-- What operands of the code stand for: the field or the method that an instruction names (JVMS 4.10.1.9).
use Rattle.std.specs.Prelude.{◌≡◌, List, ◌∷◌, Option, ℕ, Bool, ◌+◌, ◌==◌, ◌&&◌, not}
use Rattle.jv_meaning_typing.specs.Environment.{Environment}
use Rattle.jv_meaning_typing.specs.Named.{FieldUse, MethodUse, current_type}
use Rattle.jv_meaning_typing.specs.MemberRules.{field_guard, sets_own_field, is_of_class, has_plain_name, method_guard, invoke_super, is_near}
use Rattle.jv_verify_types.specs.Typed.{TypeWorld, typed, typed_all}
use Rattle.jv_verify_types.specs.Outcomes.{given, Applies, IsOutcome}
use Rattle.jv_verify_rules.specs.declared.field_access.FieldOperand.{FieldOperand}
use Rattle.jv_verify_rules.specs.declared.methods.MethodOperand.{MethodOperand}
use Rattle.jv_stackmap.specs.Frames.{Frame}
use Rattle.jv_stackmap.specs.Types.{FrameType, words}
use Rattle.jv_verify_types.specs.Numbered.{NumberFrame, Item, frame_of}
use Rattle.jv_verify_types.specs.declared.outcome.Outcome.{Outcome}
use Rattle.jv_verify_rules.specs.Inside.ByTypes.{called, got, taken_to_store, put, accessed}
use Rattle.jv_code.specs.declared.kinds.FieldAccess.{FieldAccess}

-- a field that is used in a method, by the types with these numbers for names
pub record IsField (types : TypeWorld) (env : Environment) (field : FieldUse) (operand : FieldOperand) : Type 0 where
  pub world : env.world ≡ types.world
  pub owner : field.owner ≡ typed types.names operand.owner
  pub value : field.type ≡ typed types.names operand.value
  pub guard : field_guard env field ≡ given types.names operand.guard
  pub sets_own : sets_own_field env field ≡ operand.sets_own

-- a method that is called in a method
pub record IsMethod (types : TypeWorld) (env : Environment) (method : MethodUse) (operand : MethodOperand) : Type 0 where
  pub world : env.world ≡ types.world
  pub of_class : is_of_class method.constant ≡ operand.of_class
  pub plain_name : has_plain_name method ≡ operand.plain_name
  pub owner : method.owner ≡ typed types.names operand.owner
  pub guard : method_guard env method ≡ given types.names operand.guard
  pub arguments : method.arguments ≡ typed_all types.names operand.arguments.now
  pub result : method.result ≡ given types.names operand.result

-- ---- in every environment

-- a rule was followed for a field that is used
abbrev pub FollowsField : TypeWorld → FieldOperand → (Environment → FieldUse → Frame → Option Frame) → NumberFrame → NumberFrame → Outcome
    → Type 0
FollowsField types operand rule old new outcome =
    (env : Environment) (named : FieldUse) → IsField types env named operand → Applies types.names (rule env named) old new outcome

-- and for a method that is called
abbrev pub FollowsMethod : TypeWorld → MethodOperand → (Environment → MethodUse → Frame → Option Frame) → NumberFrame → NumberFrame
    → Outcome → Type 0
FollowsMethod types operand rule old new outcome =
    (env : Environment) (named : MethodUse) → IsMethod types env named operand → Applies types.names (rule env named) old new outcome

-- the types that an object is to flow to where a field is used
abbrev pub receivers_of : TypeWorld → FieldOperand → List FrameType
receivers_of types field = typed types.names field.owner ∷ given types.names field.guard

-- and where a method is called
abbrev pub called_receivers : TypeWorld → Item → Option Item → List FrameType
called_receivers types receiver guard = typed types.names receiver ∷ given types.names guard

abbrev pub with_value : TypeWorld → FieldOperand → FrameType
with_value types field = typed types.names field.value

-- the rule of a call, over the types of the method and of the object that it is called on
abbrev pub calls_on : TypeWorld → MethodOperand → List FrameType → Frame → Option Frame
calls_on types method receivers frame =
    called types.world (typed_all types.names method.arguments.now) receivers (given types.names method.result) frame

-- a method of the class with this type is called where the rules on names let it be, or not
abbrev pub FollowsNear : TypeWorld → MethodOperand → Item → Bool → NumberFrame → NumberFrame → Outcome → Type 0
FollowsNear types operand current near old new outcome =
    (env : Environment) (named : MethodUse) → IsMethod types env named operand → current_type env ≡ typed types.names current
    → is_near env named.reference.class ≡ near → IsOutcome types.names (invoke_super env named (frame_of types.names old)) new outcome

-- the count behind the index is that of the arguments' words and the object's, of a method that is no `<init>`
abbrev pub counts_words : List (List ℕ) → MethodOperand → ℕ → Bool
counts_words names method count =
    not method.of_class && method.plain_name && (count == words (typed_all names method.arguments.now) + 1)

-- the rules of getfield and putfield, and of each access, over the types of the field
abbrev pub gets : TypeWorld → FieldOperand → Frame → Option Frame
gets types field frame = got types.world (receivers_of types field) (with_value types field) frame

abbrev pub takes_owner : TypeWorld → FieldOperand → List FrameType → Option (List FrameType)
takes_owner types field stack = taken_to_store types.world field.sets_own (receivers_of types field) stack

abbrev pub puts : TypeWorld → FieldOperand → Frame → Option Frame
puts types field frame = put types.world field.sets_own (receivers_of types field) (with_value types field) frame

abbrev pub accesses : TypeWorld → FieldAccess → FieldOperand → Frame → Option Frame
accesses types access field frame =
    accessed types.world access field.sets_own (receivers_of types field) (with_value types field) frame

abbrev pub calls_guarded : TypeWorld → MethodOperand → Item → Option Item → Frame → Option Frame
calls_guarded types method receiver guard frame = calls_on types method (called_receivers types receiver guard) frame
