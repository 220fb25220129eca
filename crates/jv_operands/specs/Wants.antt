-- What an instruction wants of the items of the stack and of a local variable before it (JVMS 4.10.1.9), where the constant that it names
-- is of its kind. What is asked of protected members (4.10.1.8), and which class a constructor is called on, is no part of it.
use Rattle.std.specs.Prelude.{ℕ, ◌+◌, List, [], ◌∷◌, ◌++◌, map, replicate, reverse, Option, Some, None, if◌then◌else◌}
use Rattle.jv_text.specs.declared.descriptor.Base.TheVariants as bases
use Rattle.jv_text.specs.declared.descriptor.FieldTypeOf.{FieldTypeOf}
use Rattle.jv_text.specs.Name.{is_init}
use Rattle.jv_stackmap.specs.declared.verification.VerificationTypeOf.TheVariants as types
use Rattle.jv_stackmap.specs.Types.{FrameType, value_type}
use Rattle.jv_code.specs.Insns.{Instruction}
use Rattle.jv_code.specs.declared.insn.Insn.TheVariants as insns
use Rattle.jv_code.specs.declared.kinds.FieldAccess.{FieldAccess}
use Rattle.jv_code.specs.declared.kinds.FieldAccess.TheVariants as access
use Rattle.jv_code.specs.declared.kinds.Invocation.{Invocation}
use Rattle.jv_code.specs.declared.kinds.Invocation.TheVariants as invocations
use Rattle.jv_code.specs.declared.kinds.NumberElement.{NumberElement}
use Rattle.jv_code.specs.declared.kinds.NumberElement.TheVariants as numbers
use Rattle.jv_code.specs.declared.kinds.StackForm.{StackForm}
use Rattle.jv_code.specs.declared.kinds.StackForm.TheVariants as forms
use Rattle.jv_code.specs.declared.kinds.Test.{Test}
use Rattle.jv_code.specs.declared.kinds.Test.TheVariants as tests
use Rattle.jv_code.specs.declared.kinds.ValueKind.{ValueKind}
use Rattle.jv_code.specs.declared.kinds.ValueKind.TheVariants as kinds
use Rattle.jv_meaning_typing.specs.Environment.{Environment}
use Rattle.jv_meaning_typing.specs.MemberRules.{sets_own_field}
use Rattle.jv_meaning_typing.specs.Named.{FieldUse, MethodUse, current_type, field_named_by, method_named_by, object_class_type}
use Rattle.jv_meaning_typing.specs.NumberRules.{Exchange, array_of_base, element_number, fixed_exchange}
use Rattle.jv_meaning_typing.specs.ValueRules.{value_kind}
use Rattle.jv_operands.specs.declared.want.Want.{Want}
use Rattle.jv_operands.specs.declared.want.Want.TheVariants as wants

-- with a list of bytes for a class's name
abbrev pub FrameWant : Type 0
FrameWant = Want (List ℕ)

abbrev pub of_type : FrameType → FrameWant
of_type type = wants.Type type

-- items that flow to these types, one by one, the last of which stands on top: the topmost first
abbrev pub of_types : List FrameType → List FrameWant
of_types list = map of_type (reverse list)

abbrev pub of_kind : ValueKind → FrameWant
of_kind kinds.Int = wants.Type types.Int
of_kind kinds.Long = wants.Type types.Long
of_kind kinds.Reference = wants.Reference

-- ---- instructions whose types depend on a constant, on the method or on the frame

-- the array that an instruction loads numbers of a kind from, or stores them in
abbrev pub number_array : NumberElement → FrameWant
number_array numbers.Int = wants.Type (array_of_base bases.Int)
number_array numbers.Long = wants.Type (array_of_base bases.Long)
number_array numbers.ByteOrBoolean = wants.Either (array_of_base bases.Byte) (array_of_base bases.Boolean)
number_array numbers.Char = wants.Type (array_of_base bases.Char)
number_array numbers.Short = wants.Type (array_of_base bases.Short)

-- forms of the stack that take a word at least; of those that take two, either of one item or of two, nothing is said
abbrev pub form_wants : StackForm → List FrameWant
form_wants forms.Pop = wants.Word ∷ []
form_wants forms.Dup = wants.Word ∷ []
form_wants forms.DupX1 = wants.Word ∷ wants.Word ∷ []
form_wants forms.DupX2 = wants.Word ∷ []
form_wants forms.Swap = wants.Word ∷ wants.Word ∷ []
form_wants _ = []

abbrev pub reference_test_wants : Test → List FrameWant
reference_test_wants (tests.IfReferences equality) = wants.Reference ∷ wants.Reference ∷ []
reference_test_wants (tests.IfNull equality) = wants.Reference ∷ []
reference_test_wants _ = []

-- the value that a method returns flows to its result's type
abbrev pub return_wants : Option (FieldTypeOf (List ℕ)) → List FrameWant
return_wants None = []
return_wants (Some result) = of_type (value_type result) ∷ []

-- ---- fields

-- what a field is stored in: an object of the class that is named, and in `<init>` also `this` before it is initialized
abbrev pub stored_to : Environment → FieldUse → FrameWant
stored_to env field = if sets_own_field env field then wants.Either field.owner types.UninitializedThis else wants.Type field.owner

abbrev pub field_wants : Environment → FieldAccess → Option FieldUse → List FrameWant
field_wants env access.PutStatic (Some field) = of_type field.type ∷ []
field_wants env access.GetField (Some field) = of_type field.owner ∷ []
field_wants env access.PutField (Some field) = of_type field.type ∷ stored_to env field ∷ []
field_wants env _ _ = []

-- ---- methods: the arguments, and below them the object that the method is called on

abbrev pub called_on : MethodUse → List FrameWant → List FrameWant
called_on method receiver = of_types method.arguments ++ receiver

abbrev pub special_receiver : Environment → MethodUse → FrameWant
special_receiver env method = if is_init method.reference.name then wants.Uninitialized else of_type (current_type env)

abbrev pub receiver_of : Environment → Invocation → MethodUse → List FrameWant
receiver_of env invocations.Virtual method = of_type method.owner ∷ []
receiver_of env invocations.Special method = special_receiver env method ∷ []
receiver_of env invocations.Static method = []

abbrev pub invoke_wants : Environment → Invocation → Option MethodUse → List FrameWant
invoke_wants env how None = []
invoke_wants env how (Some method) = called_on method (receiver_of env how method)

abbrev pub interface_wants : Option MethodUse → List FrameWant
interface_wants None = []
interface_wants (Some method) = called_on method (of_type method.owner ∷ [])

-- ---- each instruction

abbrev pub other_wants : Environment → Instruction → List FrameWant
other_wants env (insns.Store kind index form) = of_kind (value_kind kind) ∷ []
other_wants env (insns.StoreLong index form) = of_type types.Long ∷ []
other_wants env (insns.ArrayLoad element) = of_type types.Int ∷ number_array element ∷ []
other_wants env insns.ReferenceArrayLoad = of_type types.Int ∷ wants.ReferenceArray ∷ []
other_wants env (insns.ArrayStore element) = of_type (element_number element) ∷ of_type types.Int ∷ number_array element ∷ []
other_wants env (insns.Stack form) = form_wants form
other_wants env (insns.Branch test distance) = reference_test_wants test
other_wants env (insns.ReturnValue kind) = return_wants env.descriptor.result
other_wants env (insns.Field access index) = field_wants env access (field_named_by env index)
other_wants env (insns.Invoke how index) = invoke_wants env how (method_named_by env index)
other_wants env (insns.InvokeInterface index count) = interface_wants (method_named_by env index)
other_wants env (insns.NewReferenceArray index) = of_type types.Int ∷ []
other_wants env (insns.NewMultiArray index dimensions) = replicate dimensions (of_type types.Int)
other_wants env insns.ArrayLength = wants.Array ∷ []
other_wants env (insns.CheckCast index) = of_type object_class_type ∷ []
other_wants env (insns.InstanceOf index) = of_type object_class_type ∷ []
other_wants env _ = []

abbrev pub wants_by : Option Exchange → List FrameWant → List FrameWant
wants_by None other = other
wants_by (Some exchange) other = of_types exchange.takes

-- of the items of the stack, from the top down
abbrev pub item_wants : Environment → Instruction → List FrameWant
item_wants env insn = wants_by (fixed_exchange insn) (other_wants env insn)

-- of a local variable, by its index; a long is stored in that one and the next
abbrev pub local_want : Instruction → Option (ℕ × FrameWant)
local_want (insns.Load kind index form) = Some (index, of_kind kind)
local_want (insns.Increment index value form) = Some (index, of_type types.Int)
local_want (insns.Store kind index form) = Some (index, wants.Any)
local_want (insns.StoreLong index form) = Some (index + 1, wants.Any)
local_want _ = None
