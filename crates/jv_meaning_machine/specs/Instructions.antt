-- What each instruction does (JVMS 6.5), in a frame, with the memory: an effect, or a fault. Those that take and give values of
-- fixed types go by the verifier's table of them, and the forms of the stack by the verifier's function.
use Rattle.std.specs.Prelude.{ℕ, ◌+◌, ℤ, pos, Bool, true, false, not, List, [], ◌∷◌, Option, Some, None, Ok, Err, nat_eq, nat_le, codes}
use Rattle.std.specs.Int.{w32, int_wrapping_add}
use Rattle.std.specs.Ordering.{int_eq}
use Rattle.jv_text.specs.Name.{is_array_name}
use Rattle.jv_text.specs.declared.descriptor.FieldTypeOf.{FieldTypeOf}
use Rattle.jv_stackmap.specs.Types.{value_type}
use Rattle.jv_code.specs.Insns.{Instruction}
use Rattle.jv_code.specs.declared.insn.Insn.TheVariants as insns
use Rattle.jv_code.specs.declared.kinds.DivisionOperator.{DivisionOperator}
use Rattle.jv_code.specs.declared.kinds.Equality.{Equality}
use Rattle.jv_code.specs.declared.kinds.Equality.TheVariants as equalities
use Rattle.jv_code.specs.declared.kinds.NumberKind.{NumberKind}
use Rattle.jv_code.specs.declared.kinds.StackForm.{StackForm}
use Rattle.jv_code.specs.declared.kinds.Test.{Test}
use Rattle.jv_code.specs.declared.kinds.Test.TheVariants as tests
use Rattle.jv_code.specs.declared.kinds.ValueKind.{ValueKind}
use Rattle.jv_code.specs.declared.kinds.ValueKind.TheVariants as kinds
use Rattle.jv_code.specs.Targets.{target_of}
use Rattle.jv_meaning_world.specs.World.{Loaded}
use Rattle.jv_meaning_typing.specs.Uses.Use.{New, Invokeinterface}
use Rattle.jv_meaning_typing.specs.ClassResolution.{ResolvedClass, resolve_class}
use Rattle.jv_meaning_typing.specs.ClassResolution.ResolvedClass.{ClassOf, ArrayOf}
use Rattle.jv_meaning_typing.specs.Layout.{object_cells}
use Rattle.jv_meaning_typing.specs.FrameChanges.{is_of_kind}
use Rattle.jv_meaning_typing.specs.Named.{class_components}
use Rattle.jv_meaning_typing.specs.NumberRules.{Exchange, fixed_exchange}
use Rattle.jv_meaning_typing.specs.StackForms.{taken_words, passed_words, rearranged}
use Rattle.jv_meaning_typing.specs.ValueRules.{value_kind}
use Rattle.jv_meaning_machine.specs.Faults.{OrFault, found, tested, ◌>>=◌}
use Rattle.jv_meaning_machine.specs.Faults.Fault.{OffsetFault, StackFault, LocalFault, TagFault, ReferenceFault, ReturnFault}
use Rattle.jv_meaning_machine.specs.Values.{Value, value_width, words_of_values, has_kind}
use Rattle.jv_meaning_machine.specs.Values.Value.{Int, Null, Reference}
use Rattle.jv_meaning_machine.specs.Objects.{new_object, is_instance_of}
use Rattle.jv_meaning_machine.specs.Frames.{local_words, local_at, stored}
use Rattle.jv_meaning_machine.specs.State.{Memory}
use Rattle.jv_meaning_machine.specs.Costs.{paid, with_objects, next_object}
use Rattle.jv_meaning_machine.specs.Operands.{object_at, popped, popped_reference, taken, taken_as, taken_reference}
use Rattle.jv_meaning_machine.specs.Effects.{Context, Outcome, world_at, method_at, site_at, goes_on, goes_on_with, raises, unless_error, once_initialized, class_constant, resolved_type, lacks_memory, null_pointer, class_cast, division_by_zero}
use Rattle.jv_meaning_machine.specs.Effects.Effect.{Goes, Leaves, Throws}
use Rattle.jv_meaning_machine.specs.Arithmetic.{number_value, width_of, as_number, as_int, none, one, two, divided, computed, holds, table_distance, key_distance}
use Rattle.jv_meaning_machine.specs.Literals.{push_constant, push_long_constant}
use Rattle.jv_meaning_machine.specs.Fields.{use_field}
use Rattle.jv_meaning_machine.specs.Arrays.{holds_numbers, holds_references, load_component, store_component, store_reference, array_length, make_array, base_of, base_components, new_reference_array, new_multi_array}
use Rattle.jv_meaning_machine.specs.Calls.{call, use_for_call}

-- ---- jumps

abbrev pub jumps : Context → ℤ → List Value → Outcome
jumps c distance stack =
    found OffsetFault (target_of c.frame.offset distance) >>= λ offset. Ok (c.memory, Goes offset c.frame.locals stack)

abbrev pub jumps_if : Context → ℤ → List Value → Bool → Outcome
jumps_if c distance stack true = jumps c distance stack
jumps_if c distance stack false = goes_on c stack

-- ---- instructions of fixed types: their operands are taken, the last of them on top, and can be used

abbrev pub divide : Context → NumberKind → DivisionOperator → ℤ → ℤ → List Value → Bool → Outcome
divide c kind operator a b below true = raises c division_by_zero
divide c kind operator a b below false = goes_on c (number_value kind (divided operator (width_of kind) a b) ∷ below)

abbrev pub division : Context → NumberKind → DivisionOperator → List Value → List Value → Outcome
division c kind operator values below =
    two values >>= λ p. as_number kind p.0 >>= λ a. as_number kind p.1 >>= λ b.
    divide c kind operator a b below (int_eq b (pos 0))

abbrev pub branch_on_ints : Context → Test → ℤ → List Value → List Value → Outcome
branch_on_ints c (tests.IfInt condition) distance values below =
    one values >>= as_int >>= λ a. jumps_if c distance below (holds condition a (pos 0))
branch_on_ints c (tests.IfInts condition) distance values below =
    two values >>= λ p. as_int p.0 >>= λ a. as_int p.1 >>= λ b. jumps_if c distance below (holds condition a b)
branch_on_ints c _ distance values below = Err TagFault

abbrev pub store_in_array : Context → List Value → List Value → Outcome
store_in_array c (array ∷ index ∷ value ∷ []) below = as_int index >>= λ index. store_reference c array index value below
store_in_array c _ below = Err TagFault

-- what is thrown is a Throwable
abbrev pub throw_value : Context → Value → Outcome
throw_value c Null = raises c null_pointer
throw_value c (Reference id) =
    object_at c.memory.objects id >>= λ object.
    tested ReferenceFault (is_instance_of (world_at c) object (class_components (codes "java/lang/Throwable"))) object >>= λ object.
    Ok (c.memory, Throws id)
throw_value c _ = Err TagFault

abbrev pub with_operands : Context → Instruction → List Value → List Value → Outcome
with_operands c insns.Nop values below = none below values >>= goes_on c
with_operands c insns.NullConstant values below = none below values >>= λ below. goes_on c (Null ∷ below)
with_operands c (insns.Compute what) values below = computed what values >>= λ value. goes_on c (value ∷ below)
with_operands c (insns.Division kind operator) values below = division c kind operator values below
with_operands c (insns.Branch test distance) values below = branch_on_ints c test distance values below
with_operands c (insns.Goto distance form) values below = none below values >>= jumps c distance
with_operands c (insns.TableSwitch padding default low high distances) values below =
    one values >>= as_int >>= λ number. jumps c (table_distance default low high distances number) below
with_operands c (insns.LookupSwitch padding default pairs) values below =
    one values >>= as_int >>= λ number. jumps c (key_distance default pairs number) below
with_operands c insns.ReferenceArrayStore values below = store_in_array c values below
with_operands c (insns.NewArray element) values below =
    one values >>= as_int >>= λ count. make_array c (base_components (base_of element)) count below
with_operands c insns.Throw values below = one values >>= throw_value c
with_operands c _ values below = Err TagFault

-- ---- local variables, whose values can be of objects that are not constructed

abbrev pub load : Context → ValueKind → ℕ → Outcome
load c kind index = local_at kind index c.frame.locals >>= λ value. goes_on c (value ∷ c.frame.stack)

abbrev pub goes_on_in : Context → List Value → List Value → Outcome
goes_on_in c stack locals = Ok (c.memory, Goes c.next locals stack)

abbrev pub store : Context → ValueKind → ℕ → Outcome
store c kind index =
    popped c.frame.stack >>= λ top. tested TagFault (has_kind kind top.0) top >>= λ top.
    found LocalFault (stored (local_words top.0) index c.frame.locals) >>= goes_on_in c top.1

abbrev pub increment : Context → ℕ → ℤ → Outcome
increment c index by =
    local_at kinds.Int index c.frame.locals >>= as_int >>= λ number.
    found LocalFault (stored (Int (int_wrapping_add w32 number by) ∷ []) index c.frame.locals) >>= goes_on_in c c.frame.stack

-- ---- forms of the stack, and comparison of references, which take objects that are not constructed too

-- the words that a form takes and passes are there
abbrev pub has_words : StackForm → List Value → Bool
has_words form stack = nat_le (taken_words form + passed_words form) (words_of_values stack)

abbrev pub move_words : Context → StackForm → Outcome
move_words c form =
    tested StackFault (has_words form c.frame.stack) c.frame.stack >>= λ stack.
    found TagFault (rearranged value_width form stack) >>= goes_on c

-- the same object, or both null
abbrev pub is_same : Value → Value → OrFault Bool
is_same Null Null = Ok true
is_same (Reference a) (Reference b) = Ok (nat_eq a b)
is_same Null (Reference b) = Ok false
is_same (Reference a) Null = Ok false
is_same _ _ = Err TagFault

abbrev pub is_met : Equality → Bool → Bool
is_met equalities.Same same = same
is_met equalities.Different same = not same

abbrev pub branch_on_references : Context → Test → ℤ → Outcome
branch_on_references c (tests.IfReferences equality) distance =
    popped_reference c.frame.stack >>= λ second. popped_reference second.1 >>= λ first. is_same first.0 second.0 >>= λ same.
    jumps_if c distance first.1 (is_met equality same)
branch_on_references c (tests.IfNull equality) distance =
    popped_reference c.frame.stack >>= λ top. is_same top.0 Null >>= λ same. jumps_if c distance top.1 (is_met equality same)
branch_on_references c _ distance = Err TagFault

-- ---- returns

abbrev pub return_value : Context → ValueKind → Option (FieldTypeOf (List ℕ)) → Outcome
return_value c kind None = Err ReturnFault
return_value c kind (Some type) =
    tested ReturnFault (is_of_kind kind (value_type type)) type >>= λ type.
    taken_as c.memory.objects (value_type type) c.frame.stack >>= λ top. Ok (c.memory, Leaves (top.0 ∷ []))

abbrev pub return_nothing : Context → Option (FieldTypeOf (List ℕ)) → Outcome
return_nothing c None = Ok (c.memory, Leaves [])
return_nothing c (Some type) = Err ReturnFault

-- ---- new objects: the constant names a class, which is resolved and initialized, and the cells are paid

abbrev pub push_object : Context → Loaded → Option Memory → Outcome
push_object c l None = lacks_memory c
push_object c l (Some memory) =
    goes_on_with c (with_objects (new_object (world_at c) l ∷ []) memory) (Reference (next_object memory) ∷ c.frame.stack)

abbrev pub create : Context → ResolvedClass → Outcome
create c (ClassOf l) = once_initialized c l (push_object c l (paid (object_cells (world_at c) l) c.memory))
create c (ArrayOf type) = Err OffsetFault

abbrev pub new : Context → ℕ → Outcome
new c index =
    class_constant c index >>= λ text. tested OffsetFault (not (is_array_name text)) text >>= λ text.
    unless_error c (resolve_class (world_at c) (site_at c) (Some New) text) (create c)

-- ---- casts and instanceof: of null they are answered without resolution

-- whether an object is an instance of the class or the array that a constant's text names
abbrev pub when_tested : Context → List ℕ → ℕ → (Bool → Outcome) → Outcome
when_tested c text id next =
    object_at c.memory.objects id >>= λ object.
    unless_error c (resolve_class (world_at c) (site_at c) None text) (λ class.
    next (is_instance_of (world_at c) object (resolved_type class)))

abbrev pub cast_if : Context → Bool → Outcome
cast_if c true = goes_on c c.frame.stack
cast_if c false = raises c class_cast

abbrev pub check_cast_of : Context → List ℕ → Value → Outcome
check_cast_of c text Null = goes_on c c.frame.stack
check_cast_of c text (Reference id) = when_tested c text id (cast_if c)
check_cast_of c text _ = Err TagFault

abbrev pub check_cast : Context → ℕ → Outcome
check_cast c index =
    class_constant c index >>= λ text. taken_reference c.memory.objects c.frame.stack >>= λ top. check_cast_of c text top.0

abbrev pub answered : Context → List Value → Bool → Outcome
answered c below true = goes_on c (Int (pos 1) ∷ below)
answered c below false = goes_on c (Int (pos 0) ∷ below)

abbrev pub instance_of_value : Context → List ℕ → Value → List Value → Outcome
instance_of_value c text Null below = answered c below false
instance_of_value c text (Reference id) below = when_tested c text id (answered c below)
instance_of_value c text _ below = Err TagFault

abbrev pub instance_of : Context → ℕ → Outcome
instance_of c index =
    class_constant c index >>= λ text. taken_reference c.memory.objects c.frame.stack >>= λ top.
    instance_of_value c text top.0 top.1

-- ---- all of them

-- an instruction that is not in the table of fixed types
abbrev pub execute_other : Context → Instruction → Outcome
execute_other c (insns.PoolConstant index form) = push_constant c index
execute_other c (insns.PoolLongConstant index) = push_long_constant c index
execute_other c (insns.Load kind index form) = load c kind index
execute_other c (insns.Store kind index form) = store c (value_kind kind) index
execute_other c (insns.StoreLong index form) = store c kinds.Long index
execute_other c (insns.Increment index value form) = increment c index value
execute_other c (insns.ArrayLoad element) = load_component c (holds_numbers element)
execute_other c insns.ReferenceArrayLoad = load_component c holds_references
execute_other c (insns.ArrayStore element) = store_component c element
execute_other c (insns.Stack form) = move_words c form
execute_other c (insns.Branch test distance) = branch_on_references c test distance
execute_other c (insns.ReturnValue kind) = return_value c kind (method_at c).descriptor.result
execute_other c insns.Return = return_nothing c (method_at c).descriptor.result
execute_other c (insns.Field access index) = use_field c access index
execute_other c (insns.Invoke how index) = call c (use_for_call how) index
execute_other c (insns.InvokeInterface index count) = call c Invokeinterface index
execute_other c (insns.New index) = new c index
execute_other c (insns.NewReferenceArray index) = new_reference_array c index
execute_other c (insns.NewMultiArray index dimensions) = new_multi_array c index dimensions
execute_other c insns.ArrayLength = array_length c
execute_other c (insns.CheckCast index) = check_cast c index
execute_other c (insns.InstanceOf index) = instance_of c index
execute_other c _ = Err OffsetFault

abbrev pub execute_by : Context → Instruction → Option Exchange → Outcome
execute_by c insn (Some exchange) =
    taken c.memory.objects exchange.takes c.frame.stack >>= λ operands. with_operands c insn operands.0 operands.1
execute_by c insn None = execute_other c insn

abbrev pub execute : Context → Instruction → Outcome
execute c insn = execute_by c insn (fixed_exchange insn)
