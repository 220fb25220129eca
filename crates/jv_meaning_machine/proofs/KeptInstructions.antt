-- Memory stays over each instruction.
use Rattle.std.proofs.Common.{◌≡◌, ℕ, ℤ, Bool, true, false, not, true≢false, List, [], ◌∷◌, Option, Some, None, Ok, Err, refl, sym, ap, subst, ◌∙◌, slice_get, IsSome, if◌then◌else◌}
use Rattle.std.specs.Option.{ok_or}
use Rattle.jv_text.specs.declared.descriptor.Element.{Element}
use Rattle.jv_text.specs.declared.descriptor.Element.TheVariants as elements
use Rattle.jv_text.specs.declared.descriptor.FieldTypeOf.{FieldTypeOf}
use Rattle.jv_text.specs.Name.{is_array_name}
use Rattle.jv_text.specs.Types.{field_type_of}
use Rattle.jv_code.specs.Insns.{Instruction}
use Rattle.jv_code.specs.declared.insn.Insn.TheVariants as insns
use Rattle.jv_code.specs.declared.kinds.DivisionOperator.{DivisionOperator}
use Rattle.jv_code.specs.declared.kinds.NumberKind.{NumberKind}
use Rattle.jv_code.specs.declared.kinds.StackForm.{StackForm}
use Rattle.jv_code.specs.declared.kinds.Test.{Test}
use Rattle.jv_code.specs.declared.kinds.Test.TheVariants as tests
use Rattle.jv_code.specs.declared.kinds.ValueKind.{ValueKind}
use Rattle.jv_code.specs.declared.kinds.ValueKind.TheVariants as kinds
use Rattle.jv_meaning_world.specs.World.{Loaded, World, class_named, can_name}
use Rattle.jv_meaning_typing.specs.Uses.{Site}
use Rattle.jv_meaning_typing.specs.Uses.Use.{New, Invokeinterface}
use Rattle.jv_meaning_typing.specs.LinkErrors.{LinkError, OrError, provided, unless_wrong, ◌>>=◌}
use Rattle.jv_meaning_typing.specs.LinkErrors.LinkError.{NoClassDefFoundError, IllegalAccessError, InstantiationError}
use Rattle.jv_meaning_typing.specs.ClassResolution.{ResolvedClass, error_of_class, resolve_name, resolve_element, resolve_array, resolve_text, creatable, resolve_class}
use Rattle.jv_meaning_typing.specs.ClassResolution.ResolvedClass.{ClassOf, ArrayOf}
use Rattle.jv_meaning_typing.specs.Layout.{object_cells}
use Rattle.jv_meaning_typing.specs.NumberRules.{Exchange, fixed_exchange}
use Rattle.jv_meaning_typing.specs.ValueRules.{value_kind}
use Rattle.jv_meaning_machine.specs.Faults.Fault.{OffsetFault, TagFault, ReturnFault}
use Rattle.jv_meaning_machine.specs.Values.{Value}
use Rattle.jv_meaning_machine.specs.Values.Value.{Int, Long, Null, Reference, Half, Unset}
use Rattle.jv_meaning_machine.specs.Objects.{Content, Object, value_at, new_object}
use Rattle.jv_meaning_machine.specs.Operands.{taken}
use Rattle.jv_meaning_machine.specs.Laws.Locations.{Location, field_of_object, component_in, held_at}
use Rattle.jv_meaning_machine.specs.Laws.Locations.Location.{FieldOf, ComponentOf, StaticField}
use Rattle.jv_meaning_machine.specs.Laws.Kept.{LeavesAll}
use Rattle.jv_meaning_machine.specs.Laws.Stores.{is_store, OthersLeaveAll, OthersStoreNothing}
use Rattle.jv_meaning_machine.specs.State.{Memory}
use Rattle.jv_meaning_machine.specs.Costs.{paid}
use Rattle.jv_meaning_machine.specs.Effects.{Effect, Context, Outcome, world_at, method_at, site_at, class_constant}
use Rattle.jv_meaning_machine.specs.Arrays.{holds_numbers, holds_references}
use Rattle.jv_meaning_machine.specs.Calls.{use_for_call}
use Rattle.jv_meaning_machine.specs.Instructions.{jumps, jumps_if, divide, division, branch_on_ints, store_in_array, throw_value, with_operands, load, store, increment, move_words, branch_on_references, return_value, return_nothing, push_object, create, new, when_tested, cast_if, check_cast_of, check_cast, answered, instance_of_value, instance_of, execute_other, execute_by, execute}
use Rattle.jv_meaning_machine.proofs.Leading.{also, failing, bound, bound_tested}
use Rattle.jv_meaning_machine.proofs.KeptMemory.{named_itself, new_is_of_class, keeps_joined, by_payment, in_longer}
use Rattle.jv_meaning_machine.proofs.KeptOutcomes.{IsStored, Stored, IsDone, Does, Kept, made_kept, same_kept, unless_kept, unless_kept_as, once_kept, use_field_does, push_constant_kept, push_long_constant_kept, cost_of_object, cost_of_one}
use Rattle.jv_meaning_machine.proofs.KeptArrays.{load_component_kept, store_component_stored, store_reference_stored, array_length_kept, make_array_kept, new_reference_array_kept, new_multi_array_kept}
use Rattle.jv_meaning_machine.proofs.KeptCalls.{call_kept}

-- ---- instructions of fixed types

jumps_kept : (c : Context) (distance : ℤ) (stack : List Value) → Kept c (jumps c distance stack)
jumps_kept c distance stack = search (bound, same_kept)

jumps_if_kept : (c : Context) (distance : ℤ) (stack : List Value) (test : Bool) → Kept c (jumps_if c distance stack test)
jumps_if_kept c distance stack true = jumps_kept c distance stack
jumps_if_kept c distance stack false = same_kept c _ refl

divide_kept :
    (c : Context) (kind : NumberKind) (operator : DivisionOperator) (a b : ℤ) (below : List Value) (by_zero : Bool)
    → Kept c (divide c kind operator a b below by_zero)
divide_kept c kind operator a b below true = same_kept c _ refl
divide_kept c kind operator a b below false = same_kept c _ refl

division_kept :
    (c : Context) (kind : NumberKind) (operator : DivisionOperator) (values below : List Value)
    → Kept c (division c kind operator values below)
division_kept c kind operator values below = search (bound, divide_kept)

branch_on_ints_kept :
    (c : Context) (test : Test) (distance : ℤ) (values below : List Value) → Kept c (branch_on_ints c test distance values below)
branch_on_ints_kept c (tests.IfInt condition) distance values below = search (bound, jumps_if_kept)
branch_on_ints_kept c (tests.IfInts condition) distance values below = search (bound, jumps_if_kept)
branch_on_ints_kept c _ distance values below = failing TagFault

store_in_array_stored : (c : Context) (values below : List Value) → Stored c (store_in_array c values below)
store_in_array_stored c (array ∷ index ∷ value ∷ []) below = search (bound, store_reference_stored)
store_in_array_stored c _ below = failing TagFault

throw_value_kept : (c : Context) (value : Value) → Kept c (throw_value c value)
throw_value_kept c (Int number) = failing TagFault
throw_value_kept c (Long number) = failing TagFault
throw_value_kept c Null = same_kept c _ refl
throw_value_kept c (Reference id) = search (bound, bound_tested, same_kept)
throw_value_kept c Half = failing TagFault
throw_value_kept c Unset = failing TagFault

with_operands_does :
    (c : Context) (insn : Instruction) (values below : List Value) → Does (is_store insn) c (with_operands c insn values below)
with_operands_does c insns.Nop values below = search (bound, same_kept)
with_operands_does c insns.NullConstant values below = search (bound, same_kept)
with_operands_does c (insns.Compute what) values below = search (bound, same_kept)
with_operands_does c (insns.Division kind operator) values below = division_kept c kind operator values below
with_operands_does c (insns.Branch test distance) values below = branch_on_ints_kept c test distance values below
with_operands_does c (insns.Goto distance form) values below = search (bound, jumps_kept)
with_operands_does c (insns.TableSwitch padding default low high distances) values below = search (bound, jumps_kept)
with_operands_does c (insns.LookupSwitch padding default pairs) values below = search (bound, jumps_kept)
with_operands_does c insns.ReferenceArrayStore values below = store_in_array_stored c values below
with_operands_does c (insns.NewArray element) values below = search (bound, make_array_kept)
with_operands_does c insns.Throw values below = search (bound, throw_value_kept)
with_operands_does c _ values below = failing TagFault

-- ---- local variables and the stack

load_kept : (c : Context) (kind : ValueKind) (index : ℕ) → Kept c (load c kind index)
load_kept c kind index = search (bound, same_kept)

store_kept : (c : Context) (kind : ValueKind) (index : ℕ) → Kept c (store c kind index)
store_kept c kind index = search (bound, bound_tested, same_kept)

increment_kept : (c : Context) (index : ℕ) (by : ℤ) → Kept c (increment c index by)
increment_kept c index by = search (bound, same_kept)

move_words_kept : (c : Context) (form : StackForm) → Kept c (move_words c form)
move_words_kept c form = search (bound, bound_tested, same_kept)

branch_on_references_kept : (c : Context) (test : Test) (distance : ℤ) → Kept c (branch_on_references c test distance)
branch_on_references_kept c (tests.IfReferences equality) distance = search (bound, jumps_if_kept)
branch_on_references_kept c (tests.IfNull equality) distance = search (bound, jumps_if_kept)
branch_on_references_kept c _ distance = failing TagFault

-- ---- returns

return_value_kept : (c : Context) (kind : ValueKind) (result : Option (FieldTypeOf (List ℕ))) → Kept c (return_value c kind result)
return_value_kept c kind None = failing ReturnFault
return_value_kept c kind (Some type) = search (bound, bound_tested, same_kept)

return_nothing_kept : (c : Context) (result : Option (FieldTypeOf (List ℕ))) → Kept c (return_nothing c result)
return_nothing_kept c None = same_kept c _ refl
return_nothing_kept c (Some type) = failing ReturnFault

-- ---- new objects

push_object_kept :
    (c : Context) (l : Loaded) → class_named (world_at c) l.class.name ≡ Some l
    → Kept c (push_object c l (paid (object_cells (world_at c) l) c.memory))
push_object_kept c l named =
    by_payment (λ (o : Option Memory). Kept c (push_object c l o)) (object_cells (world_at c) l) c.memory (same_kept c _ refl)
    (λ within.
    made_kept c _ _ refl
    (keeps_joined (object_cells (world_at c) l) (new_object (world_at c) l ∷ []) c.memory within
    (cost_of_one (new_object (world_at c) l) ∙ cost_of_object (world_at c) false l) (new_is_of_class (world_at c) false l named, tt))
    (record { statics = refl; objects = (new_object (world_at c) l ∷ [], refl) }))

-- a class that `new` resolves is found by its own name
provided_gave : {A : Type 0} (test : Bool) (error : LinkError) (a b : A) → provided test error a ≡ Ok b → a ≡ b
provided_gave true error a b e = cc
provided_gave false error a b e = absurd cc

name_is_named :
    (world : World) (current l : Loaded) (name : List ℕ) → resolve_name world current name ≡ Ok l → class_named world l.class.name ≡ Some l
name_is_named world current l name e = by_class (class_named world name) refl e
  where
    by_error :
        (k : Loaded) (o : Option LinkError)
        → ((unless_wrong o k) >>= (λ m. provided (can_name current m) IllegalAccessError m)) ≡ Ok l → k ≡ l
    by_error k None f = provided_gave (can_name current k) IllegalAccessError k l f
    by_error k (Some error) f = absurd cc

    by_class :
        (o : Option Loaded) → class_named world name ≡ o
        → (ok_or o NoClassDefFoundError >>= (λ m. unless_wrong (error_of_class world m) m)
        >>= (λ m. provided (can_name current m) IllegalAccessError m))
        ≡ Ok l
        → class_named world l.class.name ≡ Some l
    by_class None f g = absurd cc
    by_class (Some k) f g =
        let same : k ≡ l = by_error k (error_of_class world k) g in
        named_itself world name l (f ∙ ap (λ (m : Loaded). Some m) same)

text_is_named :
    (world : World) (current l : Loaded) (text : List ℕ) → resolve_text world current text ≡ Ok (ClassOf l)
    → class_named world l.class.name ≡ Some l
text_is_named world current l text e = by_array (is_array_name text) e
  where
    by_element :
        (type : FieldTypeOf (List ℕ)) (element : Element (List ℕ)) → resolve_element world current type element ≡ Ok (ClassOf l)
        → class_named world l.class.name ≡ Some l
    by_element type (elements.Base base) f = absurd cc
    by_element type (elements.Class name) f = by_result (resolve_name world current name) f
      where
        by_result : (o : OrError Loaded) → (o >>= (λ m. Ok (ArrayOf type))) ≡ Ok (ClassOf l) → class_named world l.class.name ≡ Some l
        by_result (Ok k) g = absurd cc
        by_result (Err error) g = absurd cc

    by_type : (o : Option (FieldTypeOf (List ℕ))) → resolve_array world current o ≡ Ok (ClassOf l) → class_named world l.class.name ≡ Some l
    by_type None f = absurd cc
    by_type (Some type) f = by_element type type.element f

    by_name :
        (o : OrError Loaded) → resolve_name world current text ≡ o → (o >>= (λ m. Ok (ClassOf m))) ≡ Ok (ClassOf l)
        → class_named world l.class.name ≡ Some l
    by_name (Ok k) f g =
        let same : k ≡ l = cc in
        name_is_named world current l text (f ∙ ap (λ (m : Loaded). Ok m) same)
    by_name (Err error) f g = absurd cc

    by_array :
        (array : Bool)
        → (if array then resolve_array world current (field_type_of text) else resolve_name world current text >>= (λ m. Ok (ClassOf m)))
        ≡ Ok (ClassOf l)
        → class_named world l.class.name ≡ Some l
    by_array true f = by_type (field_type_of text) f
    by_array false f = by_name (resolve_name world current text) refl f

new_is_named :
    (world : World) (site : Site) (l : Loaded) (text : List ℕ) → resolve_class world site (Some New) text ≡ Ok (ClassOf l)
    → class_named world l.class.name ≡ Some l
new_is_named world site l text e = by_text (resolve_text world site.by text) refl e
  where
    by_text :
        (o : OrError ResolvedClass) → resolve_text world site.by text ≡ o → (o >>= creatable) ≡ Ok (ClassOf l)
        → class_named world l.class.name ≡ Some l
    by_text (Ok (ClassOf k)) f g =
        let same : ClassOf k ≡ ClassOf l = provided_gave _ InstantiationError (ClassOf k) (ClassOf l) g in
        text_is_named world site.by l text (f ∙ ap (λ (r : ResolvedClass). Ok r) same)
    by_text (Ok (ArrayOf type)) f g = absurd cc
    by_text (Err error) f g = absurd cc

create_kept :
    (c : Context) (resolved : ResolvedClass) → ((l : Loaded) → resolved ≡ ClassOf l → class_named (world_at c) l.class.name ≡ Some l)
    → Kept c (create c resolved)
create_kept c (ClassOf l) named = once_kept c l _ (push_object_kept c l (named l refl))
create_kept c (ArrayOf type) named = failing OffsetFault

new_kept : (c : Context) (index : ℕ) → Kept c (new c index)
new_kept c index =
    bound (class_constant c index) _
    (λ text e.
    bound_tested OffsetFault (not (is_array_name text)) text _
    (λ passed.
    unless_kept_as c (resolve_class (world_at c) (site_at c) (Some New) text) (create c)
    (λ resolved f.
    create_kept c resolved
    (λ l g. new_is_named (world_at c) (site_at c) l text (f ∙ ap (λ (r : ResolvedClass). Ok r) g)))))

-- ---- casts and instanceof

when_tested_kept :
    (c :
    Context) (text : List ℕ) (id : ℕ) (next : Bool → Outcome) → ((test : Bool)
    → Kept c (next test)) → Kept c (when_tested c text id next)
when_tested_kept c text id next h = search (bound, unless_kept, h)

cast_if_kept : (c : Context) (test : Bool) → Kept c (cast_if c test)
cast_if_kept c true = same_kept c _ refl
cast_if_kept c false = same_kept c _ refl

check_cast_of_kept : (c : Context) (text : List ℕ) (value : Value) → Kept c (check_cast_of c text value)
check_cast_of_kept c text (Int number) = failing TagFault
check_cast_of_kept c text (Long number) = failing TagFault
check_cast_of_kept c text Null = same_kept c _ refl
check_cast_of_kept c text (Reference id) = when_tested_kept c text id (cast_if c) (cast_if_kept c)
check_cast_of_kept c text Half = failing TagFault
check_cast_of_kept c text Unset = failing TagFault

check_cast_kept : (c : Context) (index : ℕ) → Kept c (check_cast c index)
check_cast_kept c index = search (bound, check_cast_of_kept)

answered_kept : (c : Context) (below : List Value) (test : Bool) → Kept c (answered c below test)
answered_kept c below true = same_kept c _ refl
answered_kept c below false = same_kept c _ refl

instance_of_value_kept : (c : Context) (text : List ℕ) (value : Value) (below : List Value) → Kept c (instance_of_value c text value below)
instance_of_value_kept c text (Int number) below = failing TagFault
instance_of_value_kept c text (Long number) below = failing TagFault
instance_of_value_kept c text Null below = answered_kept c below false
instance_of_value_kept c text (Reference id) below = when_tested_kept c text id (answered c below) (answered_kept c below)
instance_of_value_kept c text Half below = failing TagFault
instance_of_value_kept c text Unset below = failing TagFault

instance_of_kept : (c : Context) (index : ℕ) → Kept c (instance_of c index)
instance_of_kept c index = search (bound, instance_of_value_kept)

-- ---- all of them

execute_other_does : (c : Context) (insn : Instruction) → Does (is_store insn) c (execute_other c insn)
execute_other_does c (insns.PoolConstant index form) = push_constant_kept c index
execute_other_does c (insns.PoolLongConstant index) = push_long_constant_kept c index
execute_other_does c (insns.Load kind index form) = load_kept c kind index
execute_other_does c (insns.Store kind index form) = store_kept c (value_kind kind) index
execute_other_does c (insns.StoreLong index form) = store_kept c kinds.Long index
execute_other_does c (insns.Increment index value form) = increment_kept c index value
execute_other_does c (insns.ArrayLoad element) = load_component_kept c (holds_numbers element)
execute_other_does c insns.ReferenceArrayLoad = load_component_kept c holds_references
execute_other_does c (insns.ArrayStore element) = store_component_stored c element
execute_other_does c (insns.Stack form) = move_words_kept c form
execute_other_does c (insns.Branch test distance) = branch_on_references_kept c test distance
execute_other_does c (insns.ReturnValue kind) = return_value_kept c kind (method_at c).descriptor.result
execute_other_does c insns.Return = return_nothing_kept c (method_at c).descriptor.result
execute_other_does c (insns.Field access index) = use_field_does c access index
execute_other_does c (insns.Invoke how index) = call_kept c (use_for_call how) index
execute_other_does c (insns.InvokeInterface index count) = call_kept c Invokeinterface index
execute_other_does c (insns.New index) = new_kept c index
execute_other_does c (insns.NewReferenceArray index) = new_reference_array_kept c index
execute_other_does c (insns.NewMultiArray index dimensions) = new_multi_array_kept c index dimensions
execute_other_does c insns.ArrayLength = array_length_kept c
execute_other_does c (insns.CheckCast index) = check_cast_kept c index
execute_other_does c (insns.InstanceOf index) = instance_of_kept c index
execute_other_does c _ = failing OffsetFault

execute_by_does : (c : Context) (insn : Instruction) (exchange : Option Exchange) → Does (is_store insn) c (execute_by c insn exchange)
execute_by_does c insn (Some exchange) =
    bound (taken c.memory.objects exchange.takes c.frame.stack) (λ operands. with_operands c insn operands.0 operands.1)
    (λ operands e. with_operands_does c insn operands.0 operands.1)
execute_by_does c insn None = execute_other_does c insn

pub execute_does : (c : Context) (insn : Instruction) → Does (is_store insn) c (execute c insn)
execute_does c insn = execute_by_does c insn (fixed_exchange insn)

-- ---- what every instruction keeps, and what all but stores leave

stored_too : (stores : Bool) (c : Context) (made : Memory × Effect) → IsDone stores c made → IsStored c made
stored_too true c made h = h
stored_too false c made h = record { keeps = h.keeps; may = h.may }

pub execute_stored : (c : Context) (insn : Instruction) → Stored c (execute c insn)
execute_stored c insn = also (IsStored c) (execute c insn) (stored_too (is_store insn) c) (execute_does c insn)

pub others_leave_all : OthersLeaveAll
others_leave_all c insn after effect other e =
    (subst (λ (stores : Bool). IsDone stores c (after, effect)) other ((execute_does c insn).at (after, effect) e)).leaves

none_has : (o : Option Value) → o ≡ None → IsSome o → ⊥
none_has None e h = absurd (true≢false (sym h))
none_has (Some value) e h = absurd cc

pub others_store_nothing : OthersStoreNothing
others_store_nothing c insn after effect other e = by_location
  where
    left : LeavesAll c.memory after
    left = others_leave_all c insn after effect other e

    found_in :
        (f : Option Object → Option Value) → f None ≡ None → (number : ℕ) → IsSome (f (slice_get c.memory.objects number))
        → f (slice_get after.objects number) ≡ f (slice_get c.memory.objects number)
    found_in f nothing number some = by_object (slice_get c.memory.objects number) refl some
      where
        by_object :
            (o : Option Object) → slice_get c.memory.objects number ≡ o → IsSome (f o) → f (slice_get after.objects number) ≡ f o
        by_object None g has = absurd (none_has (f None) nothing has)
        by_object (Some object) g has =
            ap f (ap (λ (l : List Object). slice_get l number) left.objects.1 ∙ in_longer c.memory.objects left.objects.0 number object g)

    by_location : (location : Location) → IsSome (held_at c.memory location) → held_at after location ≡ held_at c.memory location
    by_location (FieldOf object key) some = found_in (field_of_object key) refl object some
    by_location (ComponentOf array place) some = found_in (component_in place) refl array some
    by_location (StaticField key) some = ap (λ (content : Content). value_at key content) left.statics
