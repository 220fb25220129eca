-- Memory stays over an instruction that calls a method.
use Rattle.std.proofs.Common.{◌≡◌, ℕ, ◌==◌, ℤ, Bool, true, false, not, ◌&&◌, true≢false, List, [], ◌∷◌, Ok, refl, sym, if◌then◌else◌}
use Rattle.jv_text.specs.Descriptor.{MethodDescriptor}
use Rattle.jv_meaning_typing.specs.Uses.{Use}
use Rattle.jv_meaning_typing.specs.Uses.Use.{Invokestatic, Invokespecial}
use Rattle.jv_meaning_typing.specs.MethodResolution.{MethodTarget}
use Rattle.jv_meaning_machine.specs.Faults.{◌>>=◌}
use Rattle.jv_meaning_machine.specs.Faults.Fault.{TagFault}
use Rattle.jv_meaning_machine.specs.Values.{Value}
use Rattle.jv_meaning_machine.specs.Values.Value.{Int, Long, Null, Reference, Half, Unset}
use Rattle.jv_meaning_machine.specs.Objects.{Object, Instance}
use Rattle.jv_meaning_machine.specs.Operands.{object_at}
use Rattle.jv_meaning_machine.specs.Effects.{Context, world_at, goes_on, goes_on_with, lacks_memory}
use Rattle.jv_meaning_machine.specs.Effects.Effect.{Constructs}
use Rattle.jv_meaning_machine.specs.Fields.{instance_in}
use Rattle.jv_meaning_machine.specs.Calls.{HostMethod, with_byte_written, write, read, name_of, byte_in, class_name, array_like, run_built_in, run_static, call_static, run_on, call_on, can_enter, construct, call_special, call_with, call_instance, call_target, call}
use Rattle.jv_meaning_machine.specs.Calls.HostMethod.{Read, Write, ClassName, ArrayLike}
use Rattle.jv_meaning_machine.proofs.Leading.{leaf, failing, bound, bound_tested}
use Rattle.jv_meaning_machine.proofs.KeptArrays.{make_array_kept}
use Rattle.jv_meaning_machine.proofs.KeptMemory.{begins_same, keeps_same, keeps_written, keeps_read, with_input}
use Rattle.jv_meaning_machine.proofs.KeptOutcomes.{IsKept, leaves_same, instance_stands, Kept, made_kept, same_kept, unless_kept, once_kept}

-- ---- host/Io

write_kept : (c : Context) (number : ℤ) (below : List Value) → Kept c (write c number below)
write_kept c number below = by_test (c.memory.output_left == 0) refl
  where
    by_test :
        (test : Bool) → (c.memory.output_left == 0) ≡ test
        → Kept c (if test then lacks_memory c else goes_on_with c (with_byte_written number c.memory) below)
    by_test true e = same_kept c _ refl
    by_test false e =
        made_kept c _ _ refl (keeps_written number c.memory e) (record { statics = refl; objects = begins_same c.memory.objects })

read_kept : (c : Context) (below : List Value) (input : List ℕ) → c.memory.input ≡ input → Kept c (read c below input)
read_kept c below [] e = same_kept c _ refl
read_kept c below (byte ∷ more) e =
    made_kept c (with_input more c.memory) _ refl (keeps_read byte more c.memory e)
    (record { statics = refl; objects = begins_same c.memory.objects })

class_name_kept : (c : Context) (place : ℤ) (below : List Value) (value : Value) → Kept c (class_name c place below value)
class_name_kept c place below (Int number) = failing TagFault
class_name_kept c place below (Long number) = failing TagFault
class_name_kept c place below Null = same_kept c _ refl
class_name_kept c place below (Reference id) =
    let known : (object : Object) → Kept c (goes_on c (Int (byte_in (name_of object) place) ∷ below)) = λ object. same_kept c _ refl in
    search (bound, known)
class_name_kept c place below Half = failing TagFault
class_name_kept c place below Unset = failing TagFault

array_like_kept : (c : Context) (count : ℤ) (below : List Value) (value : Value) → Kept c (array_like c count below value)
array_like_kept c count below (Int number) = failing TagFault
array_like_kept c count below (Long number) = failing TagFault
array_like_kept c count below Null = same_kept c _ refl
array_like_kept c count below (Reference id) = search (bound, bound_tested, make_array_kept)
array_like_kept c count below Half = failing TagFault
array_like_kept c count below Unset = failing TagFault

run_built_in_kept : (c : Context) (method : HostMethod) (arguments below : List Value) → Kept c (run_built_in c method arguments below)
run_built_in_kept c Read arguments below =
    let h : (left : List Value) → Kept c (read c left c.memory.input) = λ left. read_kept c left c.memory.input refl in
    search (bound, h)
run_built_in_kept c Write arguments below = search (bound, write_kept)
run_built_in_kept c ClassName arguments below = search (bound, class_name_kept)
run_built_in_kept c ArrayLike arguments below = search (bound, array_like_kept)

-- ---- static methods

run_static_kept :
    (c : Context) (arguments below : List Value) (t : MethodTarget) (built_in : Bool) → Kept c (run_static c arguments below t built_in)
run_static_kept c arguments below t true = run_built_in_kept c _ arguments below
run_static_kept c arguments below t false = same_kept c _ refl

call_static_kept : (c : Context) (descriptor : MethodDescriptor) (t : MethodTarget) → Kept c (call_static c descriptor t)
call_static_kept c descriptor t = search (bound, run_static_kept)

-- ---- methods of an object

run_on_kept :
    (c : Context) (id : ℕ) (object : Object) (arguments below : List Value) (t : MethodTarget)
    → Kept c (run_on c id object arguments below t)
run_on_kept c id object arguments below t = search (bound_tested, same_kept)

call_on_kept :
    (c : Context) (how : Use) (t : MethodTarget) (arguments : List Value) (receiver : Value) (below : List Value)
    → Kept c (call_on c how t arguments receiver below)
call_on_kept c how t arguments (Int number) below = failing TagFault
call_on_kept c how t arguments (Long number) below = failing TagFault
call_on_kept c how t arguments Null below = same_kept c _ refl
call_on_kept c how t arguments (Reference id) below = search (bound, bound_tested, unless_kept, run_on_kept)
call_on_kept c how t arguments Half below = failing TagFault
call_on_kept c how t arguments Unset below = failing TagFault

not_constructed : (constructed test : Bool) → (not constructed && test) ≡ true → constructed ≡ false
not_constructed false test e = refl
not_constructed true test e = absurd (true≢false (sym e))

construct_kept :
    (c : Context) (t : MethodTarget) (arguments : List Value) (receiver : Value) (below : List Value)
    → Kept c (construct c t arguments receiver below)
construct_kept c t arguments (Int number) below = failing TagFault
construct_kept c t arguments (Long number) below = failing TagFault
construct_kept c t arguments Null below = same_kept c _ refl
construct_kept c t arguments (Reference id) below =
    let known :
    (instance : Instance) → (object_at c.memory.objects id >>= instance_in) ≡ Ok instance
    → can_enter (world_at c) instance t.declared.by.class.name ≡ true → (t : MethodTarget)
    → Kept c (Ok (c.memory, Constructs t.declared id instance arguments below)) =
    λ instance e f t.
    leaf (IsKept c) (c.memory, Constructs t.declared id instance arguments below)
    (record {
      keeps = keeps_same c.memory;
      may = (instance_stands c.memory.objects id instance e, not_constructed instance.constructed _ f);
      leaves = leaves_same c.memory;
    }) in
    search (bound, bound_tested, unless_kept, known)
construct_kept c t arguments Half below = failing TagFault
construct_kept c t arguments Unset below = failing TagFault

call_special_kept :
    (c : Context) (t : MethodTarget) (arguments : List Value) (receiver : Value) (below : List Value) (is_init : Bool)
    → Kept c (call_special c t arguments receiver below is_init)
call_special_kept c t arguments receiver below true = construct_kept c t arguments receiver below
call_special_kept c t arguments receiver below false = call_on_kept c Invokespecial t arguments receiver below

call_with_kept :
    (c : Context) (how : Use) (t : MethodTarget) (arguments : List Value) (receiver : Value) (below : List Value)
    → Kept c (call_with c how t arguments receiver below)
call_with_kept c Invokespecial t arguments receiver below = call_special_kept c t arguments receiver below _
call_with_kept c how t arguments receiver below = call_on_kept c how t arguments receiver below

call_instance_kept :
    (c : Context) (how : Use) (descriptor : MethodDescriptor) (t : MethodTarget) → Kept c (call_instance c how descriptor t)
call_instance_kept c how descriptor t = search (bound, call_with_kept)

-- ---- all of them

call_target_kept : (c : Context) (how : Use) (descriptor : MethodDescriptor) (t : MethodTarget) → Kept c (call_target c how descriptor t)
call_target_kept c Invokestatic descriptor t = once_kept c t.declared.by _ (call_static_kept c descriptor t)
call_target_kept c how descriptor t = call_instance_kept c how descriptor t

pub call_kept : (c : Context) (how : Use) (index : ℕ) → Kept c (call c how index)
call_kept c how index = search (bound, unless_kept, call_target_kept)
