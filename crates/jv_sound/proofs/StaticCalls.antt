-- invokestatic (JVMS 6.5), and the methods that are built in (own).
use Rattle.std.proofs.Common.{◌≡◌, ℕ, suc, ℤ, Bool, true, false, not, ◌==◌, List, [], ◌∷◌, ◌++◌, map, Some, None, refl, sym, ap, subst, ◌∙◌}
use Rattle.std.specs.Prelude.{⊤, IsSome, slice_get, if◌then◌else◌}
use Rattle.jv_format.specs.Format as rules_format
use Rattle.jv_text.specs.Descriptor.{MethodDescriptor}
use Rattle.jv_text.specs.Name.{is_init}
use Rattle.jv_text.specs.Types.{method_type_of}
use Rattle.jv_class.specs.Rules.{is_clinit}
use Rattle.jv_stackmap.specs.declared.verification.VerificationTypeOf.TheVariants as types
use Rattle.jv_stackmap.specs.Types.{FrameType, value_type}
use Rattle.jv_code.specs.declared.insn.Insn.TheVariants as insns
use Rattle.jv_code.specs.declared.kinds.Invocation.TheVariants as invocations
use Rattle.jv_code.specs.Insns.{Instruction}
use Rattle.jv_class.specs.Class.{method_named}
use Rattle.jv_meaning_world.specs.World.{class_named}
use Rattle.jv_meaning_world.specs.Overriding.{Declared}
use Rattle.jv_meaning_world.proofs.Up.{named_stands}
use Rattle.jv_meaning_typing.specs.Uses.Use.{Invokestatic}
use Rattle.jv_meaning_typing.specs.Kind.{is_static_method}
use Rattle.jv_meaning_typing.specs.LinkingLaws.{IsCalled}
use Rattle.jv_meaning_typing.specs.Operands.{MethodReference, method_operand}
use Rattle.jv_meaning_typing.specs.MethodResolution.{MethodTarget}
use Rattle.jv_meaning_typing.specs.Environment.{current_class}
use Rattle.jv_meaning_typing.specs.FrameChanges.{with_stack, exchanged}
use Rattle.jv_meaning_typing.specs.MemberRules.{has_plain_name, invoke_static, goes_with_version}
use Rattle.jv_meaning_typing.specs.Named.{MethodUse, method_use, result_types, when}
use Rattle.jv_meaning_machine.specs.Faults.{◌>>=◌}
use Rattle.jv_meaning_machine.specs.Faults.Fault.{ReferenceFault}
use Rattle.jv_meaning_machine.specs.Values.{Value}
use Rattle.jv_meaning_machine.specs.Values.Value.{Null, Reference}
use Rattle.jv_meaning_machine.specs.Objects.Object.{ArrayWith}
use Rattle.jv_meaning_machine.specs.Arrays.{Components, holds_references, make_array}
use Rattle.jv_meaning_machine.specs.Effects.{null_pointer}
use Rattle.jv_meaning_machine.specs.State.{Memory, class_state, is_ready}
use Rattle.jv_meaning_machine.specs.Calls.{HostMethod, is_built_in, host_method, run_built_in, run_static, call_static, write, read, with_byte_written, class_name, array_like}
use Rattle.jv_meaning_machine.specs.Calls.HostMethod.{Read, Write, ClassName, ArrayLike}
use Rattle.jv_sound.specs.Values.{Zip, Fits, HasStack}
use Rattle.jv_sound.specs.Memory.{IsTypedMemory}
use Rattle.jv_sound.specs.Sound.{AreSorts, IsResultSort}
use Rattle.jv_sound.specs.Calls.{of_object, of_objects, host_type, IsHostMethod}
use Rattle.jv_sound.proofs.Logic.{clash, then2, then_holds, found_holds, tested_holds}
use Rattle.jv_sound.proofs.Heaps.{same}
use Rattle.jv_sound.proofs.Taking.{and_parts, taken_all}
use Rattle.jv_sound.proofs.ArrayLoads.{array_at}
use Rattle.jv_sound.proofs.ArrayTypes.{array_value, reference_components}
use Rattle.jv_sound.proofs.NewArrays.{makes_below}
use Rattle.jv_sound.proofs.Pure.{agrees_from, one_ok, two_ok, none_ok, int_ok}
use Rattle.jv_sound.proofs.ResolvedTypes.{same_option}
use Rattle.jv_sound.proofs.Handlers.{once_any, raises_any, lacks_any, enters_ok, sorts_mapped}
use Rattle.jv_sound.proofs.MethodUses.{called_there, called_declared, calling, target_ok, method_ok, asked}
use Rattle.jv_sound.proofs.Ways.{Setting, IsSet, world_of, program_of, memory_of, context_of, here, Does, By, Sound, goes_ok, goes_with_ok}

pub plain_name : (method : MethodUse) → has_plain_name method ≡ true → is_init method.reference.name ≡ false
plain_name method e = not_true (is_init method.reference.name) (and_parts (not (is_init method.reference.name))
    (not (is_clinit method.reference.name)) e).0
  where
    not_true : (b : Bool) → not b ≡ true → b ≡ false
    not_true false k = refl
    not_true true k = absurd (clash k)

module _ (x : Setting) (h : IsSet x) (index : ℕ)
    (sorts : (reference : MethodReference) (d : MethodDescriptor) → method_operand (current_class x.frame.method) index ≡ Some reference
    → method_type_of reference.member.descriptor ≡ Some d → AreSorts d.parameters × IsResultSort d.result)
    -- a static method has code, host/Io's aside
    (static_have_code : (d : Declared) → class_named (world_of x) d.by.class.name ≡ Some d.by
    → method_named d.by.class d.method.name d.method.descriptor ≡ Some d.method → is_static_method d.method ≡ true
    → is_built_in d ≡ false → IsSome d.method.code)
    (built_in : (d : Declared) → class_named (world_of x) d.by.class.name ≡ Some d.by
    → method_named d.by.class d.method.name d.method.descriptor ≡ Some d.method → is_built_in d ≡ true → IsHostMethod d) where
  abbrev insn : Instruction
  insn = insns.Invoke invocations.Static index

  typed_again : (memory : Memory) → IsTypedMemory (program_of x) memory → (output input : List ℕ) (left : ℕ)
      → IsTypedMemory (program_of x) (record memory { output = output; input = input; output_left = left })
  typed_again memory t output input left = record {
    objects = t.objects;
    statics = t.statics;
    statics_there = t.statics_there;
    literals =
        t.literals;
    no_memory = t.no_memory;
    arguments = t.arguments;
  }

  writes : (S : List FrameType) (s : List Value) (number : ℤ) → HasStack (here x) S s
      → Does x insn (with_stack x.given S) (write (context_of x insn) number s)
  writes S s number hs = by_left (x.rest.output_left == 0)
    where
      by_left : (b : Bool) → Does x insn (with_stack x.given S) (if b then
          Rattle.jv_meaning_machine.specs.Effects.lacks_memory
          (context_of x insn) else Rattle.jv_meaning_machine.specs.Effects.goes_on_with (context_of x insn)
          (with_byte_written number (memory_of x)) s)
      by_left true = lacks_any x h insn (with_stack x.given S)
      by_left false = goes_with_ok x h insn S s x.heap (with_byte_written number (memory_of x)) refl (same (suc x.depth) x.heap) refl
          (typed_again (memory_of x) h.typed _ _ _) hs

  reads : (S : List FrameType) (s : List Value) → HasStack (here x) S s → (input : List ℕ)
      → Does x insn (with_stack x.given (types.Int ∷ S)) (read (context_of x insn) s input)
  reads S s hs [] = goes_ok x h insn (types.Int ∷ S) _ refl (record { fits = tt; width = refl }, hs)
  reads S s hs (byte ∷ more) =
      goes_with_ok x h insn (types.Int ∷ S) _ x.heap (record (memory_of x) { input = more }) refl (same (suc x.depth) x.heap) refl
      (typed_again (memory_of x) h.typed _ more _) (record { fits = tt; width = refl }, hs)

  names : (S : List FrameType) (s : List Value) (place : ℤ) (v : Value) → Fits (world_of x) x.heap.objects (value_type of_object) v
      → HasStack (here x) S s → Does x insn (with_stack x.given (types.Int ∷ S)) (class_name (context_of x insn) place s v)
  names S s place Null f hs = raises_any x h insn (with_stack x.given (types.Int ∷ S)) null_pointer refl
  names S s place (Reference id) f hs =
      then_holds (found_holds {P = λ o. ⊤} ReferenceFault (slice_get x.heap.objects id) f.object f.there tt) (λ object _.
      goes_ok x h insn (types.Int ∷ S) _ refl (record { fits = tt; width = refl }, hs))
  names S s place _ f hs = absurd f

  likes : (S : List FrameType) (s : List Value) (count : ℤ) (v : Value) → Fits (world_of x) x.heap.objects (value_type of_objects) v
      → HasStack (here x) S s → Does x insn (with_stack x.given (value_type of_objects ∷ S)) (array_like (context_of x insn) count s v)
  likes S s count Null f hs = raises_any x h insn (with_stack x.given (value_type of_objects ∷ S)) null_pointer refl
  likes S s count (Reference id) f hs =
      let a = array_value (world_of x) x.heap.objects of_object (Reference id) f in
      then_holds (array_at x.heap.objects id a.0 a.1 a.2) (λ array same_array.
      then_holds (tested_holds {P = λ (b : Components). b ≡ (a.0, a.1)} ReferenceFault (holds_references array.0) array
      (ap (λ (b : Components). holds_references b.0) same_array ∙ (reference_components (world_of x) of_object a.0 refl a.3).0) same_array)
      (λ array same_again.
      subst (λ (b : Components). Does x insn (with_stack x.given (value_type of_objects ∷ S)) (make_array (context_of x insn) b.0 count s))
      (sym same_again)
      (makes_below x h insn a.0 of_object count S s refl refl (h.typed.objects.each id (ArrayWith a.0 a.1) a.2).loadable a.3 hs)))
  likes S s count _ f hs = absurd f

  runs_method : (method : HostMethod) (S : List FrameType) (arguments s : List Value)
      → Zip (Fits (world_of x) x.heap.objects) (map value_type (host_type method).parameters) arguments → HasStack (here x) S s
      → Does x insn (with_stack x.given (result_types (host_type method).result ++ S)) (run_built_in (context_of x insn) method arguments s)
  runs_method Read S arguments s f hs =
      then_holds (none_ok {P = λ b. HasStack (here x) S b} (Fits (world_of x) x.heap.objects) s arguments f hs)
      (λ b hb. reads S b hb x.rest.input)
  runs_method Write S arguments s f hs =
      then_holds (then_holds (one_ok (Fits (world_of x) x.heap.objects) types.Int arguments f) (λ v g. int_ok v g))
      (λ number _. writes S s number hs)
  runs_method ClassName S arguments s f hs =
      then_holds (two_ok (Fits (world_of x) x.heap.objects) (value_type of_object) types.Int arguments f) (λ both g.
      then_holds (int_ok both.1 g.1) (λ place _. names S s place both.0 g.0 hs))
  runs_method ArrayLike S arguments s f hs =
      then_holds (two_ok (Fits (world_of x) x.heap.objects) (value_type of_objects) types.Int arguments f) (λ both g.
      then_holds (int_ok both.1 g.1) (λ count _. likes S s count both.0 g.0 hs))

  runs_built_in : (d : Declared) (descriptor : MethodDescriptor) (S : List FrameType) (arguments s : List Value) → IsHostMethod d
      → method_type_of d.method.descriptor ≡ Some descriptor
      → Zip (Fits (world_of x) x.heap.objects) (map value_type descriptor.parameters) arguments → HasStack (here x) S s
      → Does x insn (with_stack x.given (result_types descriptor.result ++ S))
      (run_built_in (context_of x insn) (host_method d.method.name) arguments s)
  runs_built_in d descriptor S arguments s w e f hs =
      let method = host_method d.method.name in
      let is : host_type method ≡ descriptor = same_option (host_type method) descriptor (sym w ∙ e) in
      subst (λ (c : MethodDescriptor). Does x insn (with_stack x.given (result_types c.result ++ S))
      (run_built_in (context_of x insn) method arguments s)) is
      (runs_method method S arguments s
      (subst (λ (c : MethodDescriptor). Zip (Fits (world_of x) x.heap.objects) (map value_type c.parameters) arguments) (sym is) f) hs)

  -- ---- the instruction

  pub invoke_static_ok : Sound x insn
  invoke_static_ok =
      method_ok x h insn Invokestatic index
      (λ method. rules_format.◌>>=◌ (when (goes_with_version x.frame.method method) method) (λ method. invoke_static x.frame.method method x.given))
      (λ reference owner descriptor operand can type described.
      asked x h insn Invokestatic (goes_with_version x.frame.method (method_use reference owner descriptor))
      (method_use reference owner descriptor) (λ method. invoke_static x.frame.method method x.given) (calling x h insn Invokestatic reference)
      (λ goes. by_name reference owner descriptor goes operand described (has_plain_name (method_use reference owner descriptor)) refl))
    where
      runs : (t : MethodTarget) (descriptor : MethodDescriptor) → class_named (world_of x) t.declared.by.class.name ≡ Some t.declared.by
          → method_named t.declared.by.class t.declared.method.name t.declared.method.descriptor ≡ Some t.declared.method
          → is_static_method t.declared.method ≡ true → is_init t.declared.method.name ≡ false
          → method_type_of t.declared.method.descriptor ≡ Some descriptor → is_ready (class_state x.states t.declared.by) ≡ true
          → IsResultSort descriptor.result
          → (S : List FrameType) (arguments s : List Value) → Zip (Fits (world_of x) x.heap.objects)
          (map value_type descriptor.parameters) arguments → HasStack (here x) S s → (b : Bool) → is_built_in t.declared ≡ b
          → Does x insn (with_stack x.given (result_types descriptor.result ++ S)) (run_static (context_of x insn) arguments s t b)
      runs t descriptor there declared static plain described under_way sort S arguments s f hs true e = runs_built_in t.declared descriptor
          S arguments s (built_in t.declared there declared e) described f hs
      runs t descriptor there declared static plain described under_way sort S arguments s f hs false e =
          enters_ok x h insn descriptor t.declared None arguments S s
          (record {
            here = there;
            declared = declared;
            verified = h.verified t.declared.by (named_stands (world_of x) t.declared.by.class.name t.declared.by there) under_way;
            code = static_have_code t.declared there declared static e;
          }) refl plain static described f sort hs

      by_target : (reference : MethodReference) (descriptor : MethodDescriptor)
          → method_operand (current_class x.frame.method) index ≡ Some reference → is_init reference.member.name ≡ false
          → method_type_of reference.member.descriptor ≡ Some descriptor
          → (t : MethodTarget) → IsCalled (world_of x) x.frame.method.site Invokestatic reference t
          → By x insn (exchanged (world_of x) (map value_type descriptor.parameters) (result_types descriptor.result) x.given)
          (Rattle.jv_meaning_machine.specs.Effects.once_initialized (context_of x insn) t.declared.by
          (call_static (context_of x insn) descriptor t))
      by_target reference descriptor operand plain described t called =
          let there = called_there (world_of x) h.alone x.frame.method.site Invokestatic reference t called in
          let sort = sorts reference descriptor operand described in
          once_any x h insn _ t.declared.by _ (named_stands (world_of x) t.declared.by.class.name t.declared.by there) (λ under_way.
          then2 (taken_all (here x) h.rooted h.loadable (map value_type descriptor.parameters) x.given.stack x.frame.stack
          (sorts_mapped descriptor.parameters sort.0) h.holding.stack) (λ S arguments f.
          agrees_from (runs t descriptor there (called_declared (world_of x) x.frame.method.site Invokestatic reference t called)
          called.kind (ap is_init called.name ∙ plain) (ap method_type_of called.descriptor ∙ described) under_way sort.1
          S arguments.0 arguments.1 f.0 f.1 (is_built_in t.declared) refl)))

      by_name : (reference : MethodReference) (owner : FrameType) (descriptor : MethodDescriptor)
          → goes_with_version x.frame.method (method_use reference owner descriptor) ≡ true → method_operand (current_class x.frame.method) index ≡ Some reference
          → method_type_of reference.member.descriptor ≡ Some descriptor
          → (b : Bool) → has_plain_name (method_use reference owner descriptor) ≡ b
          → By x insn (if b then exchanged (world_of x) (map value_type descriptor.parameters)
          (result_types descriptor.result) x.given else None) (calling x h insn Invokestatic reference)
      by_name reference owner descriptor goes operand described false e = record { by = tt }
      by_name reference owner descriptor goes operand described true e =
          target_ok x h insn Invokestatic _ reference descriptor goes described
          (λ t called. by_target reference descriptor operand (plain_name (method_use reference owner descriptor) e) described t called)
