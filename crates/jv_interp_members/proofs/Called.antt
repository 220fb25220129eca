-- What a call does in the machine, as far as its method.
use Rattle.std.proofs.Common.{◌≡◌, ℕ, true, List, ◌∷◌, ◌++◌, length, map, reverse, Some, Ok, Err, ap, subst, ◌∙◌}
use Rattle.std.specs.List.{flat_map}
use Rattle.jv_text.specs.Descriptor.{MethodDescriptor, slots}
use Rattle.jv_text.specs.Types.{method_type_of}
use Rattle.jv_stackmap.specs.Types.{value_type}
use Rattle.jv_meaning_typing.specs.Uses.{Use}
use Rattle.jv_meaning_typing.specs.LinkErrors.{LinkError, OrError, error_class}
use Rattle.jv_meaning_typing.specs.Operands.{MethodReference, method_operand}
use Rattle.jv_meaning_typing.specs.MethodResolution.{MethodTarget, resolve_method}
use Rattle.jv_meaning_typing.specs.Environment.{current_class}
use Rattle.jv_meaning_typing.specs.Named.{object_class_type}
use Rattle.jv_meaning_machine.specs.Faults.{found, tested, ◌>>=◌}
use Rattle.jv_meaning_machine.specs.Faults.Fault.{OffsetFault, TagFault}
use Rattle.jv_meaning_machine.specs.Values.{Value, is_reference_value, has_type}
use Rattle.jv_meaning_machine.specs.Frames.{local_words}
use Rattle.jv_meaning_machine.specs.State.{Memory}
use Rattle.jv_meaning_machine.specs.Operands.{popped, popped_reference, taken}
use Rattle.jv_meaning_machine.specs.Effects.{Effect, Context, Outcome, world_at, method_at, site_at, unless_error}
use Rattle.jv_meaning_machine.specs.Effects.Effect.{Raises}
use Rattle.jv_meaning_machine.specs.Calls.{call, call_target, call_instance, call_with, is_constant_for}
use Rattle.jv_interp_words.proofs.Gave.{bound_gave, found_gave, tested_gave}
use Rattle.jv_interp_words.proofs.Taken.{all_taken, popped_as_gave}
use Rattle.jv_interp_members.proofs.Widths.{all_width}
use Rattle.jv_interp_held.proofs.Entered.{done_same}

-- ---- errors of linking

pub unless_raised :
    {A : Type 0} (c : Context) (o : OrError A) (next : A → Outcome) (error : LinkError) (done : Memory × Effect) → o ≡ Err error
    → unless_error c o next ≡ Ok done → done ≡ (c.memory, Raises (error_class error))
unless_raised {A = A} c o next error done is e =
    done_same (c.memory, Raises (error_class error)) done (subst (λ (x : OrError A). unless_error c x next ≡ Ok done) is e)

pub unless_next :
    {A : Type 0} (c : Context) (o : OrError A) (next : A → Outcome) (a : A) (done : Memory × Effect) → o ≡ Ok a
    → unless_error c o next ≡ Ok done → next a ≡ Ok done
unless_next {A = A} c o next a done is e = subst (λ (x : OrError A). unless_error c x next ≡ Ok done) is e

-- ---- the constant

pub record Called (c : Context) (how : Use) (index : ℕ) (done : Memory × Effect) : Type 0 where
  pub reference : MethodReference
  pub operand : method_operand (current_class (method_at c)) index ≡ Some reference
  pub descriptor : MethodDescriptor
  pub described : method_type_of reference.member.descriptor ≡ Some descriptor
  pub does : unless_error c (resolve_method (world_at c) (site_at c) how reference) (call_target c how descriptor) ≡ Ok done

pub called : (c : Context) (how : Use) (index : ℕ) (done : Memory × Effect) → call c how index ≡ Ok done → Called c how index done
called c how index done e =
    let class = current_class (method_at c) in
    let operand =
    bound_gave (found OffsetFault (method_operand (current_class (method_at c)) index))
    (λ (r : MethodReference).
    tested OffsetFault (is_constant_for (current_class (method_at c)) how r) r >>= λ r.
    found OffsetFault (method_type_of r.member.descriptor) >>= λ d.
    unless_error c (resolve_method (world_at c) (site_at c) how r) (call_target c how d)) done e in
    let constant =
    bound_gave (tested OffsetFault (is_constant_for (current_class (method_at c)) how operand.0) operand.0)
    (λ (r : MethodReference).
    found OffsetFault (method_type_of r.member.descriptor) >>= λ d.
    unless_error c (resolve_method (world_at c) (site_at c) how r) (call_target c how d)) done operand.2 in
    let type =
    bound_gave (found OffsetFault (method_type_of constant.0.member.descriptor))
    (λ (d : MethodDescriptor). unless_error c (resolve_method (world_at c) (site_at c) how constant.0) (call_target c how d)) done constant.2 in
    record {
      reference = constant.0;
      operand =
          found_gave OffsetFault (method_operand (current_class (method_at c)) index) operand.0 operand.1
          ∙ ap Some (tested_gave OffsetFault (is_constant_for (current_class (method_at c)) how operand.0) operand.0 constant.0 constant.1).1;
      descriptor = type.0;
      described = found_gave OffsetFault (method_type_of constant.0.member.descriptor) type.0 type.1;
      does = type.2;
    }

-- ---- the arguments, and the receiver below them

pub record Passed (c : Context) (descriptor : MethodDescriptor) (arguments rest : List Value) : Type 0 where
  pub stood : c.frame.stack ≡ reverse arguments ++ rest
  pub width : length (flat_map local_words arguments) ≡ slots descriptor

pub passed :
    (c : Context) (descriptor : MethodDescriptor) (operands : List Value × List Value)
    → taken c.memory.objects (map value_type descriptor.parameters) c.frame.stack ≡ Ok operands → Passed c descriptor operands.0 operands.1
passed c descriptor operands e =
    record {
      stood = all_taken c.memory.objects (map value_type descriptor.parameters) c.frame.stack operands e;
      width = all_width c.memory.objects descriptor.parameters c.frame.stack operands e;
    }

popped_is_reference : (stack : List Value) (top : Value × List Value) → popped_reference stack ≡ Ok top → is_reference_value top.0 ≡ true
popped_is_reference stack top e =
    let parts = bound_gave (popped stack) (λ (p : Value × List Value). tested TagFault (has_type object_class_type p.0) p) top e in
    let held = tested_gave TagFault (has_type object_class_type parts.0.0) parts.0 top parts.2 in
    subst (λ (p : Value × List Value). is_reference_value p.0 ≡ true) held.1 held.0

pub record CalledOn (c : Context) (how : Use) (descriptor : MethodDescriptor) (t : MethodTarget) (done : Memory × Effect) : Type 0 where
  pub arguments : List Value
  pub receiver : Value
  pub rest : List Value
  pub passed : Passed c descriptor arguments (receiver ∷ rest)
  pub reference : is_reference_value receiver ≡ true
  pub does : call_with c how t arguments receiver rest ≡ Ok done

pub called_on :
    (c : Context) (how : Use) (descriptor : MethodDescriptor) (t : MethodTarget) (done : Memory × Effect)
    → call_instance c how descriptor t ≡ Ok done → CalledOn c how descriptor t done
called_on c how descriptor t done e =
    let arguments =
    bound_gave (taken c.memory.objects (map value_type descriptor.parameters) c.frame.stack)
    (λ (a : List Value × List Value). popped_reference a.1 >>= λ receiver. call_with c how t a.0 receiver.0 receiver.1) done e in
    let receiver =
    bound_gave (popped_reference arguments.0.1) (λ (r : Value × List Value). call_with c how t arguments.0.0 r.0 r.1) done arguments.2 in
    let p = passed c descriptor arguments.0 arguments.1 in
    record {
      arguments = arguments.0.0;
      receiver = receiver.0.0;
      rest = receiver.0.1;
      passed =
          record {
            stood = p.stood ∙ ap (λ (l : List Value). reverse arguments.0.0 ++ l) (popped_as_gave object_class_type arguments.0.1 receiver.0 receiver.1);
            width = p.width;
          };
      reference = popped_is_reference arguments.0.1 receiver.0 receiver.1;
      does = receiver.2;
    }
