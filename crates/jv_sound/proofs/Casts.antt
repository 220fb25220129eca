-- checkcast and instanceof (JVMS 6.5).
use Rattle.std.proofs.Common.{◌≡◌, ℕ, Bool, true, false, List, [], ◌∷◌, Option, Some, None, Ok, Err, refl, sym, subst}
use Rattle.std.specs.Prelude.{slice_get}
use Rattle.jv_format.specs.Format as rules_format
use Rattle.jv_stackmap.specs.declared.verification.VerificationTypeOf.TheVariants as types
use Rattle.jv_stackmap.specs.Types.{FrameType, reference_type}
use Rattle.jv_stackmap.specs.Frames.{Frame as TypesOf}
use Rattle.jv_code.specs.declared.insn.Insn.TheVariants as insns
use Rattle.jv_code.specs.Insns.{Instruction}
use Rattle.jv_meaning_typing.specs.LinkErrors.{OrError, error_class}
use Rattle.jv_meaning_typing.specs.Operands.{class_operand}
use Rattle.jv_meaning_typing.specs.ClassResolution.{ResolvedClass, resolve_text}
use Rattle.jv_meaning_world.specs.Laws.Order.{IsBelow, is_usable_reference}
use Rattle.jv_meaning_typing.specs.Environment.{current_class}
use Rattle.jv_meaning_typing.specs.FrameChanges.{with_stack, taken_as_all, exchanged}
use Rattle.jv_meaning_typing.specs.Named.{object_class_type}
use Rattle.jv_meaning_machine.specs.Faults.{found, ◌>>=◌}
use Rattle.jv_meaning_machine.specs.Faults.Fault.{OffsetFault, ReferenceFault}
use Rattle.jv_meaning_machine.specs.Values.{Value}
use Rattle.jv_meaning_machine.specs.Values.Value.{Null, Reference}
use Rattle.jv_meaning_machine.specs.Objects.{Object, is_instance_of}
use Rattle.jv_meaning_machine.specs.Instructions.{when_tested, cast_if, check_cast_of, answered, instance_of_value}
use Rattle.jv_meaning_machine.specs.Effects.{Outcome, unless_error, class_cast, resolved_type}
use Rattle.jv_meaning_machine.proofs.TakenItems.{taken_gave}
use Rattle.jv_sound.specs.Values.{Fits, IsObject, IsReferenceTo, HasStack, object_type}
use Rattle.jv_sound.proofs.Logic.{then2, then2_known, then_holds, found_holds, handed_on}
use Rattle.jv_sound.proofs.Types.{sort_item}
use Rattle.jv_sound.proofs.Subtypes.{instance_below, element_loadable}
use Rattle.jv_sound.proofs.Taking.{taken_one}
use Rattle.jv_sound.proofs.Pure.{agrees_from}
use Rattle.jv_sound.proofs.ArrayTypes.{null_of_usable, object_of_usable}
use Rattle.jv_sound.proofs.Types.{usable_sort}
use Rattle.jv_sound.proofs.ResolvedTypes.{resolved_text, resolved_reference, reference_is_usable}
use Rattle.jv_sound.proofs.Ways.{Setting, IsSet, world_of, context_of, here, Does, By, Sound, KeepsLocals, goes_ok, raises_ok, raised_ok}

module _ (x : Setting) (h : IsSet x) where
  -- an object is tested against the class that a text names, once that is resolved
  tested_ok :
      (insn : Instruction) (g : TypesOf) (text : List ℕ) (t : FrameType) (id : ℕ)
      (f : IsObject (world_of x) x.heap.objects object_class_type id) (next : Bool → Outcome)
      → KeepsLocals x insn → reference_type text ≡ Some t
      → ((b : Bool) → (b ≡ true → IsBelow (world_of x) (object_type f.object) t) → Does x insn g (next b))
      → Does x insn g (when_tested (context_of x insn) text id next)
  tested_ok insn g text t id f next keeps type k =
      then_holds (found_holds {P = λ o. o ≡ f.object} ReferenceFault (slice_get x.heap.objects id) f.object f.there refl) (λ o same_object.
      subst (λ (o : Object). Does x insn g (unless_error (context_of x insn) (resolve_text (world_of x) x.frame.method.site.by text)
      (λ class. next (is_instance_of (world_of x) o (resolved_type class))))) (sym same_object)
      (by_class (resolve_text (world_of x) x.frame.method.site.by text) refl))
    where
      by_class : (r : OrError ResolvedClass) → resolve_text (world_of x) x.frame.method.site.by text ≡ r
          → Does x insn g (unless_error (context_of x insn) r (λ class. next (is_instance_of (world_of x) f.object (resolved_type class))))
      by_class (Ok class) e =
          k (is_instance_of (world_of x) f.object (resolved_type class)) (λ one.
          subst (λ (u : FrameType). IsBelow (world_of x) (object_type f.object) u)
          (resolved_reference (world_of x) text class t (resolved_text (world_of x) h.alone x.frame.method.site.by text class e) type)
          (instance_below (world_of x) h.rooted f.object (resolved_type class)
          (element_loadable (world_of x) f.object (h.loadable id f.object f.there)) one))
      by_class (Err error) e = raised_ok x h insn g (error_class error) (h.link_errors error) keeps

  -- the rule's type, once its operand names one
  by_type : (insn : Instruction) (index : ℕ) (f : FrameType → Option TypesOf) (next : List ℕ → Outcome)
      → ((text : List ℕ) (t : FrameType) → reference_type text ≡ Some t → By x insn (f t) (next text))
      → By x insn (rules_format.◌>>=◌ (rules_format.◌>>=◌ (class_operand (current_class x.frame.method) index) reference_type) f)
      (found OffsetFault (class_operand (current_class x.frame.method) index) >>= next)
  by_type insn index f next k = by_operand (class_operand (current_class x.frame.method) index)
    where
      by_reference : (text : List ℕ) → (o : Option FrameType) → reference_type text ≡ o → By x insn (rules_format.◌>>=◌ o f) (next text)
      by_reference text None type = record { by = tt }
      by_reference text (Some t) type = k text t type

      by_operand : (o : Option (List ℕ)) → By x insn (rules_format.◌>>=◌ (rules_format.◌>>=◌ o reference_type) f)
          (found OffsetFault o >>= next)
      by_operand None = record { by = tt }
      by_operand (Some text) = by_reference text (reference_type text) refl

  pub check_cast_ok : (index : ℕ) → Sound x (insns.CheckCast index)
  check_cast_ok index =
      by_type (insns.CheckCast index) index (λ type. exchanged (world_of x) (object_class_type ∷ []) (type ∷ []) x.given) _ (λ text t type.
      handed_on (taken_as_all (world_of x) (object_class_type ∷ []) x.given.stack) (λ below. Some (with_stack x.given (t ∷ below))) _
      (then2_known (taken_one (here x) h.rooted h.loadable object_class_type x.given.stack x.frame.stack tt h.holding.stack) (λ S top e f.
      agrees_from (casts text t type S top.0 top.1 (taken_gave x.heap.objects object_class_type x.frame.stack top e) f.0 f.1))))
    where
      goes : (t : FrameType) (S : List FrameType) (v : Value) (s : List Value) → x.frame.stack ≡ v ∷ s → is_usable_reference t ≡ true
          → Fits (world_of x) x.heap.objects t v → HasStack (here x) S s
          → Does x (insns.CheckCast index) (with_stack x.given (t ∷ S))
          (Rattle.jv_meaning_machine.specs.Effects.goes_on (context_of x (insns.CheckCast index)) x.frame.stack)
      goes t S v s stood usable f hs =
          goes_ok x h (insns.CheckCast index) (t ∷ S) x.frame.stack refl
          (subst (λ (vs : List Value). HasStack (here x) (t ∷ S) vs) (sym stood) (sort_item (here x) t v (usable_sort t usable) f, hs))

      casts : (text : List ℕ) (t : FrameType) → reference_type text ≡ Some t → (S : List FrameType) (v : Value) (s : List Value)
          → x.frame.stack ≡ v ∷ s
          → IsReferenceTo (world_of x) x.heap.objects object_class_type v → HasStack (here x) S s
          → Does x (insns.CheckCast index) (with_stack x.given (t ∷ S)) (check_cast_of (context_of x (insns.CheckCast index)) text v)
      casts text t type S Null s stood f hs = goes t S Null s stood (reference_is_usable text t type)
          (null_of_usable (world_of x) x.heap.objects t (reference_is_usable text t type)) hs
      casts text t type S (Reference id) s stood f hs =
          tested_ok (insns.CheckCast index) (with_stack x.given (t ∷ S)) text t id f
          (cast_if (context_of x (insns.CheckCast index))) refl type (λ b k. by_test b k)
        where
          by_test : (b : Bool) → (b ≡ true → IsBelow (world_of x) (object_type f.object) t)
              → Does x (insns.CheckCast index) (with_stack x.given (t ∷ S)) (cast_if (context_of x (insns.CheckCast index)) b)
          by_test true k =
              goes t S (Reference id) s stood (reference_is_usable text t type)
              (object_of_usable (world_of x) x.heap.objects t id (reference_is_usable text t type)
              (record { object = f.object; there = f.there; constructed = f.constructed; below = k refl })) hs
          by_test false k = raises_ok x h (insns.CheckCast index) (with_stack x.given (t ∷ S)) class_cast refl refl
      casts text t type S _ s stood f hs = absurd f

  pub instance_of_ok : (index : ℕ) → Sound x (insns.InstanceOf index)
  instance_of_ok index =
      by_type (insns.InstanceOf index) index (λ type. exchanged (world_of x) (object_class_type ∷ []) (types.Int ∷ []) x.given) _
      (λ text t type.
      handed_on (taken_as_all (world_of x) (object_class_type ∷ []) x.given.stack)
      (λ below. Some (with_stack x.given (types.Int ∷ below))) _
      (then2 (taken_one (here x) h.rooted h.loadable object_class_type x.given.stack x.frame.stack tt h.holding.stack) (λ S top f.
      agrees_from (tests text t type S top.0 top.1 f.0 f.1))))
    where
      answers : (S : List FrameType) (s : List Value) → HasStack (here x) S s → (b : Bool)
          → Does x (insns.InstanceOf index) (with_stack x.given (types.Int ∷ S)) (answered (context_of x (insns.InstanceOf index)) s b)
      answers S s hs true = goes_ok x h (insns.InstanceOf index) (types.Int ∷ S) _ refl (record { fits = tt; width = refl }, hs)
      answers S s hs false = goes_ok x h (insns.InstanceOf index) (types.Int ∷ S) _ refl (record { fits = tt; width = refl }, hs)

      tests : (text : List ℕ) (t : FrameType) → reference_type text ≡ Some t → (S : List FrameType) (v : Value) (s : List Value)
          → IsReferenceTo (world_of x) x.heap.objects object_class_type v → HasStack (here x) S s
          → Does x (insns.InstanceOf index) (with_stack x.given (types.Int ∷ S))
          (instance_of_value (context_of x (insns.InstanceOf index)) text v s)
      tests text t type S Null s f hs = answers S s hs false
      tests text t type S (Reference id) s f hs =
          tested_ok (insns.InstanceOf index) (with_stack x.given (types.Int ∷ S)) text t id f
          (answered (context_of x (insns.InstanceOf index)) s) refl type (λ b k. answers S s hs b)
      tests text t type S _ s f hs = absurd f
