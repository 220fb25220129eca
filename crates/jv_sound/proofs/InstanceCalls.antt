-- Calls on objects: what invokevirtual, invokeinterface and invokespecial select can receive the object (JVMS 6.5, 4.10.1.9).
use Rattle.std.proofs.Common.{◌≡◌, inl, ℕ, Bool, true, false, not, ◌&&◌, ◌||◌, List, ◌∷◌, ◌++◌, map, Option, Some, None, Ok, Err, refl, sym, ap, subst, ◌∙◌}
use Rattle.std.specs.Prelude.{IsTrue, IsSome, slice_get}
use Rattle.jv_format.specs.Format as rules_format
use Rattle.jv_text.specs.Descriptor.{MethodDescriptor}
use Rattle.jv_text.specs.Name.{is_init}
use Rattle.jv_text.specs.Types.{method_type_of}
use Rattle.jv_stackmap.specs.declared.verification.VerificationTypeOf.TheVariants as types
use Rattle.jv_stackmap.specs.Types.{FrameType, value_type}
use Rattle.jv_code.specs.Insns.{Instruction}
use Rattle.jv_code.specs.Successors.{falls_through}
use Rattle.jv_class.specs.Class.{method_named}
use Rattle.jv_meaning_world.specs.World.{Loaded, class_named}
use Rattle.jv_meaning_world.specs.Overriding.{Declared}
use Rattle.jv_meaning_world.specs.LookUps.{is_concrete}
use Rattle.jv_meaning_world.specs.Verdicts.{is_interface, is_loadable}
use Rattle.jv_meaning_world.proofs.Order.{below_object}
use Rattle.jv_meaning_world.proofs.Up.{has_name}
use Rattle.jv_meaning_typing.specs.Uses.{Use}
use Rattle.jv_meaning_typing.specs.LinkErrors.{OrError, error_class}
use Rattle.jv_meaning_typing.specs.Kind.{is_static_method}
use Rattle.jv_meaning_typing.specs.LinkingLaws.{IsRun}
use Rattle.jv_meaning_typing.specs.MethodResolution.{MethodTarget}
use Rattle.jv_meaning_typing.specs.Selection.{select}
use Rattle.jv_meaning_world.specs.Flow.{flows}
use Rattle.jv_meaning_world.specs.Laws.Order.{IsBelow, object_name, is_usable_reference, names_interface, erased_name, erased}
use Rattle.jv_meaning_typing.specs.FrameChanges.{with_stack, taken, taken_as_all}
use Rattle.jv_meaning_typing.specs.Named.{class_components, class_type, object_class_type, result_types}
use Rattle.jv_meaning_machine.specs.Faults.{◌>>=◌}
use Rattle.jv_meaning_machine.specs.Faults.Fault.{ReferenceFault, ConstructionFault}
use Rattle.jv_meaning_machine.specs.Values.{Value, has_type, is_reference_value}
use Rattle.jv_meaning_machine.specs.Values.Value.{Null, Reference}
use Rattle.jv_meaning_machine.specs.Objects.{Object, is_constructed, is_instance_of}
use Rattle.jv_meaning_machine.specs.Objects.Object.{InstanceOf, ArrayWith}
use Rattle.jv_meaning_machine.specs.State.{Program}
use Rattle.jv_meaning_machine.specs.Calls.{can_receive, class_of_object, run_on, call_on}
use Rattle.jv_meaning_machine.specs.Effects.{Context, Outcome, unless_error, null_pointer}
use Rattle.jv_meaning_machine.specs.Initialization.{is_verified}
use Rattle.jv_meaning_machine.specs.Operands as machine
use Rattle.jv_meaning_machine.specs.Operands.{popped_reference}
use Rattle.jv_sound.specs.Values.{Zip, Fits, IsObject, HasStack, object_type}
use Rattle.jv_sound.specs.Sound.{AreSorts, IsEnterable, IsResultSort}
use Rattle.jv_sound.specs.Frames.{Holds}
use Rattle.jv_sound.proofs.Logic.{clash, then2, grouped, then_holds, found_holds, tested_holds, holds}
use Rattle.jv_sound.proofs.Types.{sort_has_type}
use Rattle.jv_sound.proofs.Subtypes.{instance_below, element_loadable}
use Rattle.jv_sound.proofs.Taking.{taken_all, popped_ok}
use Rattle.jv_sound.proofs.Pure.{agrees_from}
use Rattle.jv_sound.proofs.Special.{special_enterable, special_received}
use Rattle.jv_sound.proofs.Types.{usable_sort}
use Rattle.jv_sound.proofs.Handlers.{raises_any, raised_any, enters_ok, sorts_mapped}
use Rattle.jv_sound.proofs.Ways.{Setting, IsSet, world_of, program_of, context_of, here, Does, By}

-- an instance method that is not abstract has code
abbrev pub HasCode : Program → Type 0
HasCode program =
    (d : Declared) → class_named program.world d.by.class.name ≡ Some d.by
    → method_named d.by.class d.method.name d.method.descriptor ≡ Some d.method → is_concrete d ≡ true
    → is_static_method d.method ≡ false → IsSome d.method.code

-- java/lang/Object
pub record IsRoot (program : Program) (root : Loaded) : Type 0 where
  pub named : class_named program.world object_name ≡ Some root
  pub verified : IsTrue (is_verified program root)
  pub loadable : IsTrue (is_loadable program.world root)

pub no_static : (b : Bool) → not b ≡ true → b ≡ false
no_static false k = refl
no_static true k = absurd (clash k)

-- what a usable type's values are
pub usable_has_kind : (world : _) (objects : List Object) (t : FrameType) (v : Value) → is_usable_reference t ≡ true
    → Fits world objects t v → has_type object_class_type v ≡ true
usable_has_kind world objects types.Null v u f = ap is_reference_value f
usable_has_kind world objects (types.Class name) v u f = sort_has_type world objects (types.Class name) v tt f
usable_has_kind world objects (types.Array c) v u f = sort_has_type world objects (types.Array c) v tt f
usable_has_kind world objects _ v u f = absurd (clash u)

pub usable_object : (world : _) (objects : List Object) (t : FrameType) (id : ℕ) → is_usable_reference t ≡ true
    → Fits world objects t (Reference id) → IsObject world objects t id
usable_object world objects types.Null id u f = absurd (let k : Reference id ≡ Null = f in cc)
usable_object world objects (types.Class name) id u f = f
usable_object world objects (types.Array c) id u f = f
usable_object world objects _ id u f = absurd (clash u)

-- a method that is entered on an object
pub record CanRun (program : Program) (objects : List Object) (o : Object) (called ran : Declared) : Type 0 where
  pub enterable : IsEnterable program ran
  pub received : can_receive program.world ran o ≡ true
  pub name : ran.method.name ≡ called.method.name
  pub descriptor : ran.method.descriptor ≡ called.method.descriptor
  pub instance : is_static_method ran.method ≡ false

module _ (x : Setting) (h : IsSet x) (coded : HasCode (program_of x)) (root : Loaded) (is_root : IsRoot (program_of x) root)
    (accepted_is_loadable : (l : Loaded) → class_named (world_of x) l.class.name ≡ Some l → IsTrue (is_verified (program_of x) l)
    → IsTrue (is_loadable (world_of x) l)) where
  -- the class by which a method is selected for an object: none for an array
  abbrev pub IsClassOf : Object → Option Loaded → Type 0
  IsClassOf (InstanceOf i) class = (l : Loaded) × (class ≡ Some l) × (class_named (world_of x) i.class ≡ Some l)
  IsClassOf (ArrayWith components values) class = class ≡ None

  abbrev pub call_instance_by : Context → Use → MethodDescriptor → MethodTarget → Outcome
  call_instance_by m how descriptor t =
      machine.taken m.memory.objects (map value_type descriptor.parameters) m.frame.stack >>= λ arguments. popped_reference arguments.1 >>=
      λ receiver.
      call_on m how t arguments.0 receiver.0 receiver.1

  root_named : class_named (world_of x) root.class.name ≡ Some root
  root_named = ap (class_named (world_of x)) (has_name (world_of x) object_name root is_root.named) ∙ is_root.named

  -- a method that runs from java/lang/Object on runs on any object
  pub of_root : (o : Object) (id : ℕ) → slice_get x.heap.objects id ≡ Some o → (called ran : Declared) → IsRun (world_of x) root called ran
      → CanRun (program_of x) x.heap.objects o called ran
  of_root o id there called ran run =
      let usable : is_usable_reference (object_type o) ≡ true = by_object o in
      let below : IsBelow (world_of x) (object_type o) (class_type root.class.name) =
      subst (λ (n : List ℕ). IsBelow (world_of x) (object_type o) (class_type n))
      (sym (has_name (world_of x) object_name root is_root.named))
      (below_object (world_of x) h.rooted (object_type o) usable (h.loadable id o there)) in
      record {
        enterable = special_enterable (program_of x) h.rooted root root_named is_root.verified is_root.loadable root
            (inl refl) called ran coded run;
        received = special_received (program_of x) h.rooted root root_named is_root.verified is_root.loadable root
            (inl refl) x.heap.objects o (h.typed.objects.each id o there) below called ran run;
        name = run.name;
        descriptor = run.descriptor;
        instance = no_static (is_static_method ran.method) run.instance;
      }
    where
      by_object : (o : Object) → is_usable_reference (object_type o) ≡ true
      by_object (InstanceOf i) = refl
      by_object (ArrayWith components values) = refl

  -- an object that can receive a method is below its class, where interfaces count as java/lang/Object
  received_below : (o : Object) (id : ℕ) → slice_get x.heap.objects id ≡ Some o → (by : Loaded)
      → class_named (world_of x) by.class.name ≡ Some by → IsTrue (is_loadable (world_of x) by)
      → (is_interface by || is_instance_of (world_of x) o (class_components by.class.name)) ≡ true
      → IsBelow (world_of x) (object_type o) (class_type by.class.name)
  received_below o id there by named loadable e = by_kind (is_interface by) refl e
    where
      by_object : (o : Object) → is_usable_reference (object_type o) ≡ true
      by_object (InstanceOf i) = refl
      by_object (ArrayWith components values) = refl

      erased_to : (n : List ℕ) → names_interface (world_of x) n ≡ true → erased_name (world_of x) n ≡ object_name
      erased_to n e = by_test (names_interface (world_of x) n) e
        where
          by_test : (b : Bool) → b ≡ true → (Rattle.std.specs.Prelude.if◌then◌else◌ b object_name n) ≡ object_name
          by_test true k = refl
          by_test false k = absurd (clash k)

      plain_object : erased_name (world_of x) object_name ≡ object_name
      plain_object = by_test (names_interface (world_of x) object_name) refl
        where
          by_test : (b : Bool) → names_interface (world_of x) object_name ≡ b
              → (Rattle.std.specs.Prelude.if◌then◌else◌ b object_name object_name) ≡ object_name
          by_test true k = refl
          by_test false k = refl

      interface_named : is_interface by ≡ true → names_interface (world_of x) by.class.name ≡ true
      interface_named e = ap (Rattle.jv_meaning_world.specs.Flow.is_loadable_interface (world_of x)) named ∙ ap
          (λ (b : Bool). b && is_interface by) loadable ∙ e

      by_kind : (b : Bool) → is_interface by ≡ b → (b || is_instance_of (world_of x) o (class_components by.class.name)) ≡ true
          → IsBelow (world_of x) (object_type o) (class_type by.class.name)
      by_kind true e k =
          subst (λ (n : List ℕ). IsTrue (flows (world_of x) (erased (world_of x) (object_type o)) (class_type n)))
          (plain_object ∙ sym (erased_to by.class.name (interface_named e)))
          (below_object (world_of x) h.rooted (object_type o) (by_object o) (h.loadable id o there))
      by_kind false e k = instance_below (world_of x) h.rooted o (class_components by.class.name)
          (element_loadable (world_of x) o (h.loadable id o there)) k

  -- it is entered
  pub runs_on :
      (insn : Instruction) (descriptor : MethodDescriptor) (how : Use) (t s : MethodTarget) (id : ℕ) (o : Object) (arguments : List Value)
      (S : List FrameType) (below : List Value) → IsTrue (falls_through insn)
      → slice_get x.heap.objects id ≡ Some o → is_constructed o ≡ true → is_init t.declared.method.name ≡ false
      → method_type_of t.declared.method.descriptor ≡ Some descriptor
      → Zip (Fits (world_of x) x.heap.objects) (map value_type descriptor.parameters) arguments → IsResultSort descriptor.result
      → HasStack (here x) S below → CanRun (program_of x) x.heap.objects o t.declared s.declared
      → Does x insn (with_stack x.given (result_types descriptor.result ++ S)) (run_on (context_of x insn) id o arguments below s)
  runs_on insn descriptor how t s id o arguments S below falls there constructed plain described f sort hs can =
      then_holds (tested_holds {P = λ u. u ≡ s} ReferenceFault (can_receive (world_of x) s.declared o) s can.received refl)
      (λ u same_target.
      subst (λ (u : MethodTarget). Does x insn (with_stack x.given (result_types descriptor.result ++ S))
      (Ok (
        Rattle.jv_sound.proofs.Ways.memory_of x,
        Rattle.jv_meaning_machine.specs.Effects.Effect.Enters u.declared (Some id) arguments below,
      ))) (sym same_target)
      (enters_ok x h insn descriptor s.declared (Some id) arguments S below can.enterable falls (ap is_init can.name ∙ plain)
      (can.instance, receiver) (ap method_type_of can.descriptor ∙ described) f sort hs))
    where
      receiver : IsObject (world_of x) x.heap.objects (class_type s.declared.by.class.name) id
      receiver = record {
        object = o;
        there = there;
        constructed = constructed;
        below = received_below o id there s.declared.by can.enterable.here
            (accepted_is_loadable s.declared.by can.enterable.here can.enterable.verified) can.received;
      }

  -- what is called on a value of a usable type, if what is selected for its object can run on it
  pub called_ok :
      (insn : Instruction) (descriptor : MethodDescriptor) (how : Use) (t : MethodTarget) (type : FrameType) (v : Value)
      (arguments : List Value) (S : List FrameType) (below : List Value) → IsTrue (falls_through insn)
      → is_usable_reference type ≡ true → is_init t.declared.method.name ≡ false
      → method_type_of t.declared.method.descriptor ≡ Some descriptor
      → ((o : Object) (id : ℕ) (class : Option Loaded) → slice_get x.heap.objects id ≡ Some o → IsBelow (world_of x) (object_type o) type
      → IsClassOf o class → (s : MethodTarget) → select (world_of x) x.frame.method.site how t class ≡ Ok s
      → CanRun (program_of x) x.heap.objects o t.declared s.declared)
      → Fits (world_of x) x.heap.objects type v → Zip (Fits (world_of x) x.heap.objects) (map value_type descriptor.parameters) arguments
      → IsResultSort descriptor.result → HasStack (here x) S below
      → Does x insn (with_stack x.given (result_types descriptor.result ++ S)) (call_on (context_of x insn) how t arguments v below)
  called_ok insn descriptor how t type Null arguments S below falls usable plain described selects f fit sort hs = raises_any x h insn
      (with_stack x.given (result_types descriptor.result ++ S)) null_pointer refl
  called_ok insn descriptor how t type (Reference id) arguments S below falls usable plain described selects f fit sort hs =
      let g = usable_object (world_of x) x.heap.objects type id usable f in
      then_holds (found_holds {P = λ o. o ≡ g.object} ReferenceFault (slice_get x.heap.objects id) g.object g.there refl) (λ o same_object.
      then_holds (tested_holds {P = λ o. o ≡ g.object} ConstructionFault (is_constructed o) o
      (ap is_constructed same_object ∙ g.constructed) same_object) (λ o same_again.
      subst (λ (o : Object). Does x insn (with_stack x.given (result_types descriptor.result ++ S))
      (class_of_object (world_of x) o >>= λ class. unless_error (context_of x insn) (select (world_of x) x.frame.method.site how t class)
      (run_on (context_of x insn) id o arguments below))) (sym same_again)
      (then_holds (class_ok g.object id g.there) (λ class is. by_selected g class is
      (select (world_of x) x.frame.method.site how t class) refl))))
    where
      class_ok : (o : Object) (id : ℕ) → slice_get x.heap.objects id ≡ Some o → Holds (IsClassOf o) (class_of_object (world_of x) o)
      class_ok (InstanceOf i) id there =
          let typed = h.typed.objects.each id (InstanceOf i) there in
          then_holds (found_holds {P = λ l. l ≡ typed.l} ReferenceFault (class_named (world_of x) i.class) typed.l typed.named refl)
          (λ l same_class. holds (l, refl, typed.named ∙ ap (λ (y : Loaded). Some y) (sym same_class)))
      class_ok (ArrayWith components values) id there = holds refl

      by_selected : (g : IsObject (world_of x) x.heap.objects type id) (class : Option Loaded) → IsClassOf g.object class
          → (r : OrError MethodTarget) → select (world_of x) x.frame.method.site how t class ≡ r
          → Does x insn (with_stack x.given (result_types descriptor.result ++ S))
          (unless_error (context_of x insn) r (run_on (context_of x insn) id g.object arguments below))
      by_selected g class is (Ok s) e = runs_on insn descriptor how t s id g.object arguments S below falls g.there g.constructed plain
          described fit sort hs (selects g.object id class g.there g.below is s e)
      by_selected g class is (Err error) e = raised_any x h insn (with_stack x.given (result_types descriptor.result ++ S))
          (error_class error) (h.link_errors error)
  called_ok insn descriptor how t type v arguments S below falls usable plain described selects f fit sort hs = absurd
      (clash (usable_has_kind (world_of x) x.heap.objects type v usable f))

  -- the same with the receiver and the arguments on the stack
  pub call_ok :
      (insn : Instruction) (descriptor : MethodDescriptor) (how : Use) (t : MethodTarget) (type : FrameType) (others : List FrameType)
      → IsTrue (falls_through insn)
      → is_usable_reference type ≡ true → is_init t.declared.method.name ≡ false
      → method_type_of t.declared.method.descriptor ≡ Some descriptor
      → ((o : Object) (id : ℕ) (class : Option Loaded) → slice_get x.heap.objects id ≡ Some o → IsBelow (world_of x) (object_type o) type
      → IsClassOf o class → (s : MethodTarget) → select (world_of x) x.frame.method.site how t class ≡ Ok s
      → CanRun (program_of x) x.heap.objects o t.declared s.declared)
      → AreSorts descriptor.parameters → IsResultSort descriptor.result
      → By x insn (rules_format.◌>>=◌ (rules_format.◌>>=◌ (taken (world_of x) (map value_type descriptor.parameters) x.given.stack)
      (taken_as_all (world_of x) (type ∷ others))) (λ below. Some (with_stack x.given (result_types descriptor.result ++ below))))
      (call_instance_by (context_of x insn) how descriptor t)
  call_ok insn descriptor how t type others falls usable plain described selects sorts sort =
      grouped (taken (world_of x) (map value_type descriptor.parameters) x.given.stack) (taken_as_all (world_of x) (type ∷ others))
      (λ below. Some (with_stack x.given (result_types descriptor.result ++ below))) _
      (then2 (taken_all (here x) h.rooted h.loadable (map value_type descriptor.parameters) x.given.stack x.frame.stack
      (sorts_mapped descriptor.parameters sorts) h.holding.stack) (λ S arguments f.
      then2 (popped_ok (here x) h.rooted h.loadable type object_class_type others S arguments.1 (usable_sort type usable)
      (λ v k. usable_has_kind (world_of x) x.heap.objects type v usable k) f.1) (λ T receiver k.
      agrees_from (called_ok insn descriptor how t type receiver.0 arguments.0 T receiver.1 falls usable plain described selects k.0 f.0
      sort k.1))))
