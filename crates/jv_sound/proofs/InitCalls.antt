-- invokespecial of `<init>` (JVMS 6.5, 4.10.1.9): on what a `new` of this method made, and on the receiver of an `<init>`.
use Rattle.std.proofs.Common.{◌≡◌, ℕ, suc, Bool, true, false, List, [], ◌∷◌, length, map, reverse, Option, Some, None, Ok, Err, refl, sym, ap, subst, ◌∙◌}
use Rattle.std.specs.Prelude.{slice_get, if◌then◌else◌}
use Rattle.std.specs.List.{list_all}
use Rattle.std.proofs.lemmas.List.{length-reverse}
use Rattle.jv_format.specs.Format as rules_format
use Rattle.jv_text.specs.declared.descriptor.FieldTypeOf.{FieldTypeOf}
use Rattle.jv_text.specs.Descriptor.{MethodDescriptor}
use Rattle.jv_text.specs.Name.{is_init}
use Rattle.jv_text.specs.Types.{method_type_of}
use Rattle.jv_stackmap.specs.declared.verification.VerificationTypeOf.TheVariants as types
use Rattle.jv_stackmap.specs.Types.{FrameType, value_type}
use Rattle.jv_code.specs.declared.insn.Insn.TheVariants as insns
use Rattle.jv_code.specs.declared.kinds.Invocation.TheVariants as invocations
use Rattle.jv_code.specs.Insns.{Instruction}
use Rattle.jv_meaning_world.specs.World.{World}
use Rattle.jv_meaning_world.specs.Overriding.{Declared}
use Rattle.jv_meaning_typing.specs.LinkErrors.{OrError, error_class}
use Rattle.jv_meaning_typing.specs.LinkErrors as link
use Rattle.jv_meaning_typing.specs.Uses.{Site}
use Rattle.jv_meaning_typing.specs.Uses.Use.{Invokespecial}
use Rattle.jv_meaning_typing.specs.MethodResolution.{MethodTarget, target}
use Rattle.jv_meaning_typing.specs.Selection.{select, select_from, special_start}
use Rattle.jv_meaning_world.specs.Laws.Order.{IsBelow}
use Rattle.jv_meaning_typing.specs.FrameChanges.{taken, taken_downward}
use Rattle.jv_meaning_typing.specs.MemberRules.{constructed, flag_behind}
use Rattle.jv_meaning_typing.specs.Named.{class_type}
use Rattle.jv_meaning_typing.specs.Rule.{constructed_object, handler_frame, without_object}
use Rattle.jv_meaning_machine.specs.Faults.Fault.{ReferenceFault, ConstructionFault}
use Rattle.jv_meaning_machine.specs.Values.{Value}
use Rattle.jv_meaning_machine.specs.Values.Value.{Reference}
use Rattle.jv_meaning_machine.specs.Objects.{Instance, Object, type_of_object}
use Rattle.jv_meaning_machine.specs.Objects.Object.{InstanceOf}
use Rattle.jv_meaning_machine.specs.Calls.{can_enter, construct}
use Rattle.jv_meaning_machine.specs.Effects.{unless_error}
use Rattle.jv_meaning_machine.specs.Effects.Effect.{Constructs}
use Rattle.jv_meaning_machine.specs.Fields.{instance_in}
use Rattle.jv_meaning_machine.specs.Entering.{entered_on}
use Rattle.jv_sound.specs.Values.{Zip, Fits, Heap, IsObject, HasLocals, HasStack, IsReady}
use Rattle.jv_sound.specs.Later.{IsLater}
use Rattle.jv_sound.specs.Sound.{IsEnterable}
use Rattle.jv_sound.specs.Frames.{Holds}
use Rattle.jv_sound.specs.Effects.{after}
use Rattle.jv_sound.proofs.Logic.{clash, holds, then_holds, found_holds, tested_holds}
use Rattle.jv_sound.proofs.Heaps.{get_set_same}
use Rattle.jv_sound.proofs.Copies.{replaced_locals, replaced_stack}
use Rattle.jv_sound.proofs.Constructing.{IsSubject, begun_heap, dropped_one, done_one}
use Rattle.jv_sound.proofs.ResolvedTypes.{same_option}
use Rattle.jv_sound.proofs.Handlers.{handler_locals, raised_any}
use Rattle.jv_sound.proofs.Ways.{Setting, IsSet, world_of, program_of, memory_of, context_of, here, Does, stays}

-- ---- what is below the arguments

-- as many items are taken as are expected
taken_below : (world : World) (expected S T : List FrameType) → taken_downward world expected S ≡ Some T
    → slice_get S (length expected) ≡ slice_get T 0
taken_below world [] S T e = ap (λ (s : List FrameType). slice_get s 0) (same_option S T e)
taken_below world (t ∷ expected) [] T e = absurd cc
taken_below world (t ∷ expected) (y ∷ S) T e = by_test (list_all
    (Rattle.jv_meaning_world.specs.FrameFlow.item_flows world y) (t ∷ [])) e
    (λ k. taken_below world expected S T k)
  where
    by_test : (b : Bool) → rules_format.◌>>=◌ (if b then Some S else None) (λ below. taken_downward world expected below) ≡ Some T
        → (taken_downward world expected S ≡ Some T → slice_get S (length expected) ≡ slice_get T 0)
        → slice_get S (length expected) ≡ slice_get T 0
    by_test true k again = again k
    by_test false k again = absurd cc

pub receiver_below : (world : World) (arguments S T : List FrameType) → taken world arguments S ≡ Some T
    → slice_get S (length arguments) ≡ slice_get T 0
receiver_below world arguments S T e = subst (λ (n : ℕ). slice_get S n ≡ slice_get T 0) (length-reverse arguments)
    (taken_below world (reverse arguments) S T e)

-- ---- an `<init>` is entered

-- it runs itself
abbrev answer : MethodTarget → OrError MethodTarget
answer t = Ok t

init_runs : (world : World) (site : Site) (t s : MethodTarget) → is_init t.declared.method.name ≡ true
    → select world site Invokespecial t None ≡ Ok s → s ≡ t
init_runs world site t s init e = by_test (is_init t.declared.method.name) init e
  where
    same_target : answer t ≡ answer s → s ≡ t
    same_target k = cc

    by_test : (b : Bool) → b ≡ true → link.◌>>=◌ (if b then Ok t.declared else select_from world t.declared.method
        (special_start world site.by t.named)) (λ d. answer (target t.named d)) ≡ answer s → s ≡ t
    by_test true k f = same_target f
    by_test false k f = absurd (clash k)

module _ (x : Setting) (h : IsSet x) (index : ℕ) where
  abbrev insn : Instruction
  insn = insns.Invoke invocations.Special index

  module _ (u : FrameType) (id : ℕ) (i : Instance) (subject : IsSubject (here x) u id i) (d : Declared) where
    abbrev begun : Heap
    begun = begun_heap (here x) u id i subject d

    -- once it is constructed it is of each class that its own is below
    pub object_again : (c : Heap) (type name : List ℕ) → IsLater (suc x.depth) begun c
        → IsObject (world_of x) c.objects (types.Class type) id → IsBelow (world_of x) (types.Class i.class) (types.Class name)
        → IsObject (world_of x) c.objects (types.Class name) id
    object_again c type name g f b =
        let still = g.still id (entered_on d i) (get_set_same x.heap.objects id (InstanceOf i) (entered_on d i) subject.there) in
        let same_object : f.object ≡ still.now = same_option f.object still.now (sym f.there ∙ still.there) in
        record {
          object = f.object;
          there = f.there;
          constructed = f.constructed;
          below = subst (λ (t : FieldTypeOf (List ℕ)). IsBelow (world_of x) (value_type t) (types.Class name))
              (sym (ap type_of_object same_object ∙ still.type)) b;
        }

    -- the local variables of handlers, with top in the place of the object
    begun_locals : constructed_object x.frame.method insn x.given ≡ Some u
        → HasLocals (after (here x) begun x.made) (handler_frame x.frame.method insn x.given).locals x.frame.locals
    begun_locals e =
        subst (λ (o : Option FrameType). HasLocals (after (here x) begun x.made) (without_object o x.given.locals) x.frame.locals) (sym e)
        (replaced_locals (here x) (after (here x) begun x.made) u types.Top refl
        (dropped_one (here x) u id i subject d) x.given.locals x.frame.locals h.holding.locals)

    pub enters :
        (name : List ℕ) (descriptor : MethodDescriptor) (T : List FrameType) (arguments s : List Value)
        → constructed_object x.frame.method insn x.given ≡ Some u → IsEnterable (program_of x) d → is_init d.method.name ≡ true
        → method_type_of d.method.descriptor ≡ Some descriptor → Zip (Fits (world_of x) x.heap.objects)
        (map value_type descriptor.parameters) arguments → HasStack (here x) T s
        → IsBelow (world_of x) (types.Class i.class) (class_type d.by.class.name)
        → IsBelow (world_of x) (types.Class i.class) (types.Class name)
        → ((c : Heap) → IsLater (suc x.depth) begun c → IsObject (world_of x) c.objects (types.Class name) id
        → IsReady (after (here x) c x.made) (flag_behind u x.given.flag_this_uninit))
        → Does x insn (constructed x.given u (types.Class name) T) (Ok (memory_of x, Constructs d id i arguments s))
    enters name descriptor T arguments s object enterable init described f hs below named ready =
        stays x h insn (constructed x.given u (types.Class name) T) (Constructs d id i arguments s) (
          enterable,
          refl,
          init,
          record { descriptor = descriptor; described = described; fit = f },
          record { there = subject.there; raw = subject.raw; owner = subject.owner; below = below },
          handler_locals x h insn,
          begun_locals object,
          λ c g k.
              let again = object_again c d.by.class.name name g k named in
              record {
                locals = replaced_locals (here x) (after (here x) c x.made) u (types.Class name) refl
                    (done_one (here x) u id i subject d name c g again) x.given.locals x.frame.locals h.holding.locals;
                stack = replaced_stack (here x) (after (here x) c x.made) u (types.Class name) refl
                    (done_one (here x) u id i subject d name c g again) T s hs;
                ready = ready c g again;
              },
        )

  -- what the machine does with the object
  module _ (u : FrameType) (id : ℕ) (i : Instance) (subject : IsSubject (here x) u id i) (t : MethodTarget) where
    pub constructs :
        (name : List ℕ) (descriptor : MethodDescriptor) (T : List FrameType) (arguments s : List Value)
        → constructed_object x.frame.method insn x.given ≡ Some u → can_enter (world_of x) i t.declared.by.class.name ≡ true
        → IsEnterable (program_of x) t.declared → is_init t.declared.method.name ≡ true
        → method_type_of t.declared.method.descriptor ≡ Some descriptor
        → Zip (Fits (world_of x) x.heap.objects) (map value_type descriptor.parameters) arguments → HasStack (here x) T s
        → IsBelow (world_of x) (types.Class i.class) (class_type t.declared.by.class.name)
        → IsBelow (world_of x) (types.Class i.class) (types.Class name)
        → ((c : Heap) → IsLater (suc x.depth) (begun_heap (here x) u id i subject t.declared) c
        → IsObject (world_of x) c.objects (types.Class name) id → IsReady (after (here x) c x.made)
        (flag_behind u x.given.flag_this_uninit))
        → Does x insn (constructed x.given u (types.Class name) T) (construct (context_of x insn) t arguments (Reference id) s)
    constructs name descriptor T arguments s object can enterable init described f hs below named ready =
        then_holds (then_holds (found_holds {P = λ o. o ≡ InstanceOf i} ReferenceFault (slice_get x.heap.objects id)
        (InstanceOf i) subject.there refl) (λ o same_object. subst (λ (o : Object). Holds (λ j. j ≡ i) (instance_in o))
        (sym same_object) (holds refl))) (λ j same_instance.
        then_holds (tested_holds {P = λ k. k ≡ i} ConstructionFault (can_enter (world_of x) j t.declared.by.class.name) j
        (ap (λ (k : Instance). can_enter (world_of x) k t.declared.by.class.name) same_instance ∙ can) same_instance) (λ k same_again.
        subst (λ (k : Instance). Does x insn (constructed x.given u (types.Class name) T)
        (unless_error (context_of x insn) (select (world_of x) x.frame.method.site Invokespecial t None)
        (λ t. Ok (memory_of x, Constructs t.declared id k arguments s)))) (sym same_again)
        (by_selected (select (world_of x) x.frame.method.site Invokespecial t None) refl)))
      where
        by_selected : (r : OrError MethodTarget) → select (world_of x) x.frame.method.site Invokespecial t None ≡ r
            → Does x insn (constructed x.given u (types.Class name) T)
            (unless_error (context_of x insn) r (λ t. Ok (memory_of x, Constructs t.declared id i arguments s)))
        by_selected (Ok r) e =
            subst (λ (r : MethodTarget). Does x insn (constructed x.given u (types.Class name) T)
            (Ok (memory_of x, Constructs r.declared id i arguments s))) (sym (init_runs (world_of x) x.frame.method.site t r init e))
            (enters u id i subject t.declared name descriptor T arguments s object enterable init described f hs below named ready)
        by_selected (Err error) e = raised_any x h insn (constructed x.given u (types.Class name) T) (error_class error)
            (h.link_errors error)
