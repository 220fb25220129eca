-- invokespecial, of `<init>` and of other methods (JVMS 6.5, 4.10.1.9).
use Rattle.std.proofs.Common.{◌≡◌, ◌⊎◌, inl, inr, ℕ, Bool, true, false, not, ◌||◌, List, [], ◌∷◌, length, map, Option, Some, None, refl, sym, ap, subst, ◌∙◌, arith}
use Rattle.std.specs.Prelude.{IsTrue, IsSome, slice_get, if◌then◌else◌}
use Rattle.std.specs.List.{Contains, list_all}
use Rattle.std.specs.Option.{option_map}
use Rattle.std.specs.Str.{bytes_eq}
use Rattle.std.specs.Cmp.Lexicographic.{nat_list_eq_equiv}
use Rattle.std.proofs.lemmas.Bool.{or_cases}
use Rattle.std.proofs.lemmas.List.Elements.{Contains-append_left}
use Rattle.jv_format.specs.Format as rules_format
use Rattle.jv_text.specs.Descriptor.{MethodDescriptor}
use Rattle.jv_text.specs.Name.{is_array_name, is_init}
use Rattle.jv_text.specs.Types.{method_type_of}
use Rattle.jv_stackmap.specs.declared.verification.VerificationTypeOf.TheVariants as types
use Rattle.jv_stackmap.specs.Types.{FrameType, reference_type, value_type}
use Rattle.jv_code.specs.declared.insn.Insn.TheVariants as insns
use Rattle.jv_code.specs.declared.kinds.Invocation.TheVariants as invocations
use Rattle.jv_code.specs.Insns.{Instruction}
use Rattle.jv_class.specs.Class.{method_named}
use Rattle.jv_meaning_world.specs.World.{Loaded, class_named}
use Rattle.jv_meaning_world.specs.Above.{above, super_names, superclass_names}
use Rattle.jv_meaning_world.specs.Overriding.{Declared}
use Rattle.jv_meaning_world.specs.Verdicts.{is_loadable}
use Rattle.jv_meaning_world.proofs.Standing.{named_super}
use Rattle.jv_meaning_world.proofs.Up.{above_by_ways, first, same_name}
use Rattle.jv_meaning_world.proofs.Order.{below_is_reflexive, below_is_transitive}
use Rattle.jv_meaning_world.proofs.OrderAbove.{above_is_below}
use Rattle.jv_meaning_world.proofs.OrderChains.{any_made}
use Rattle.jv_meaning_typing.specs.LinkErrors.LinkError.{NoSuchMethodError}
use Rattle.jv_meaning_typing.specs.Uses.Use.{Invokespecial}
use Rattle.jv_meaning_typing.specs.LinkingLaws.{IsCalled}
use Rattle.jv_meaning_typing.specs.Operands.{MethodReference, method_operand}
use Rattle.jv_meaning_typing.specs.MethodResolution.{MethodTarget}
use Rattle.jv_meaning_typing.specs.Access.{same_class}
use Rattle.jv_meaning_world.specs.Laws.Order.{IsBelow}
use Rattle.jv_meaning_typing.specs.Environment.{current_class, instruction_at}
use Rattle.jv_meaning_typing.specs.FrameChanges.{taken}
use Rattle.jv_meaning_typing.specs.MemberRules.{class_of_new, is_that_name, constructs_new, constructs_this, constructed, construct_top, invoke_init, invoke_special, method_guard, goes_with_version}
use Rattle.jv_meaning_typing.specs.MemberRules as rules
use Rattle.jv_meaning_typing.specs.Named.{MethodUse, method_use, method_named_by, can_be_of, class_type, current_type, when}
use Rattle.jv_meaning_typing.specs.Rule.{constructed_object}
use Rattle.jv_meaning_machine.specs.Faults.{◌>>=◌}
use Rattle.jv_meaning_machine.specs.Values.{Value}
use Rattle.jv_meaning_machine.specs.Values.Value.{Reference}
use Rattle.jv_meaning_machine.specs.Objects.Object.{InstanceOf}
use Rattle.jv_meaning_machine.specs.Calls.{call_special, construct}
use Rattle.jv_meaning_machine.specs.Initialization.{is_verified}
use Rattle.jv_meaning_machine.specs.Operands.{popped_reference}
use Rattle.jv_sound.specs.Values.{Zip, Fits, IsFresh, IsThis, HasStack}
use Rattle.jv_sound.specs.Sound.{AreSorts, IsResultSort, IsEnterable}
use Rattle.jv_sound.proofs.Logic.{clash, then2_from}
use Rattle.jv_sound.proofs.Heaps.{later, weaker, ready_any}
use Rattle.jv_sound.proofs.Taking.{and_parts, taken_all}
use Rattle.jv_sound.proofs.Pure.{agrees_from}
use Rattle.jv_sound.proofs.Formed.{super_name_test}
use Rattle.jv_sound.proofs.Receiving.{above_verified}
use Rattle.jv_sound.proofs.Resolving.{named_class, resolved_class}
use Rattle.jv_sound.proofs.ResolvedTypes.{same_option, reference_of_class}
use Rattle.jv_sound.proofs.Constructing.{fresh_subject, this_subject, begun_later, order_fresh, order_this}
use Rattle.jv_sound.proofs.Handlers.{sorts_mapped}
use Rattle.jv_sound.proofs.InitCalls.{receiver_below, constructs}
use Rattle.jv_sound.proofs.InstanceCalls.{HasCode, IsRoot}
use Rattle.jv_sound.proofs.SuperCalls.{super_ok}
use Rattle.jv_sound.proofs.MethodUses.{called_there, called_declared, calling, target_ok, method_ok, asked}
use Rattle.jv_sound.proofs.Ways.{Setting, IsSet, world_of, program_of, context_of, here, Does, By, Sound}

-- a name that may be missing
that_name : (name : List ℕ) (o : Option (List ℕ)) → is_that_name name o ≡ true → o ≡ Some name
that_name name None e = absurd (clash e)
that_name name (Some other) e = ap (λ (n : List ℕ). Some n) (sym (same_name name other e))

module _ (x : Setting) (h : IsSet x) (coded : HasCode (program_of x)) (root : Loaded) (is_root : IsRoot (program_of x) root)
    (accepted_is_loadable : (l : Loaded) → class_named (world_of x) l.class.name ≡ Some l → IsTrue (is_verified (program_of x) l)
    → IsTrue (is_loadable (world_of x) l))
    (enterable : IsEnterable (program_of x) x.frame.method.site) (index : ℕ)
    (sorts : (reference : MethodReference) (d : MethodDescriptor) → method_operand (current_class x.frame.method) index ≡ Some reference
    → method_type_of reference.member.descriptor ≡ Some d → AreSorts d.parameters × IsResultSort d.result)
    -- an `<init>` has code
    (constructors_have_code : (d : Declared) → class_named (world_of x) d.by.class.name ≡ Some d.by
    → method_named d.by.class d.method.name d.method.descriptor ≡ Some d.method → is_init d.method.name ≡ true → IsSome d.method.code)
    -- no class and no superclass has the name of an array, nor does any `new` of the method name one
    (current_plain : is_array_name (current_class x.frame.method).name ≡ false)
    (super_plain : super_name_test (current_class x.frame.method).super_class ≡ true)
    (new_plain : (offset : ℕ) (text : List ℕ) → class_of_new x.frame.method (instruction_at x.frame.method offset) ≡ Some text
    → is_array_name text ≡ false) where
  abbrev insn : Instruction
  insn = insns.Invoke invocations.Special index

  abbrev current : Loaded
  current = x.frame.method.site.by

  -- the class that declares the `<init>`
  record IsConstructor (reference : MethodReference) (t : MethodTarget) : Type 0 where
    name : t.declared.by.class.name ≡ reference.member.class
    there : class_named (world_of x) t.declared.by.class.name ≡ Some t.declared.by
    declared : method_named t.declared.by.class t.declared.method.name t.declared.method.descriptor ≡ Some t.declared.method
    init : is_init t.declared.method.name ≡ true

  constructor : (reference : MethodReference) (t : MethodTarget) → is_init reference.member.name ≡ true
      → is_array_name reference.member.class ≡ false → IsCalled (world_of x) x.frame.method.site Invokespecial reference t
      → IsConstructor reference t
  constructor reference t is plain called =
      let named = resolved_class (world_of x) h.alone reference.member.class t.named
      (named_class (world_of x) current reference.member NoSuchMethodError t.named plain called.named_so) in
      let init : is_init t.declared.method.name ≡ true = ap is_init called.name ∙ is in
      record {
        name = sym (same_name t.named.class.name t.declared.by.class.name
            (own (is_init t.declared.method.name) init called.constructor)) ∙ named.name;
        there = called_there (world_of x) h.alone x.frame.method.site Invokespecial reference t called;
        declared = called_declared (world_of x) x.frame.method.site Invokespecial reference t called;
        init = init;
      }
    where
      own : (b : Bool) → b ≡ true → (not b || same_class t.named t.declared.by) ≡ true → same_class t.named t.declared.by ≡ true
      own true e k = k
      own false e k = absurd (clash e)

  enters_verified : (reference : MethodReference) (t : MethodTarget) (c : IsConstructor reference t)
      → IsTrue (is_verified (program_of x) t.declared.by) → IsEnterable (program_of x) t.declared
  enters_verified reference t c v = record {
    here = c.there;
    declared = c.declared;
    verified = v;
    code = constructors_have_code t.declared
        c.there c.declared c.init;
  }

  module _ (reference : MethodReference) (owner : FrameType) (descriptor : MethodDescriptor)
      (operand : method_operand (current_class x.frame.method) index ≡ Some reference)
      (can : can_be_of reference.constant reference.member.class ≡ true)
      (type : reference_type reference.member.class ≡ Some owner) (described : method_type_of reference.member.descriptor ≡ Some descriptor)
      (is : is_init reference.member.name ≡ true)
      (t : MethodTarget) (called : IsCalled (world_of x) x.frame.method.site Invokespecial reference t) where
    abbrev method : MethodUse
    method = method_use reference owner descriptor

    named_so : method_named_by x.frame.method index ≡ Some method
    named_so = rw (operand, can, type, described) refl

    -- the object stands below as many items as there are arguments
    object_is : (y : FrameType) (T : List FrameType) → taken (world_of x) method.arguments x.given.stack ≡ Some (y ∷ T)
        → constructed_object x.frame.method insn x.given ≡ Some y
    object_is y T e =
        ap (λ (o : Option MethodUse). rules_format.◌>>=◌ o (λ method. rules_format.◌>>=◌ (when (is_init method.reference.name) method)
        (λ method. slice_get x.given.stack (length method.arguments)))) named_so
        ∙ ap (λ (b : Bool). rules_format.◌>>=◌ (when b method) (λ method. slice_get x.given.stack (length method.arguments))) is
        ∙ receiver_below (world_of x) method.arguments x.given.stack (y ∷ T) e

    described_so : method_type_of t.declared.method.descriptor ≡ Some descriptor
    described_so = ap method_type_of called.descriptor ∙ described

    -- on what a `new` made
    on_fresh :
        (o : ℕ) (T : List FrameType) (v : Value) (arguments s : List Value)
        → taken (world_of x) method.arguments x.given.stack ≡ Some (types.Uninitialized o ∷ T)
        → constructs_new x.frame.method method o ≡ true → IsFresh (here x) o v
        → Zip (Fits (world_of x) x.heap.objects) (map value_type descriptor.parameters) arguments → HasStack (here x) T s
        → Does x insn (constructed x.given (types.Uninitialized o) owner T) (construct (context_of x insn) t arguments v s)
    on_fresh o T v arguments s e rule f zip hs =
        let i = f.instance in
        let new = (and_parts (is_that_name reference.member.class (class_of_new x.frame.method (instruction_at x.frame.method o)))
        (list_all _ (method_guard x.frame.method method)) rule).0 in
        let text : reference.member.class ≡ i.class = sym (same_option i.class reference.member.class
        (sym f.new ∙ that_name reference.member.class (class_of_new x.frame.method (instruction_at x.frame.method o)) new)) in
        let plain : is_array_name reference.member.class ≡ false = ap is_array_name text ∙ new_plain o i.class f.new in
        let c = constructor reference t is plain called in
        let name : t.declared.by.class.name ≡ i.class = c.name ∙ text in
        let typed = h.typed.objects.each (x.made o) (InstanceOf i) f.there in
        let same_class : typed.l ≡ t.declared.by = same_option typed.l t.declared.by
        (sym typed.named ∙ ap (class_named (world_of x)) (sym name) ∙ c.there) in
        subst (λ (v : Value). Does x insn (constructed x.given (types.Uninitialized o) owner T)
        (construct (context_of x insn) t arguments v s)) (sym f.is)
        (subst (λ (w : FrameType). Does x insn (constructed x.given (types.Uninitialized o) w T)
        (construct (context_of x insn) t arguments (Reference (x.made o)) s))
        (sym (reference_of_class reference.member.class owner plain type))
        (constructs x h index (types.Uninitialized o) (x.made o) i
        (fresh_subject (here x) o v f) t reference.member.class descriptor T arguments s (object_is (types.Uninitialized o) T e)
        (order_fresh (world_of x) i t.declared.by.class.name f.raw f.none
        (subst (λ (n : List ℕ). bytes_eq n i.class ≡ true) (sym name) (nat_list_eq_equiv.refl i.class)))
        (enters_verified reference t c (subst (λ (l : Loaded). IsTrue
        (is_verified (program_of x) l)) same_class typed.verified)) c.init described_so zip hs
        (subst (λ (n : List ℕ). IsBelow (world_of x) (types.Class i.class) (class_type n)) (sym name)
        (below_is_reflexive (world_of x) (types.Class i.class)))
        (subst (λ (n : List ℕ). IsBelow (world_of x) (types.Class i.class) (class_type n)) (sym text)
        (below_is_reflexive (world_of x) (types.Class i.class)))
        (λ c g k. ready_any (here x) c x.made (later (begun_later (here x) (types.Uninitialized o) (x.made o) i
        (fresh_subject (here x) o v f) t.declared) (weaker (omega arith) g)) x.given.flag_this_uninit h.holding.ready)))

    -- on the receiver: the class is the current one, or its superclass
    record IsNext : Type 0 where
      verified : IsTrue (is_verified (program_of x) t.declared.by)
      below : IsBelow (world_of x) (current_type x.frame.method) (class_type t.declared.by.class.name)

    next : (c : IsConstructor reference t) → (bytes_eq reference.member.class current.class.name ≡ true) ⊎
        (is_that_name reference.member.class current.class.super_class ≡ true) → IsNext
    next c (inl e) =
        let name : t.declared.by.class.name ≡ current.class.name = c.name ∙ same_name reference.member.class current.class.name e in
        let same_class : current ≡ t.declared.by = same_option current t.declared.by
        (sym enterable.here ∙ ap (class_named (world_of x)) (sym name) ∙ c.there) in
        record {
          verified = subst (λ (l : Loaded). IsTrue (is_verified (program_of x) l)) same_class enterable.verified;
          below = subst (λ (n : List ℕ). IsBelow (world_of x) (current_type x.frame.method) (class_type n)) (sym name)
              (below_is_reflexive (world_of x) (current_type x.frame.method));
        }
    next c (inr e) =
        let super : current.class.super_class ≡ Some t.declared.by.class.name = that_name reference.member.class current.class.super_class e
        ∙ ap (λ (n : List ℕ). Some n) (sym c.name) in
        let stands : Contains (super_names current.class) t.declared.by.class.name =
        Contains-append_left (superclass_names current.class.super_class) current.class.interfaces t.declared.by.class.name
        (subst (λ (o : Option (List ℕ)). Contains (superclass_names o) t.declared.by.class.name) (sym super)
        (first t.declared.by.class.name [])) in
        let higher : Contains (above (world_of x) current.class) t.declared.by =
        (above_by_ways (world_of x) current.class t.declared.by).1
        ([], named_super (world_of x) (super_names current.class) t.declared.by.class.name t.declared.by stands c.there) in
        record {
          verified = above_verified (program_of x) current t.declared.by enterable.verified higher;
          below = above_is_below (world_of x) h.rooted current.class.name t.declared.by.class.name current enterable.here
              (accepted_is_loadable current enterable.here enterable.verified)
              (any_made (λ (s : Loaded). bytes_eq s.class.name t.declared.by.class.name)
              (above (world_of x) current.class) t.declared.by higher (nat_list_eq_equiv.refl t.declared.by.class.name));
        }

    this_plain : (bytes_eq reference.member.class current.class.name ≡ true) ⊎
        (is_that_name reference.member.class current.class.super_class ≡ true) → is_array_name reference.member.class ≡ false
    this_plain (inl e) = ap is_array_name (same_name reference.member.class current.class.name e) ∙ current_plain
    this_plain (inr e) = not_array (is_array_name reference.member.class)
        (subst (λ (o : Option (List ℕ)). super_name_test o ≡ true)
        (that_name reference.member.class current.class.super_class e) super_plain)
      where
        not_array : (b : Bool) → not b ≡ true → b ≡ false
        not_array false k = refl
        not_array true k = absurd (clash k)

    on_this :
        (T : List FrameType) (v : Value) (arguments s : List Value)
        → taken (world_of x) method.arguments x.given.stack ≡ Some (types.UninitializedThis ∷ T)
        → constructs_this x.frame.method method ≡ true → IsThis (here x) v
        → Zip (Fits (world_of x) x.heap.objects) (map value_type descriptor.parameters) arguments → HasStack (here x) T s
        → Does x insn (constructed x.given types.UninitializedThis (current_type x.frame.method) T)
        (construct (context_of x insn) t arguments v s)
    on_this T v arguments s e rule f zip hs =
        let which = or_cases (bytes_eq reference.member.class current.class.name)
        (is_that_name reference.member.class current.class.super_class) rule in
        let c = constructor reference t is (this_plain which) called in
        let n = next c which in
        subst (λ (v : Value). Does x insn (constructed x.given types.UninitializedThis (current_type x.frame.method) T)
        (construct (context_of x insn) t arguments v s)) (sym f.is)
        (constructs x h index types.UninitializedThis f.number f.instance
        (this_subject (here x) v f) t current.class.name descriptor T arguments s (object_is types.UninitializedThis T e)
        (order_this (world_of x) f.instance current t.declared.by.class.name f.raw f.entered enterable.here
        (subst (λ (m : List ℕ). (bytes_eq m current.class.name || is_that_name m current.class.super_class) ≡ true) (sym c.name) rule))
        (enters_verified reference t c n.verified) c.init described_so zip hs
        (below_is_transitive (world_of x) h.rooted (types.Class f.instance.class) (current_type x.frame.method)
        (class_type t.declared.by.class.name) f.below n.below) f.below
        (λ c g k. λ _. (f.number, f.receiver, λ _. k)))

    -- whatever stands there
    on_top :
        (S : List FrameType) (arguments s : List Value) → taken (world_of x) method.arguments x.given.stack ≡ Some S
        → Zip (Fits (world_of x) x.heap.objects) (map value_type descriptor.parameters) arguments → HasStack (here x) S s
        → By x insn (construct_top x.frame.method method x.given S)
        (popped_reference s >>= λ receiver. call_special (context_of x insn) t arguments receiver.0 receiver.1
        (is_init t.declared.method.name))
    on_top [] arguments s e zip hs = record { by = tt }
    on_top (types.Uninitialized o ∷ T) arguments (v ∷ s) e zip hs = by_test (constructs_new x.frame.method method o) refl
      where
        by_test : (b : Bool) → constructs_new x.frame.method method o ≡ b
            → By x insn (option_map (λ type. constructed x.given (types.Uninitialized o) type T) (when b owner))
            (popped_reference (v ∷ s) >>= λ receiver. call_special (context_of x insn) t arguments receiver.0 receiver.1
            (is_init t.declared.method.name))
        by_test false k = record { by = tt }
        by_test true k =
            let f = hs.0.fits in
            agrees_from (rw (ap is_init called.name ∙ is) (rw (Rattle.jv_sound.proofs.Types.kind_fits
            (here x) Rattle.jv_code.specs.declared.kinds.ValueKind.TheVariants.Reference (types.Uninitialized o) v refl f)
            (on_fresh o T v arguments s e k f zip hs.1)))
    on_top (types.UninitializedThis ∷ T) arguments (v ∷ s) e zip hs = by_test (constructs_this x.frame.method method) refl
      where
        by_test : (b : Bool) → constructs_this x.frame.method method ≡ b
            → By x insn (option_map (λ type. constructed x.given types.UninitializedThis type T) (when b (current_type x.frame.method)))
            (popped_reference (v ∷ s) >>= λ receiver. call_special (context_of x insn) t arguments receiver.0 receiver.1
            (is_init t.declared.method.name))
        by_test false k = record { by = tt }
        by_test true k =
            let f = hs.0.fits in
            agrees_from (rw (ap is_init called.name ∙ is) (rw (Rattle.jv_sound.proofs.Types.kind_fits
            (here x) Rattle.jv_code.specs.declared.kinds.ValueKind.TheVariants.Reference types.UninitializedThis v refl f)
            (on_this T v arguments s e k f zip hs.1)))
    on_top (y ∷ T) arguments (v ∷ s) e zip hs = record { by = tt }
    on_top (y ∷ T) arguments [] e zip hs = absurd hs

  pub invoke_special_ok : Sound x insn
  invoke_special_ok =
      method_ok x h insn Invokespecial index
      (λ method. rules_format.◌>>=◌ (when (goes_with_version x.frame.method method) method) (λ method. invoke_special x.frame.method method x.given))
      (λ reference owner descriptor operand can type described.
      asked x h insn Invokespecial (goes_with_version x.frame.method (method_use reference owner descriptor))
      (method_use reference owner descriptor) (λ method. invoke_special x.frame.method method x.given) (calling x h insn Invokespecial reference)
      (λ goes. by_name reference owner descriptor goes operand can type described (is_init reference.member.name) refl))
    where
      by_name : (reference : MethodReference) (owner : FrameType) (descriptor : MethodDescriptor)
          → goes_with_version x.frame.method (method_use reference owner descriptor) ≡ true → method_operand (current_class x.frame.method) index ≡ Some reference
          → can_be_of reference.constant reference.member.class ≡ true
          → reference_type reference.member.class ≡ Some owner → method_type_of reference.member.descriptor ≡ Some descriptor → (b : Bool)
          → is_init reference.member.name ≡ b
          → By x insn (if b then invoke_init x.frame.method (method_use reference owner descriptor) x.given else rules.invoke_super
          x.frame.method (method_use reference owner descriptor) x.given) (calling x h insn Invokespecial reference)
      by_name reference owner descriptor goes operand can type described false e = super_ok x h coded root is_root accepted_is_loadable enterable
          index sorts reference owner descriptor goes operand type described
      by_name reference owner descriptor goes operand can type described true e =
          target_ok x h insn Invokespecial _ reference descriptor goes described (λ t called.
          then2_from (taken_all (here x) h.rooted h.loadable (map value_type descriptor.parameters) x.given.stack x.frame.stack
          (sorts_mapped descriptor.parameters (sorts reference descriptor operand described).0) h.holding.stack) (λ S arguments k f.
          on_top reference owner descriptor operand can type described e t called S arguments.0 arguments.1 k f.0 f.1))
