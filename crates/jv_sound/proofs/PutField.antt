-- putfield (JVMS 6.5), also on an object that an `<init>` has under construction (4.10.1.9).
use Rattle.std.proofs.Common.{◌≡◌, ℕ, suc, Bool, true, false, ◌&&◌, ◌||◌, List, [], ◌∷◌, Option, Some, refl, sym, ap, subst, ◌∙◌, arith}
use Rattle.std.specs.Prelude.{is_some, slice_get}
use Rattle.std.specs.List.{Contains}
use Rattle.std.specs.Str.{bytes_eq}
use Rattle.std.proofs.lemmas.Bool.{eq-eqb}
use Rattle.jv_format.specs.Format as rules_format
use Rattle.jv_text.specs.declared.descriptor.FieldTypeOf.{FieldTypeOf}
use Rattle.jv_text.specs.Name.{is_init}
use Rattle.jv_text.specs.Types.{field_type_of}
use Rattle.jv_stackmap.specs.declared.verification.VerificationTypeOf.TheVariants as types
use Rattle.jv_stackmap.specs.Types.{FrameType, value_type}
use Rattle.jv_code.specs.declared.insn.Insn.TheVariants as insns
use Rattle.jv_code.specs.declared.kinds.FieldAccess.TheVariants as access
use Rattle.jv_code.specs.Insns.{Instruction}
use Rattle.jv_class.specs.Class.{Field, field_named}
use Rattle.jv_pool.specs.Constants.{MemberReference}
use Rattle.jv_meaning_world.specs.World.{Loaded, class_named}
use Rattle.jv_meaning_world.specs.Verdicts.{is_interface}
use Rattle.jv_meaning_world.specs.LookUps.{DeclaredField}
use Rattle.jv_meaning_world.proofs.Up.{same_name}
use Rattle.jv_meaning_typing.specs.Kind.{is_static_field}
use Rattle.jv_meaning_typing.specs.Operands.{field_operand}
use Rattle.jv_meaning_typing.specs.Uses.Use.{Putfield}
use Rattle.jv_meaning_world.specs.Laws.Order.{IsBelow, object_name}
use Rattle.jv_meaning_typing.specs.Environment.{current_class}
use Rattle.jv_meaning_typing.specs.FrameChanges.{with_stack, taken_as_all}
use Rattle.jv_meaning_typing.specs.MemberRules as rules
use Rattle.jv_meaning_typing.specs.MemberRules.{field_guard, sets_own_field, taken_for_store}
use Rattle.jv_meaning_typing.specs.Named.{FieldUse, field_use, object_class_type, when}
use Rattle.jv_meaning_machine.specs.Faults.{◌>>=◌}
use Rattle.jv_meaning_machine.specs.Faults.Fault.{OffsetFault, ReferenceFault, ConstructionFault}
use Rattle.jv_meaning_machine.specs.Values.{Value, narrowed}
use Rattle.jv_meaning_machine.specs.Values.Value.{Null, Reference}
use Rattle.jv_meaning_machine.specs.Objects.{Instance, Object, key_of, value_at}
use Rattle.jv_meaning_machine.specs.Objects.Object.{InstanceOf}
use Rattle.jv_meaning_machine.specs.Operands.{popped_reference, taken_as}
use Rattle.jv_meaning_machine.specs.Effects.{null_pointer}
use Rattle.jv_meaning_machine.specs.Fields.{instance_in, can_be_set, is_receiver, with_object, with_field_value, put_field_of}
use Rattle.jv_sound.specs.Values.{Fits, FitsDescribed, Heap, IsReferenceTo, IsThis, HasStack, object_type}
use Rattle.jv_sound.specs.Memory.{IsTypedInstance, IsTypedObject}
use Rattle.jv_sound.specs.Later.{IsLater}
use Rattle.jv_sound.specs.Sound.{IsSort}
use Rattle.jv_sound.specs.Frames.{Holds}
use Rattle.jv_sound.proofs.Logic.{clash, then2, then1, holds, then_holds, found_holds, tested_holds, handed_over}
use Rattle.jv_sound.proofs.Types.{sort_has_type}
use Rattle.jv_sound.proofs.Heaps.{with_set, set_later, stack_later, fits_later, entries_later}
use Rattle.jv_sound.proofs.Taking.{and_parts, taken_one, popped_ok}
use Rattle.jv_sound.proofs.Pure.{agrees_from}
use Rattle.jv_sound.proofs.Storing.{set_typed, with_value_fits, with_value_keys}
use Rattle.jv_sound.proofs.Storing.{narrowed_fits}
use Rattle.jv_sound.proofs.FieldsFound.{IsFieldFound, field_found, object_field}
use Rattle.jv_sound.proofs.FieldUses.{field_ok}
use Rattle.jv_sound.proofs.GetField.{instance_kind}
use Rattle.jv_sound.proofs.Ways.{Setting, IsSet, world_of, program_of, memory_of, context_of, here, Does, By, Sound, goes_with_ok, raises_ok}

or_first : (a b : Bool) → a ≡ true → (a || b) ≡ true
or_first true b e = refl
or_first false b e = absurd (clash e)

or_second : (a b : Bool) → b ≡ true → (a || b) ≡ true
or_second true b e = refl
or_second false b e = e

and_both : (a b : Bool) → a ≡ true → b ≡ true → (a && b) ≡ true
and_both true b e k = k
and_both false b e k = absurd (clash e)

module _ (x : Setting) (h : IsSet x)
    (interfaces_are_static : (l : Loaded) → Contains (world_of x) l → is_interface l ≡ true → (name descriptor : List ℕ) (f : Field)
    → field_named l.class name descriptor ≡ Some f → is_static_field f ≡ true)
    (object_has_none : (l : Loaded) → class_named (world_of x) object_name ≡ Some l → (name descriptor : List ℕ) (f : Field)
    → field_named l.class name descriptor ≡ Some f → ⊥) (index : ℕ)
    (sorts : (reference : MemberReference) (type : FieldTypeOf (List ℕ))
    → field_operand (current_class x.frame.method) index ≡ Some reference → field_type_of reference.descriptor ≡ Some type
    → IsSort (value_type type)) where
  abbrev insn : Instruction
  insn = insns.Field access.PutField index

  abbrev stored_field : MemberReference → FieldTypeOf (List ℕ) → FieldUse
  stored_field reference type = field_use reference (types.Class reference.class) type

  -- an object whose class has the field, and that can be stored to
  stored_ok :
      (reference : MemberReference) (d : DeclaredField) (type : FieldTypeOf (List ℕ)) (S : List FrameType) (s : List Value) (id : ℕ)
      (o : Object) (v : Value)
      → IsFieldFound (program_of x) Putfield reference d → field_type_of reference.descriptor ≡ Some type
      → slice_get x.heap.objects id ≡ Some o
      → IsBelow (world_of x) (object_type o) (types.Class reference.class)
      → ((i : Instance) → o ≡ InstanceOf i → can_be_set (context_of x insn) reference id i ≡ true)
      → Fits (world_of x) x.heap.objects (value_type type) v → HasStack (here x) S s
      → Does x insn (with_stack x.given S) (put_field_of (context_of x insn) reference d (Reference id) v s)
  stored_ok reference d type S s id o v known described at below settable f hs =
      let typed = h.typed.objects.each id o at in
      let has = object_field (program_of x) h.rooted interfaces_are_static object_has_none x.heap.objects Putfield reference d o typed known
      (instance_kind (is_static_field d.field) known.kind) below in
      let i = has.0 in
      let there : slice_get x.heap.objects id ≡ Some (InstanceOf i) = at ∙ ap Some has.1 in
      then_holds (then_holds (found_holds {P = λ o. o ≡ InstanceOf i} ReferenceFault (slice_get x.heap.objects id)
      (InstanceOf i) there refl) (λ o same_object. subst (λ (o : Object). Holds (λ j. j ≡ i) (instance_in o)) (sym same_object)
      (holds refl))) (λ j same_instance.
      then_holds (tested_holds {P = λ k. k ≡ i} ConstructionFault _ j
      (ap (λ (k : Instance). can_be_set (context_of x insn) reference id k) same_instance ∙ settable i has.1) same_instance)
      (λ k same_set.
      then_holds (tested_holds {P = λ k. k ≡ i} ReferenceFault _ k
      (ap (λ (k : Instance). is_some (value_at (key_of d) k.fields)) same_set ∙ ap is_some has.2.held) same_set) (λ k same_held.
      subst (λ (k : Instance). Does x insn (with_stack x.given S)
      (Rattle.jv_meaning_machine.specs.Effects.goes_on_with (context_of x insn)
      (with_object id (with_field_value (key_of d) v k) (memory_of x)) s)) (sym same_held)
      (goes_with_ok x h insn S s (after i) (with_object id (with_field_value (key_of d) v i) (memory_of x)) refl (grows i there) refl
      (set_typed (program_of x) x.heap (after i) (memory_of x) id (with_field_value (key_of d) v i) refl refl h.typed
      (Rattle.jv_sound.proofs.Heaps.weaker (omega arith) (grows i there))
      (new i there (subst (λ (o : Object). IsTypedObject (program_of x) x.heap.objects o) has.1 typed)))
      (stack_later (here x) (after i) (grows i there) S s hs)))))
    where
      after : Instance → Heap
      after i = with_set x.heap id (with_field_value (key_of d) v i) (x.heap.owner id)

      grows : (i : Instance) → slice_get x.heap.objects id ≡ Some (InstanceOf i) → IsLater (suc x.depth) x.heap (after i)
      grows i there = set_later (suc x.depth) x.heap id (InstanceOf i) (with_field_value (key_of d) v i) (x.heap.owner id) there refl
          (λ e. e) (λ l. (refl, refl, refl))

      fits : (i : Instance) → slice_get x.heap.objects id ≡ Some (InstanceOf i)
          → FitsDescribed (world_of x) (after i).objects (field_type_of d.field.descriptor) v
      fits i there = subst (λ (o : Option (FieldTypeOf (List ℕ))). FitsDescribed (world_of x) (after i).objects o v)
          (sym (ap field_type_of known.descriptor ∙ described))
          (fits_later (world_of x) (grows i there) (value_type type) v f)

      new : (i : Instance) → slice_get x.heap.objects id ≡ Some (InstanceOf i) → IsTypedInstance (program_of x) x.heap.objects i
          → IsTypedObject (program_of x) (after i).objects (with_field_value (key_of d) v i)
      new i there t = record {
        l = t.l;
        named = t.named;
        loadable = t.loadable;
        verified = t.verified;
        plain = t.plain;
        keys = with_value_keys (key_of d) v i.fields ∙ t.keys;
        values = with_value_fits (world_of x) (after i).objects (key_of d) v i.fields (fits i there)
            (entries_later (world_of x) (grows i there) i.fields t.values);
      }

  -- behind the value: null, or an object of the named class
  on_value :
      (reference : MemberReference) (d : DeclaredField) (type : FieldTypeOf (List ℕ)) (S : List FrameType) (s : List Value) (u v : Value)
      → IsFieldFound (program_of x) Putfield reference d → field_type_of reference.descriptor ≡ Some type
      → IsReferenceTo (world_of x) x.heap.objects (types.Class reference.class) u → Fits (world_of x) x.heap.objects (value_type type) v
      → HasStack (here x) S s
      → Does x insn (with_stack x.given S) (put_field_of (context_of x insn) reference d u v s)
  on_value reference d type S s Null v known described g f hs = raises_ok x h insn (with_stack x.given S) null_pointer refl refl
  on_value reference d type S s (Reference id) v known described g f hs =
      stored_ok reference d type S s id g.object v known described g.there g.below
      (λ i e. or_first i.constructed _ (ap Rattle.jv_meaning_machine.specs.Objects.is_constructed
      (sym e) ∙ g.constructed)) f hs
  on_value reference d type S s _ v known described g f hs = absurd g

  -- the receiver of an `<init>`, before it calls another one
  on_this :
      (reference : MemberReference) (d : DeclaredField) (type : FieldTypeOf (List ℕ)) (S : List FrameType) (s : List Value) (u v : Value)
      → IsFieldFound (program_of x) Putfield reference d → field_type_of reference.descriptor ≡ Some type
      → sets_own_field x.frame.method (field_use reference (types.Class reference.class) type) ≡ true
      → IsThis (here x) u → Fits (world_of x) x.heap.objects (value_type type) v → HasStack (here x) S s
      → Does x insn (with_stack x.given S) (popped_reference (u ∷ s) >>= λ under. put_field_of
      (context_of x insn) reference d under.0 v under.1)
  on_this reference d type S s u v known described own g f hs =
      let parts = and_parts (is_init x.frame.method.site.method.name) (bytes_eq reference.class (current_class x.frame.method).name) own in
      let name : reference.class ≡ (current_class x.frame.method).name = same_name reference.class
      (current_class x.frame.method).name parts.1 in
      subst (λ (u : Value). Does x insn (with_stack x.given S) (popped_reference (u ∷ s) >>= λ under. put_field_of
      (context_of x insn) reference d under.0 v under.1)) (sym g.is)
      (stored_ok reference d type S s g.number (InstanceOf g.instance) v known described g.there
      (subst (λ (n : List ℕ). IsBelow (world_of x) (types.Class g.instance.class) (types.Class n)) (sym name) g.below)
      (λ i e. or_second i.constructed _ (and_both (is_init x.frame.method.site.method.name && is_receiver x.frame.receiver g.number)
      (bytes_eq reference.class (current_class x.frame.method).name)
      (and_both (is_init x.frame.method.site.method.name) (is_receiver x.frame.receiver g.number) g.constructor
      (ap (λ (o : Option ℕ). is_receiver o g.number) g.receiver ∙ eq-eqb g.number g.number refl)) parts.1)) f hs)

  below_value :
      (reference : MemberReference) (d : DeclaredField) (type : FieldTypeOf (List ℕ)) (S : List FrameType) (s : List Value) (v : Value)
      → IsFieldFound (program_of x) Putfield reference d → field_type_of reference.descriptor ≡ Some type
      → Fits (world_of x) x.heap.objects (value_type type) v → HasStack (here x) S s
      → By x insn (rules_format.◌>>=◌ (taken_for_store x.frame.method (field_use reference (types.Class reference.class) type) S)
      (λ below. Some (with_stack x.given below)))
      (popped_reference s >>= λ under. put_field_of (context_of x insn) reference d under.0 v under.1)
  below_value reference d type S s v known described f hs = by_stack S s hs
    where
      others : (T : List FrameType) (t : List Value) → HasStack (here x) T t
          → By x insn (rules_format.◌>>=◌ (taken_as_all (world_of x)
          ((stored_field reference type).owner ∷ field_guard x.frame.method (stored_field reference type)) T)
          (λ below. Some (with_stack x.given below)))
          (popped_reference t >>= λ under. put_field_of (context_of x insn) reference d under.0 v under.1)
      others T t ht =
          then2 (popped_ok (here x) h.rooted h.loadable (types.Class reference.class) object_class_type
          (field_guard x.frame.method (stored_field reference type)) T t tt
          (λ v f. sort_has_type (world_of x) x.heap.objects (types.Class reference.class) v tt f) ht)
          (λ S top g. agrees_from (on_value reference d type S top.1 top.0 v known described g.0 f g.1))

      this : (b : Bool) → sets_own_field x.frame.method (stored_field reference type) ≡ b
          → (T : List FrameType) (u : Value) (t : List Value) → IsThis (here x) u → HasStack (here x) T t
          → By x insn (rules_format.◌>>=◌ (when b T) (λ below. Some (with_stack x.given below)))
          (popped_reference (u ∷ t) >>= λ under. put_field_of (context_of x insn) reference d under.0 v under.1)
      this false e T u t g ht = record { by = tt }
      this true e T u t g ht = agrees_from (on_this reference d type T t u v known described e g f ht)

      by_stack : (T : List FrameType) (t : List Value) → HasStack (here x) T t
          → By x insn (rules_format.◌>>=◌ (taken_for_store x.frame.method (stored_field reference type) T)
          (λ below. Some (with_stack x.given below)))
          (popped_reference t >>= λ under. put_field_of (context_of x insn) reference d under.0 v under.1)
      by_stack [] t ht = record { by = tt }
      by_stack (types.UninitializedThis ∷ T) (u ∷ t) ht = this (sets_own_field x.frame.method
          (stored_field reference type)) refl T u t ht.0.fits ht.1
      by_stack (y ∷ T) (u ∷ t) ht = others (y ∷ T) (u ∷ t) ht
      by_stack (y ∷ T) [] ht = absurd ht

  pub put_field_ok : Sound x insn
  put_field_ok =
      field_ok x h access.PutField index sorts (λ reference type d plain described sort e.
      let known = field_found (program_of x) h.rooted h.alone x.frame.method.site Putfield reference d plain e in
      then1 (found_holds {P = λ t. t ≡ type} OffsetFault (field_type_of d.field.descriptor) type
      (ap field_type_of known.descriptor ∙ described) refl) (λ t same_type.
      subst (λ (t : FieldTypeOf (List ℕ)). By x insn (rules.put_field x.frame.method
      (field_use reference (types.Class reference.class) type) x.given)
      (taken_as x.heap.objects (value_type t) x.frame.stack >>= λ top. popped_reference top.1 >>= λ under. put_field_of
      (context_of x insn) reference d under.0 (narrowed t top.0) under.1)) (sym same_type)
      (handed_over (taken_as_all (world_of x) (value_type type ∷ []) x.given.stack)
      (taken_for_store x.frame.method (field_use reference (types.Class reference.class) type)) (λ below. Some (with_stack x.given below)) _
      (then2 (taken_one (here x) h.rooted h.loadable (value_type type) x.given.stack x.frame.stack sort h.holding.stack) (λ S top f.
      below_value reference d type S top.1 (narrowed type top.0) known described
      (narrowed_fits (world_of x) x.heap.objects type top.0 f.0) f.1)))))
