-- invokespecial of methods other than `<init>` (JVMS 6.5, 4.10.1.9): of the current class, or of one above it.
use Rattle.std.proofs.Common.{◌≡◌, ◌⊎◌, inl, inr, ℕ, Bool, true, false, not, ◌&&◌, ◌||◌, List, [], ◌∷◌, map, Option, Some, None, Ok, refl, sym, ap, subst, ◌∙◌}
use Rattle.std.specs.Prelude.{IsTrue, slice_get, if◌then◌else◌}
use Rattle.std.specs.List.{Contains}
use Rattle.std.specs.Str.{bytes_eq}
use Rattle.std.proofs.lemmas.Bool.{or_cases}
use Rattle.jv_format.specs.Format as rules_format
use Rattle.jv_text.specs.declared.descriptor.FieldTypeOf.{FieldTypeOf}
use Rattle.jv_text.specs.Descriptor.{MethodDescriptor}
use Rattle.jv_text.specs.Name.{is_array_name, is_init}
use Rattle.jv_text.specs.Types.{field_type_of, method_type_of}
use Rattle.jv_stackmap.specs.declared.verification.VerificationTypeOf.TheVariants as types
use Rattle.jv_stackmap.specs.Types.{FrameType, reference_type, value_type}
use Rattle.jv_stackmap.specs.Frames.{Frame as TypesOf}
use Rattle.jv_code.specs.declared.insn.Insn.TheVariants as insns
use Rattle.jv_code.specs.declared.kinds.Invocation.TheVariants as invocations
use Rattle.jv_code.specs.Insns.{Instruction}
use Rattle.jv_meaning_world.specs.World.{Loaded, class_named}
use Rattle.jv_meaning_world.specs.Above.{above}
use Rattle.jv_meaning_world.specs.Verdicts.{is_interface, is_loadable}
use Rattle.jv_meaning_world.proofs.Standing.{named_super}
use Rattle.jv_meaning_world.proofs.Up.{above_by_ways, above_is_transitive, same_name}
use Rattle.jv_meaning_world.proofs.OrderChains.{any_found}
use Rattle.jv_meaning_typing.specs.LinkErrors.LinkError.{NoSuchMethodError}
use Rattle.jv_meaning_typing.specs.Uses.Use.{Invokespecial}
use Rattle.jv_meaning_typing.specs.LinkingLaws.{IsRun, IsRootClass}
use Rattle.jv_meaning_typing.specs.Operands.{MethodReference, method_operand}
use Rattle.jv_meaning_typing.specs.MethodResolution.{MethodTarget}
use Rattle.jv_meaning_typing.specs.Selection.{select, special_start}
use Rattle.jv_meaning_typing.proofs.Run.{special_is_run}
use Rattle.jv_meaning_typing.proofs.Searched.{interfaces_above}
use Rattle.jv_meaning_world.specs.Flow.{class_flows, flows, is_loadable_interface}
use Rattle.jv_meaning_world.specs.Laws.Order.{IsBelow, names_interface}
use Rattle.jv_meaning_typing.specs.Environment.{current_class}
use Rattle.jv_meaning_typing.specs.MemberRules.{has_plain_name, called_on, is_direct_interface, is_interface_named, is_near, invoke_super}
use Rattle.jv_meaning_typing.specs.Named.{method_use, current_type}
use Rattle.jv_meaning_machine.specs.Faults.{◌>>=◌}
use Rattle.jv_meaning_machine.specs.Calls.{is_constant_for, call_special, call_instance}
use Rattle.jv_meaning_machine.specs.Operands.{taken, popped_reference}
use Rattle.jv_meaning_machine.specs.Objects.{Object}
use Rattle.jv_meaning_machine.specs.Initialization.{is_verified}
use Rattle.jv_sound.specs.Values.{object_type}
use Rattle.jv_sound.specs.Sound.{AreSorts, IsResultSort, IsEnterable}
use Rattle.jv_sound.proofs.Logic.{clash}
use Rattle.jv_sound.proofs.Taking.{and_parts}
use Rattle.jv_sound.proofs.Special.{start_ok, special_enterable, special_received}
use Rattle.jv_sound.proofs.Resolving.{IsNamedClass, named_class, resolved_class}
use Rattle.jv_sound.proofs.ResolvedTypes.{same_option, reference_of_class}
use Rattle.jv_sound.proofs.StaticCalls.{plain_name}
use Rattle.jv_sound.proofs.InstanceCalls.{HasCode, IsRoot, CanRun, no_static, of_root, call_instance_by, call_ok}
use Rattle.jv_sound.proofs.MethodUses.{calling, target_ok}
use Rattle.jv_sound.proofs.Ways.{Setting, IsSet, world_of, program_of, context_of, By}

-- a class flows to no array
pub class_owner : (world : _) (x text : List ℕ) (owner : FrameType) → reference_type text ≡ Some owner
    → flows world (types.Class x) owner ≡ true → (is_array_name text ≡ false) × (owner ≡ types.Class text)
class_owner world x text owner type flow = by_array (is_array_name text) refl
  where
    array_owner : (o : Option (FieldTypeOf (List ℕ))) → rules_format.◌>>=◌ o Rattle.jv_stackmap.specs.Types.array_of ≡ Some
        owner → ⊥
    array_owner None e = absurd cc
    array_owner (Some t) e = clash (ap (flows world (types.Class x))
        (same_option (types.Array (Rattle.jv_stackmap.specs.Types.component t)) owner e) ∙ flow)

    of_array : (b c : Bool) → b ≡ true → (if b then rules_format.◌>>=◌
        (field_type_of text) Rattle.jv_stackmap.specs.Types.array_of else if c then Some
        (types.Class text) else None) ≡ Some owner → ⊥
    of_array true c b e = array_owner (field_type_of text) e
    of_array false c b e = clash b

    by_array : (b : Bool) → is_array_name text ≡ b → (is_array_name text ≡ false) × (owner ≡ types.Class text)
    by_array true a = absurd (of_array (is_array_name text) _ a type)
    by_array false a = (a, reference_of_class text owner a type)

module _ (x : Setting) (h : IsSet x) (coded : HasCode (program_of x)) (root : Loaded) (is_root : IsRoot (program_of x) root)
    (accepted_is_loadable : (l : Loaded) → class_named (world_of x) l.class.name ≡ Some l → IsTrue (is_verified (program_of x) l)
    → IsTrue (is_loadable (world_of x) l))
    (enterable : IsEnterable (program_of x) x.frame.method.site) (index : ℕ)
    (sorts : (reference : MethodReference) (d : MethodDescriptor) → method_operand (current_class x.frame.method) index ≡ Some reference
    → method_type_of reference.member.descriptor ≡ Some d → AreSorts d.parameters × IsResultSort d.result) where
  abbrev current : Loaded
  current = x.frame.method.site.by

  current_loadable : IsTrue (is_loadable (world_of x) current)
  current_loadable = accepted_is_loadable current enterable.here enterable.verified

  -- an interface that is named is the current class, or among its direct superinterfaces
  near_is_above : (named : Loaded) → class_named (world_of x) named.class.name ≡ Some named → is_near x.frame.method named.class.name ≡ true
      → IsTrue (names_interface (world_of x) named.class.name)
      → (current ≡ named) ⊎ Contains (above (world_of x) current.class) named
  near_is_above named there near i =
      by_near (or_cases (bytes_eq named.class.name current.class.name) (is_direct_interface x.frame.method named.class.name)
      (rest (class_named (world_of x) named.class.name) i near))
    where
      rest : (o : Option Loaded) → IsTrue (is_loadable_interface (world_of x) o)
          → (not (is_interface_named x.frame.method named.class.name o) ||
          (bytes_eq named.class.name current.class.name || is_direct_interface x.frame.method named.class.name)) ≡ true
          → (bytes_eq named.class.name current.class.name || is_direct_interface x.frame.method named.class.name) ≡ true
      rest None i n = absurd (clash i)
      rest (Some l) i n = subst (λ (b : Bool). (not b || (bytes_eq named.class.name current.class.name || is_direct_interface x.frame.method
          named.class.name)) ≡ true) (and_parts (is_loadable (world_of x) l) (is_interface l) i).1 n

      by_near : (bytes_eq named.class.name current.class.name ≡ true) ⊎ (is_direct_interface x.frame.method named.class.name ≡ true)
          → (current ≡ named) ⊎ Contains (above (world_of x) current.class) named
      by_near (inl e) = inl (same_option current named (sym enterable.here ∙ ap (class_named (world_of x))
          (sym (same_name named.class.name current.class.name e)) ∙ there))
      by_near (inr e) =
          let found = any_found (λ i. bytes_eq i named.class.name) current.class.interfaces e in
          let contained = subst (λ (n : List ℕ). Contains current.class.interfaces n)
          (same_name found.0 named.class.name found.2) found.1 in
          inr (interfaces_above above_by_ways above_is_transitive (world_of x) current.class named
          (named_super (world_of x) current.class.interfaces named.class.name named contained there))

  selects :
      (t : MethodTarget) (named : IsNamedClass (world_of x) t.named.class.name t.named)
      → class_flows (world_of x) current.class.name t.named.class.name ≡ true → is_near x.frame.method t.named.class.name ≡ true
      → is_init t.declared.method.name ≡ false
      → (o : Object) (id : ℕ) (class : Option Loaded) → slice_get x.heap.objects id ≡ Some o
      → IsBelow (world_of x) (object_type o) (current_type x.frame.method)
      → (s : MethodTarget) → select (world_of x) x.frame.method.site Invokespecial t class ≡ Ok s
      → CanRun (program_of x) x.heap.objects o t.declared s.declared
  selects t named flow near plain o id class there below s e = by_run
      (special_is_run above_by_ways above_is_transitive (world_of x) x.frame.method.site t s class (ap not plain) e).1
    where
      by_run : IsRun (world_of x) (special_start (world_of x) current t.named) t.declared s.declared
          ⊎ ((top : Loaded) × IsTrue (is_interface (special_start (world_of x) current t.named)) × IsRootClass (world_of x) top
          × IsRun (world_of x) top t.declared s.declared)
          → CanRun (program_of x) x.heap.objects o t.declared s.declared
      by_run (inl run) =
          let at = start_ok (program_of x) h.rooted current enterable.here enterable.verified current_loadable t.named named.there flow
          (near_is_above t.named named.there near) in
          record {
            enterable = special_enterable (program_of x) h.rooted current enterable.here enterable.verified current_loadable
                (special_start (world_of x) current t.named) at t.declared s.declared coded run;
            received = special_received (program_of x) h.rooted current enterable.here enterable.verified current_loadable
                (special_start (world_of x) current t.named) at x.heap.objects o
                (h.typed.objects.each id o there) below t.declared s.declared run;
            name = run.name;
            descriptor = run.descriptor;
            instance = no_static _ run.instance;
          }
      by_run (inr (top, i, is_top, run)) =
          of_root x h coded root is_root accepted_is_loadable o id there t.declared s.declared
          (subst (λ (l : Loaded). IsRun (world_of x) l t.declared s.declared) (same_option top root (sym is_top ∙ is_root.named)) run)

  abbrev special : Instruction
  special = insns.Invoke invocations.Special index

  pub super_ok :
      (reference : MethodReference) (owner : FrameType) (descriptor : MethodDescriptor)
      → is_constant_for (current_class x.frame.method) Invokespecial reference ≡ true
      → method_operand (current_class x.frame.method) index ≡ Some reference → reference_type reference.member.class ≡ Some owner
      → method_type_of reference.member.descriptor ≡ Some descriptor
      → By x special (invoke_super x.frame.method (method_use reference owner descriptor) x.given)
      (calling x h special Invokespecial reference)
  super_ok reference owner descriptor constant operand type described =
      by_test (has_plain_name (method_use reference owner descriptor)) refl (flows (world_of x) (current_type x.frame.method) owner) refl
      (is_near x.frame.method reference.member.class) refl
    where
      -- the machine asks whether it is an `<init>`
      not_init : (descriptor : MethodDescriptor) (t : MethodTarget) → is_init t.declared.method.name ≡ false → {rule : Option TypesOf}
          → By x special rule (call_instance_by x h coded root is_root accepted_is_loadable
          (context_of x special) Invokespecial descriptor t)
          → By x special rule (call_instance (context_of x special) Invokespecial descriptor t)
      not_init descriptor t plain {rule} k =
          subst (λ (b : Bool). By x special rule (taken x.heap.objects
          (map value_type descriptor.parameters) x.frame.stack >>= λ arguments. popped_reference arguments.1 >>= λ receiver.
          call_special (context_of x special) t arguments.0 receiver.0 receiver.1 b)) (sym plain) k

      by_test : (a : Bool) → has_plain_name (method_use reference owner descriptor) ≡ a → (b : Bool)
          → flows (world_of x) (current_type x.frame.method) owner ≡ b → (c : Bool) → is_near x.frame.method reference.member.class ≡ c
          → By x special (if a && b && c then called_on x.frame.method (method_use reference owner descriptor)
          (current_type x.frame.method ∷ []) x.given else None) (calling x h special Invokespecial reference)
      by_test false e b f c n = record { by = tt }
      by_test true e false f c n = record { by = tt }
      by_test true e true f false n = record { by = tt }
      by_test true e true f true n =
          let own = class_owner (world_of x) current.class.name reference.member.class owner type f in
          target_ok x h special Invokespecial _ reference descriptor constant described (λ t called.
          let named = resolved_class (world_of x) h.alone reference.member.class t.named
          (named_class (world_of x) current reference.member NoSuchMethodError t.named own.0 called.named_so) in
          let own_named : IsNamedClass (world_of x) t.named.class.name t.named = record
          { name = refl; there = named.there; loadable = named.loadable } in
          let flow : class_flows (world_of x) current.class.name t.named.class.name ≡ true =
          subst (λ (n : List ℕ). class_flows (world_of x) current.class.name n ≡ true) (sym named.name)
          (ap (flows (world_of x) (current_type x.frame.method)) (sym own.1) ∙ f) in
          let near : is_near x.frame.method t.named.class.name ≡ true = subst (λ (n : List ℕ). is_near x.frame.method n ≡ true)
          (sym named.name) n in
          let plain : is_init t.declared.method.name ≡ false = ap is_init called.name ∙ plain_name
          (method_use reference owner descriptor) e in
          not_init descriptor t plain
          (call_ok x h coded root is_root accepted_is_loadable special descriptor Invokespecial t
          (current_type x.frame.method) [] refl refl plain (ap method_type_of called.descriptor ∙ described)
          (λ o id class there below is s k. selects t own_named flow near plain o id class there below s k)
          (sorts reference descriptor operand described).0 (sorts reference descriptor operand described).1))
