-- invokevirtual and invokeinterface (JVMS 6.5).
use Rattle.std.proofs.Common.{◌≡◌, ◌⊎◌, inl, inr, ℕ, Bool, true, false, not, ◌&&◌, [], ◌∷◌, Option, Some, None, Ok, refl, sym, ap, subst, ◌∙◌}
use Rattle.std.specs.Prelude.{IsTrue, slice_get, if◌then◌else◌}
use Rattle.std.specs.Option.{ok_or}
use Rattle.jv_format.specs.Format as rules_format
use Rattle.jv_text.specs.Descriptor.{MethodDescriptor}
use Rattle.jv_text.specs.Name.{is_init}
use Rattle.jv_text.specs.Types.{method_type_of}
use Rattle.jv_stackmap.specs.Types.{FrameType, reference_type}
use Rattle.jv_code.specs.declared.insn.Insn.TheVariants as insns
use Rattle.jv_code.specs.declared.kinds.Invocation.TheVariants as invocations
use Rattle.jv_code.specs.Insns.{Instruction}
use Rattle.jv_meaning_world.specs.World.{Loaded, class_named}
use Rattle.jv_meaning_world.specs.Verdicts.{is_loadable}
use Rattle.jv_meaning_world.proofs.Up.{above_by_ways, above_is_transitive}
use Rattle.jv_meaning_typing.specs.LinkErrors.LinkError.{AbstractMethodError}
use Rattle.jv_meaning_typing.specs.Uses.{Use}
use Rattle.jv_meaning_typing.specs.Uses.Use.{Invokevirtual, Invokeinterface}
use Rattle.jv_meaning_typing.specs.Operands.{MethodConstant, MethodReference, method_operand}
use Rattle.jv_meaning_typing.specs.Operands.MethodConstant.{Methodref, InterfaceMethodref}
use Rattle.jv_meaning_typing.specs.MethodResolution.{MethodTarget}
use Rattle.jv_meaning_typing.specs.Selection.{select}
use Rattle.jv_meaning_typing.proofs.Run.{selected_is_run}
use Rattle.jv_meaning_typing.specs.Environment.{current_class}
use Rattle.jv_meaning_typing.specs.MemberRules.{has_plain_name, called_on, method_guard, is_of_class, counts_arguments, invoke_virtual, invoke_interface, goes_with_version}
use Rattle.jv_meaning_typing.specs.Named.{method_use, when}
use Rattle.jv_meaning_machine.specs.Objects.{Object}
use Rattle.jv_meaning_machine.specs.Objects.Object.{InstanceOf, ArrayWith}
use Rattle.jv_meaning_machine.specs.Calls.{is_constant_for}
use Rattle.jv_meaning_machine.specs.Initialization.{is_verified}
use Rattle.jv_sound.specs.Sound.{AreSorts, IsResultSort}
use Rattle.jv_sound.proofs.ResolvedTypes.{reference_is_usable, same_option}
use Rattle.jv_sound.proofs.StaticCalls.{plain_name}
use Rattle.jv_sound.proofs.InstanceCalls.{HasCode, IsRoot, CanRun, IsClassOf, of_root, call_ok}
use Rattle.jv_sound.proofs.MethodUses.{calling, target_ok, method_ok, asked}
use Rattle.jv_sound.proofs.Ways.{Setting, IsSet, world_of, program_of, By, Sound}

module _ (x : Setting) (h : IsSet x) (coded : HasCode (program_of x)) (root : Loaded) (is_root : IsRoot (program_of x) root)
    (accepted_is_loadable : (l : Loaded) → class_named (world_of x) l.class.name ≡ Some l → IsTrue (is_verified (program_of x) l)
    → IsTrue (is_loadable (world_of x) l)) (index : ℕ)
    (sorts : (reference : MethodReference) (d : MethodDescriptor) → method_operand (current_class x.frame.method) index ≡ Some reference
    → method_type_of reference.member.descriptor ≡ Some d → AreSorts d.parameters × IsResultSort d.result) where
  -- what is selected by an object's class can run on it
  selected_runs :
      (how : Use) → (how ≡ Invokevirtual) ⊎ (how ≡ Invokeinterface) → (t : MethodTarget) (o : Object) (id : ℕ) (class : Option Loaded)
      → slice_get x.heap.objects id ≡ Some o
      → IsClassOf x h coded root is_root accepted_is_loadable o class → (s : MethodTarget)
      → select (world_of x) x.frame.method.site how t class ≡ Ok s → CanRun (program_of x) x.heap.objects o t.declared s.declared
  selected_runs how one t (InstanceOf i) id class there is s e =
      let typed = h.typed.objects.each id (InstanceOf i) there in
      let same_class : class ≡ Some typed.l = is.1 ∙ ap (λ (l : Loaded). Some l) (same_option is.0 typed.l (sym is.2 ∙ typed.named)) in
      let k = Rattle.jv_sound.proofs.Receiving.selected_ok (program_of x) x.heap.objects i typed x.frame.method.site how t s one coded
      (subst (λ (c : Option Loaded). select (world_of x) x.frame.method.site how t c ≡ Ok s) same_class e) in
      record { enterable = k.enterable; received = k.received; name = k.name; descriptor = k.descriptor; instance = k.instance }
  selected_runs how one t (ArrayWith components values) id class there is s e =
      of_root x h coded root is_root accepted_is_loadable (ArrayWith components values) id there t.declared s.declared
      (selected_is_run above_by_ways above_is_transitive (world_of x) x.frame.method.site how t s None root one
      (ap (λ (o : Option Loaded). ok_or o AbstractMethodError) is_root.named)
      (subst (λ (c : Option Loaded). select (world_of x) x.frame.method.site how t c ≡ Ok s) is e)).1

  abbrev virtual : Instruction
  virtual = insns.Invoke invocations.Virtual index

  pub invoke_virtual_ok : Sound x virtual
  invoke_virtual_ok =
      method_ok x h virtual Invokevirtual index
      (λ method. rules_format.◌>>=◌ (when (goes_with_version x.frame.method method) method) (λ method. invoke_virtual x.frame.method method x.given))
      (λ reference owner descriptor operand can type described.
      asked x h virtual Invokevirtual (goes_with_version x.frame.method (method_use reference owner descriptor))
      (method_use reference owner descriptor) (λ method. invoke_virtual x.frame.method method x.given) (calling x h virtual Invokevirtual reference)
      (λ goes. by_constant reference owner descriptor operand type described reference.constant refl
      (has_plain_name (method_use reference owner descriptor)) refl))
    where
      is_for : (reference : MethodReference) → reference.constant ≡ Methodref → is_init reference.member.name ≡ false
          → is_constant_for (current_class x.frame.method) Invokevirtual reference ≡ true
      is_for reference k e = rw (k, e) refl

      by_constant : (reference : MethodReference) (owner : FrameType) (descriptor : MethodDescriptor)
          → method_operand (current_class x.frame.method) index ≡ Some reference → reference_type reference.member.class ≡ Some owner
          → method_type_of reference.member.descriptor ≡ Some descriptor → (constant : MethodConstant) → reference.constant ≡ constant
          → (b : Bool) → has_plain_name (method_use reference owner descriptor) ≡ b
          → By x virtual (if is_of_class constant && b then called_on x.frame.method (method_use reference owner descriptor)
          (owner ∷ method_guard x.frame.method (method_use reference owner descriptor)) x.given else None)
          (calling x h virtual Invokevirtual reference)
      by_constant reference owner descriptor operand type described InterfaceMethodref k b e = record { by = tt }
      by_constant reference owner descriptor operand type described Methodref k false e = record { by = tt }
      by_constant reference owner descriptor operand type described Methodref k true e =
          target_ok x h virtual Invokevirtual _ reference descriptor
          (is_for reference k (plain_name (method_use reference owner descriptor) e)) described (λ t called.
          call_ok x h coded root is_root accepted_is_loadable virtual descriptor Invokevirtual t owner
          (method_guard x.frame.method (method_use reference owner descriptor)) refl (reference_is_usable reference.member.class owner type)
          (ap is_init called.name ∙ plain_name (method_use reference owner descriptor) e) (ap method_type_of called.descriptor ∙ described)
          (λ o id class there below is s f. selected_runs Invokevirtual (inl refl) t o id class there is s f)
          (sorts reference descriptor operand described).0 (sorts reference descriptor operand described).1)

  pub invoke_interface_ok : (count : ℕ) → Sound x (insns.InvokeInterface index count)
  invoke_interface_ok count =
      method_ok x h (insns.InvokeInterface index count) Invokeinterface index
      (λ method. invoke_interface x.frame.method count method x.given) (λ reference owner descriptor operand can type described.
      by_constant reference owner descriptor operand type described reference.constant refl
      (has_plain_name (method_use reference owner descriptor)) refl (counts_arguments (method_use reference owner descriptor) count))
    where
      is_for : (reference : MethodReference) → reference.constant ≡ InterfaceMethodref → is_init reference.member.name ≡ false
          → is_constant_for (current_class x.frame.method) Invokeinterface reference ≡ true
      is_for reference k e = rw (k, e) refl

      by_constant : (reference : MethodReference) (owner : FrameType) (descriptor : MethodDescriptor)
          → method_operand (current_class x.frame.method) index ≡ Some reference → reference_type reference.member.class ≡ Some owner
          → method_type_of reference.member.descriptor ≡ Some descriptor → (constant : MethodConstant) → reference.constant ≡ constant
          → (b : Bool) → has_plain_name (method_use reference owner descriptor) ≡ b → (c : Bool)
          → By x (insns.InvokeInterface index count) (if not (is_of_class constant) && b && c then called_on x.frame.method
          (method_use reference owner descriptor) (owner ∷ []) x.given else None)
          (calling x h (insns.InvokeInterface index count) Invokeinterface reference)
      by_constant reference owner descriptor operand type described Methodref k b e c = record { by = tt }
      by_constant reference owner descriptor operand type described InterfaceMethodref k false e c = record { by = tt }
      by_constant reference owner descriptor operand type described InterfaceMethodref k true e false = record { by = tt }
      by_constant reference owner descriptor operand type described InterfaceMethodref k true e true =
          target_ok x h (insns.InvokeInterface index count) Invokeinterface _ reference descriptor
          (is_for reference k (plain_name (method_use reference owner descriptor) e)) described (λ t called.
          call_ok x h coded root is_root accepted_is_loadable (insns.InvokeInterface index count) descriptor Invokeinterface t owner [] refl
          (reference_is_usable reference.member.class owner type)
          (ap is_init called.name ∙ plain_name (method_use reference owner descriptor) e) (ap method_type_of called.descriptor ∙ described)
          (λ o id class there below is s f. selected_runs Invokeinterface (inr refl) t o id class there is s f)
          (sorts reference descriptor operand described).0 (sorts reference descriptor operand described).1)
