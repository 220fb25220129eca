-- Calls, from their operand to the method that is resolved (JVMS 6.5, 5.4.3.3, 5.4.3.4).
use Rattle.std.proofs.Common.{◌≡◌, ◌⊎◌, inl, inr, ℕ, Bool, true, false, List, Option, Some, None, Ok, Err, refl, sym, ap, subst, ◌∙◌}
use Rattle.std.specs.Prelude.{codes}
use Rattle.std.specs.Option.{ok_or}
use Rattle.jv_format.specs.Format as rules_format
use Rattle.jv_text.specs.Descriptor.{MethodDescriptor}
use Rattle.jv_text.specs.Types.{method_type_of}
use Rattle.jv_stackmap.specs.Types.{FrameType, reference_type}
use Rattle.jv_stackmap.specs.Frames.{Frame as TypesOf}
use Rattle.jv_code.specs.Insns.{Instruction}
use Rattle.jv_class.specs.Class.{method_named}
use Rattle.jv_pool.specs.Constants.{MemberReference}
use Rattle.jv_meaning_world.specs.World.{Loaded, World, class_named}
use Rattle.jv_meaning_world.specs.Laws.Above.{SystemStandsAlone}
use Rattle.jv_meaning_world.proofs.Up.{above_by_ways, above_is_transitive}
use Rattle.jv_meaning_world.proofs.Up.{has_name}
use Rattle.jv_meaning_typing.specs.Uses.{Site, Use}
use Rattle.jv_meaning_typing.specs.LinkErrors as link
use Rattle.jv_meaning_typing.specs.LinkErrors.{LinkError, OrError}
use Rattle.jv_meaning_typing.specs.LinkingLaws.{IsAtOrAbove, IsRootClass, IsNamed, IsCalled}
use Rattle.jv_meaning_typing.specs.Operands.{MethodReference, method_operand}
use Rattle.jv_meaning_typing.specs.ClassResolution.{ResolvedClass, resolve_text, member_class}
use Rattle.jv_meaning_typing.specs.MethodResolution.{MethodTarget, resolve_method}
use Rattle.jv_meaning_typing.proofs.Resolved.{method_is_called}
use Rattle.jv_meaning_typing.specs.Environment.{current_class}
use Rattle.jv_meaning_typing.specs.Named.{MethodUse, method_use, can_be_of, method_named_by, when}
use Rattle.jv_meaning_machine.specs.Faults.{found, tested, ◌>>=◌}
use Rattle.jv_meaning_machine.specs.Faults.Fault.{OffsetFault}
use Rattle.jv_meaning_machine.specs.Calls.{is_constant_for, call_target, call}
use Rattle.jv_meaning_machine.specs.Effects.{Outcome, unless_error}
use Rattle.jv_sound.proofs.Logic.{then1, found_holds, tested_holds}
use Rattle.jv_sound.proofs.Subtypes.{above_is_named}
use Rattle.jv_sound.proofs.ResolvedTypes.{IsResolvedArray, IsResolvedClass, resolved_text}
use Rattle.jv_sound.proofs.Handlers.{errs_any}
use Rattle.jv_sound.proofs.Ways.{Setting, IsSet, world_of, context_of, By}

-- ---- where a called method is declared

abbrev answer : Loaded → OrError Loaded
answer l = Ok l

-- the class that a reference to a member means is found by its own name
pub named_there : (world : World) → SystemStandsAlone world → (current : Loaded) (reference : MemberReference) (error : LinkError)
    (named : Loaded) → IsNamed world current reference error named → class_named world named.class.name ≡ Some named
named_there world alone current reference error named e = by_text (resolve_text world current reference.class) refl e
  where
    ok_same : (a b : Loaded) → answer a ≡ answer b → a ≡ b
    ok_same a b k = cc

    by_object : (o : Option Loaded) → class_named world (codes "java/lang/Object") ≡ o → ok_or o error ≡ Ok named
        → class_named world named.class.name ≡ Some named
    by_object None k f = absurd cc
    by_object (Some l) k f =
        let s : l ≡ named = ok_same l named f in
        subst (λ (x : Loaded). class_named world x.class.name ≡ Some x) s
        (ap (class_named world) (has_name world (codes "java/lang/Object") l k) ∙ k)

    by_member : (c : ResolvedClass) → IsResolvedArray world reference.class c ⊎ IsResolvedClass world reference.class c
        → ok_or (member_class world c) error ≡ Ok named → class_named world named.class.name ≡ Some named
    by_member c (inl r) f = by_object (class_named world (codes "java/lang/Object")) refl
        (subst (λ (x : ResolvedClass). ok_or (member_class world x) error ≡ Ok named) r.is f)
    by_member c (inr r) f =
        let s : r.l ≡ named = ok_same r.l named (subst (λ (x : ResolvedClass). ok_or (member_class world x) error ≡ Ok named) r.is f) in
        subst (λ (x : Loaded). class_named world x.class.name ≡ Some x) s r.named.there

    by_text : (r : OrError ResolvedClass) → resolve_text world current reference.class ≡ r
        → link.◌>>=◌ r (λ c. ok_or (member_class world c) error) ≡ Ok named → class_named world named.class.name ≡ Some named
    by_text (Ok c) k f = by_member c (resolved_text world alone current reference.class c k) f
    by_text (Err x) k f = absurd cc

pub called_there : (world : World) → SystemStandsAlone world → (site : Site) (how : Use) (reference : MethodReference) (t : MethodTarget)
    → IsCalled world site how reference t → class_named world t.declared.by.class.name ≡ Some t.declared.by
called_there world alone site how reference t called = by_place called.place
  where
    by_place : IsAtOrAbove world t.named t.declared.by ⊎ IsRootClass world t.declared.by
        → class_named world t.declared.by.class.name ≡ Some t.declared.by
    by_place (inl (inl s)) = subst (λ (x : Loaded). class_named world x.class.name ≡ Some x) (sym s)
        (named_there world alone site.by reference.member _ t.named called.named_so)
    by_place (inl (inr k)) = above_is_named world t.named.class t.declared.by k
    by_place (inr k) = ap (class_named world) (has_name world (codes "java/lang/Object") t.declared.by k) ∙ k

-- it is declared there by its own name and type
pub called_declared : (world : World) (site : Site) (how : Use) (reference : MethodReference) (t : MethodTarget)
    → IsCalled world site how reference t
    → method_named t.declared.by.class t.declared.method.name t.declared.method.descriptor ≡ Some t.declared.method
called_declared world site how reference t called =
    subst (λ (n : List ℕ). method_named t.declared.by.class n t.declared.method.descriptor ≡ Some t.declared.method) (sym called.name)
    (subst (λ (d : List ℕ). method_named t.declared.by.class reference.member.name d ≡ Some t.declared.method)
    (sym called.descriptor) called.declared)

-- ---- the operand

module _ (x : Setting) (h : IsSet x) (insn : Instruction) (how : Use) where
  -- what is called once its reference is that of the instruction
  abbrev pub calling : MethodReference → Outcome
  calling reference =
      tested OffsetFault (is_constant_for (current_class x.frame.method) how reference) reference >>= λ reference. found OffsetFault
      (method_type_of reference.member.descriptor) >>= λ descriptor.
      unless_error (context_of x insn) (resolve_method (world_of x) x.frame.method.site how reference)
      (call_target (context_of x insn) how descriptor)

  pub target_ok :
      (rule : Option TypesOf) (reference : MethodReference) (descriptor : MethodDescriptor)
      → is_constant_for (current_class x.frame.method) how reference ≡ true → method_type_of reference.member.descriptor ≡ Some descriptor
      → ((t : MethodTarget) → IsCalled (world_of x) x.frame.method.site how reference t
      → By x insn rule (call_target (context_of x insn) how descriptor t)) → By x insn rule (calling reference)
  target_ok rule reference descriptor constant described each =
      then1 (tested_holds {P = λ r. r ≡ reference} OffsetFault
      (is_constant_for (current_class x.frame.method) how reference) reference constant refl) (λ r same_reference.
      subst (λ (r : MethodReference). By x insn rule (found OffsetFault (method_type_of r.member.descriptor) >>= λ descriptor.
      unless_error (context_of x insn) (resolve_method (world_of x) x.frame.method.site how r)
      (call_target (context_of x insn) how descriptor))) (sym same_reference)
      (then1 (found_holds {P = λ d. d ≡ descriptor} OffsetFault (method_type_of reference.member.descriptor) descriptor described refl)
      (λ d same_descriptor.
      subst (λ (d : MethodDescriptor). By x insn rule (unless_error (context_of x insn)
      (resolve_method (world_of x) x.frame.method.site how reference) (call_target (context_of x insn) how d))) (sym same_descriptor)
      (by_method (resolve_method (world_of x) x.frame.method.site how reference) refl))))
    where
      by_method : (r : OrError MethodTarget) → resolve_method (world_of x) x.frame.method.site how reference ≡ r
          → By x insn rule (unless_error (context_of x insn) r (call_target (context_of x insn) how descriptor))
      by_method (Ok t) e = each t (method_is_called above_by_ways above_is_transitive (world_of x) x.frame.method.site how reference t e)
      by_method (Err error) e = errs_any x h insn rule error

  -- a rule that asks more of the method first
  pub asked : (test : Bool) (method : MethodUse) (rule : MethodUse → Option TypesOf) (done : Outcome)
      → (test ≡ true → By x insn (rule method) done) → By x insn (rules_format.◌>>=◌ (when test method) rule) done
  asked false method rule done k = record { by = tt }
  asked true method rule done k = k refl

  pub method_ok :
      (index : ℕ) (rule : MethodUse → Option TypesOf)
      → ((reference : MethodReference) (owner : FrameType) (descriptor : MethodDescriptor)
      → method_operand (current_class x.frame.method) index ≡ Some reference → can_be_of reference.constant reference.member.class ≡ true
      → reference_type reference.member.class ≡ Some owner → method_type_of reference.member.descriptor ≡ Some descriptor
      → By x insn (rule (method_use reference owner descriptor)) (calling reference))
      → By x insn (rules_format.◌>>=◌ (method_named_by x.frame.method index) rule) (call (context_of x insn) how index)
  method_ok index rule each = by_operand (method_operand (current_class x.frame.method) index) refl
    where
      by_descriptor : (reference : MethodReference) → method_operand (current_class x.frame.method) index ≡ Some reference
          → can_be_of reference.constant reference.member.class ≡ true → (owner : FrameType)
          → reference_type reference.member.class ≡ Some owner
          → (o : Option MethodDescriptor) → method_type_of reference.member.descriptor ≡ o
          → By x insn (rules_format.◌>>=◌ (rules_format.◌>>=◌ o (λ descriptor. Some (method_use reference owner descriptor))) rule)
          (calling reference)
      by_descriptor reference operand can owner type None e = record { by = tt }
      by_descriptor reference operand can owner type (Some descriptor) e = each reference owner descriptor operand can type e

      by_owner : (reference : MethodReference) → method_operand (current_class x.frame.method) index ≡ Some reference
          → can_be_of reference.constant reference.member.class ≡ true → (o : Option FrameType) → reference_type reference.member.class ≡ o
          → By x insn (rules_format.◌>>=◌ (rules_format.◌>>=◌ o (λ owner. rules_format.◌>>=◌ (method_type_of reference.member.descriptor)
          (λ descriptor. Some (method_use reference owner descriptor)))) rule) (calling reference)
      by_owner reference operand can None e = record { by = tt }
      by_owner reference operand can (Some owner) e = by_descriptor reference operand can owner e
          (method_type_of reference.member.descriptor) refl

      by_constant : (reference : MethodReference) → method_operand (current_class x.frame.method) index ≡ Some reference → (b : Bool)
          → can_be_of reference.constant reference.member.class ≡ b
          → By x insn (rules_format.◌>>=◌ (rules_format.◌>>=◌ (when b reference)
          (λ method. rules_format.◌>>=◌ (reference_type method.member.class) (λ owner.
          rules_format.◌>>=◌ (method_type_of method.member.descriptor) (λ descriptor. Some (method_use method owner descriptor))))) rule)
          (calling reference)
      by_constant reference operand false e = record { by = tt }
      by_constant reference operand true e = by_owner reference operand e (reference_type reference.member.class) refl

      by_operand : (o : Option MethodReference) → method_operand (current_class x.frame.method) index ≡ o
          → By x insn (rules_format.◌>>=◌ (rules_format.◌>>=◌ o (λ method. rules_format.◌>>=◌
          (when (can_be_of method.constant method.member.class) method)
          (λ method. rules_format.◌>>=◌ (reference_type method.member.class) (λ owner.
          rules_format.◌>>=◌ (method_type_of method.member.descriptor) (λ descriptor. Some (method_use method owner descriptor)))))) rule)
          (found OffsetFault o >>= calling)
      by_operand None e = record { by = tt }
      by_operand (Some reference) e = by_constant reference e (can_be_of reference.constant reference.member.class) refl
