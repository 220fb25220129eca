-- `new` (JVMS 6.5), from its operand to the class that is resolved.
use Rattle.std.proofs.Common.{◌≡◌, ◌⊎◌, inl, inr, ℕ, Bool, true, false, not, ◌+◌, List, Option, Some, None, Ok, Err, refl, sym, ap, subst, ◌∙◌}
use Rattle.std.specs.List.{list_any}
use Rattle.jv_format.specs.Format as rules_format
use Rattle.jv_text.specs.Name.{is_array_name}
use Rattle.jv_stackmap.specs.declared.verification.VerificationTypeOf.TheVariants as types
use Rattle.jv_stackmap.specs.Frames.{Frame as TypesOf}
use Rattle.jv_code.specs.declared.insn.Insn.TheVariants as insns
use Rattle.jv_class_structure.specs.Flags.{has, acc_interface, acc_abstract}
use Rattle.jv_meaning_world.proofs.Up.{named_stands}
use Rattle.jv_meaning_typing.specs.LinkErrors as link
use Rattle.jv_meaning_typing.specs.LinkErrors.{OrError, provided}
use Rattle.jv_meaning_typing.specs.LinkErrors.LinkError.{InstantiationError}
use Rattle.jv_meaning_typing.specs.Operands.{class_operand}
use Rattle.jv_meaning_typing.specs.ClassResolution.{ResolvedClass, resolve_text, creatable}
use Rattle.jv_meaning_typing.specs.ClassResolution.ResolvedClass.{ClassOf}
use Rattle.jv_meaning_typing.specs.Environment.{current_class, instruction_at}
use Rattle.jv_meaning_typing.specs.FrameChanges.{with_locals, is_same_object, replaced}
use Rattle.jv_meaning_typing.specs.MemberRules.{class_of_new}
use Rattle.jv_meaning_typing.specs.Named.{when}
use Rattle.jv_meaning_typing.specs.ValueRules.{pushed}
use Rattle.jv_meaning_machine.specs.Faults.{found, tested, ◌>>=◌}
use Rattle.jv_meaning_machine.specs.Faults.Fault.{OffsetFault}
use Rattle.jv_meaning_machine.specs.Instructions.{create}
use Rattle.jv_meaning_machine.specs.Effects.{unless_error}
use Rattle.jv_sound.proofs.Logic.{clash}
use Rattle.jv_sound.proofs.Formed.{has_none, not_true}
use Rattle.jv_sound.proofs.New.{created_ok}
use Rattle.jv_sound.proofs.Pure.{agrees_from}
use Rattle.jv_sound.proofs.ResolvedTypes.{IsResolvedArray, IsResolvedClass, resolved_text}
use Rattle.jv_sound.proofs.Handlers.{errs_any}
use Rattle.jv_sound.proofs.Ways.{Setting, IsSet, world_of, context_of, By, Sound}

module _ (x : Setting) (h : IsSet x) (index : ℕ) (stands : instruction_at x.frame.method x.frame.offset ≡ Some (insns.New index)) where
  abbrev given_new : TypesOf
  given_new = pushed (with_locals x.given (replaced (types.Uninitialized x.frame.offset) types.Top x.given.locals))
      (types.Uninitialized x.frame.offset)

  -- a class that can be created is no interface
  not_interface : (flags : ℕ) → not (has flags (acc_interface + acc_abstract)) ≡ true → has flags acc_interface ≡ false
  not_interface flags e = has_none flags (acc_interface + acc_abstract) acc_interface refl
      (not_true (has flags (acc_interface + acc_abstract)) e)

  pub new_ok : Sound x (insns.New index)
  new_ok = by_operand (class_operand (current_class x.frame.method) index) refl
    where
      names : (text : List ℕ) → class_operand (current_class x.frame.method) index ≡ Some text
          → class_of_new x.frame.method (instruction_at x.frame.method x.frame.offset) ≡ Some text
      names text operand = ap (class_of_new x.frame.method) stands ∙ operand

      creates : (text : List ℕ) → class_operand (current_class x.frame.method) index ≡ Some text
          → list_any (is_same_object (types.Uninitialized x.frame.offset)) x.given.stack ≡ false
          → (class : ResolvedClass) (r : IsResolvedClass (world_of x) text class) → (b : Bool)
          → not (has r.l.class.access_flags (acc_interface + acc_abstract)) ≡ b
          → By x (insns.New index) (Some given_new) (unless_error (context_of x (insns.New index))
          (provided b InstantiationError (ClassOf r.l)) (create (context_of x (insns.New index))))
      creates text operand lacks class r false e = errs_any x h (insns.New index) (Some given_new) InstantiationError
      creates text operand lacks class r true e =
          agrees_from (created_ok x.base x.states x.rest x.heap x.depth x.frame x.made x.given index h.typed h.verified h.holding
          h.no_memory r.l (named_stands (world_of x) r.l.class.name r.l r.named.there)
          (λ v. record { named = r.named.there; loadable = r.named.loadable; verified = v; plain = not_interface r.l.class.access_flags e })
          (names text operand ∙ ap (λ (n : List ℕ). Some n) (sym r.named.name)) lacks)

      by_resolved : (text : List ℕ) → class_operand (current_class x.frame.method) index ≡ Some text → is_array_name text ≡ false
          → list_any (is_same_object (types.Uninitialized x.frame.offset)) x.given.stack ≡ false
          → (class : ResolvedClass) → IsResolvedArray (world_of x) text class ⊎ IsResolvedClass (world_of x) text class
          → By x (insns.New index) (Some given_new) (unless_error (context_of x (insns.New index)) (creatable class)
          (create (context_of x (insns.New index))))
      by_resolved text operand plain lacks class (inl r) = absurd (clash (sym plain ∙ r.array))
      by_resolved text operand plain lacks class (inr r) =
          subst (λ (c : ResolvedClass). By x (insns.New index) (Some given_new)
          (unless_error (context_of x (insns.New index)) (creatable c) (create (context_of x (insns.New index))))) (sym r.is)
          (creates text operand lacks class r (not (has r.l.class.access_flags (acc_interface + acc_abstract))) refl)

      by_class : (text : List ℕ) → class_operand (current_class x.frame.method) index ≡ Some text → is_array_name text ≡ false
          → list_any (is_same_object (types.Uninitialized x.frame.offset)) x.given.stack ≡ false
          → (r : OrError ResolvedClass) → resolve_text (world_of x) x.frame.method.site.by text ≡ r
          → By x (insns.New index) (Some given_new) (unless_error (context_of x (insns.New index)) (link.◌>>=◌ r creatable)
          (create (context_of x (insns.New index))))
      by_class text operand plain lacks (Ok class) e = by_resolved text operand plain lacks class
          (resolved_text (world_of x) h.alone x.frame.method.site.by text class e)
      by_class text operand plain lacks (Err error) e = errs_any x h (insns.New index) (Some given_new) error

      by_stack : (text : List ℕ) → class_operand (current_class x.frame.method) index ≡ Some text → is_array_name text ≡ false → (b : Bool)
          → list_any (is_same_object (types.Uninitialized x.frame.offset)) x.given.stack ≡ b
          → By x (insns.New index) (when (not b) given_new) (unless_error (context_of x (insns.New index))
          (link.◌>>=◌ (resolve_text (world_of x) x.frame.method.site.by text) creatable) (create (context_of x (insns.New index))))
      by_stack text operand plain true e = record { by = tt }
      by_stack text operand plain false e = by_class text operand plain e (resolve_text (world_of x) x.frame.method.site.by text) refl

      by_text : (text : List ℕ) → class_operand (current_class x.frame.method) index ≡ Some text → (b : Bool) → is_array_name text ≡ b
          → By x (insns.New index) (rules_format.◌>>=◌ (when (not b) text)
          (λ name. when (not (list_any (is_same_object (types.Uninitialized x.frame.offset)) x.given.stack)) given_new))
          (tested OffsetFault (not b) text >>= λ text. unless_error (context_of x (insns.New index))
          (link.◌>>=◌ (resolve_text (world_of x) x.frame.method.site.by text) creatable) (create (context_of x (insns.New index))))
      by_text text operand true e = record { by = tt }
      by_text text operand false e = by_stack text operand e (list_any
          (is_same_object (types.Uninitialized x.frame.offset)) x.given.stack) refl

      by_operand : (o : Option (List ℕ)) → class_operand (current_class x.frame.method) index ≡ o
          → By x (insns.New index) (rules_format.◌>>=◌ (rules_format.◌>>=◌ o (λ text. when (not (is_array_name text)) text))
          (λ name. when (not (list_any (is_same_object (types.Uninitialized x.frame.offset)) x.given.stack)) given_new))
          (found OffsetFault o >>= λ text. tested OffsetFault (not (is_array_name text)) text >>= λ text.
          unless_error (context_of x (insns.New index))
          (link.◌>>=◌ (resolve_text (world_of x) x.frame.method.site.by text) creatable) (create (context_of x (insns.New index))))
      by_operand None e = record { by = tt }
      by_operand (Some text) e = by_text text e (is_array_name text) refl
