-- Instructions on fields, from their operand to the field that is found; and those that begin an initialization first.
use Rattle.std.proofs.Common.{◌≡◌, ◌⊎◌, inl, inr, ℕ, Bool, true, false, not, List, Option, Some, None, Ok, Err, refl, sym, subst}
use Rattle.std.specs.Prelude.{if◌then◌else◌}
use Rattle.std.specs.List.{Contains}
use Rattle.jv_format.specs.Format as rules_format
use Rattle.jv_text.specs.declared.descriptor.FieldTypeOf.{FieldTypeOf}
use Rattle.jv_text.specs.Name.{is_array_name, is_class_name}
use Rattle.jv_text.specs.Types.{field_type_of}
use Rattle.jv_stackmap.specs.declared.verification.VerificationTypeOf.TheVariants as types
use Rattle.jv_stackmap.specs.Types.{FrameType, array_of, reference_type, value_type}
use Rattle.jv_stackmap.specs.Frames.{Frame as TypesOf}
use Rattle.jv_code.specs.declared.insn.Insn.TheVariants as insns
use Rattle.jv_code.specs.declared.kinds.FieldAccess.{FieldAccess}
use Rattle.jv_code.specs.Insns.{Instruction}
use Rattle.jv_pool.specs.Constants.{MemberReference}
use Rattle.jv_meaning_world.specs.World.{Loaded}
use Rattle.jv_meaning_world.specs.LookUps.{DeclaredField}
use Rattle.jv_meaning_typing.specs.LinkErrors.{OrError, error_class}
use Rattle.jv_meaning_typing.specs.Operands.{field_operand}
use Rattle.jv_meaning_typing.specs.FieldResolution.{resolve_field}
use Rattle.jv_meaning_typing.specs.Environment.{current_class}
use Rattle.jv_meaning_typing.specs.MemberRules as rules
use Rattle.jv_meaning_typing.specs.Named.{field_use, when}
use Rattle.jv_meaning_machine.specs.Faults.{found, ◌>>=◌}
use Rattle.jv_meaning_machine.specs.Faults.Fault.{OffsetFault}
use Rattle.jv_meaning_machine.specs.State.{class_state, is_ready}
use Rattle.jv_meaning_machine.specs.Effects.{Outcome, once_initialized, unless_error}
use Rattle.jv_meaning_machine.specs.Effects.Effect.{Begins}
use Rattle.jv_meaning_machine.specs.Fields.{access_field, use_for}
use Rattle.jv_sound.specs.Values.{HasLocals}
use Rattle.jv_sound.specs.Sound.{IsSort}
use Rattle.jv_sound.proofs.Logic.{clash}
use Rattle.jv_sound.proofs.Ways.{Setting, IsSet, world_of, context_of, here, Does, By, Sound, KeepsLocals, stays, raised_ok, anyway}

-- a text that is no array's names a class, if any
pub owner_cases : (text : List ℕ) → is_array_name text ≡ false → (reference_type text ≡ None) ⊎
    (reference_type text ≡ Some (types.Class text))
owner_cases text e = by_test (is_array_name text) (is_class_name text) e
  where
    by_test : (a c : Bool) → a ≡ false
        → ((if a then rules_format.◌>>=◌ (field_type_of text) array_of else if c then Some (types.Class text) else None) ≡ None)
        ⊎ ((if a then rules_format.◌>>=◌ (field_type_of text) array_of else if c then Some (types.Class text) else None) ≡ Some
        (types.Class text))
    by_test true c k = absurd (clash (sym k))
    by_test false true k = inr refl
    by_test false false k = inl refl

module _ (x : Setting) (h : IsSet x) where
  -- what is done once a class is initialized, or its initialization was begun
  pub once_ok : (insn : Instruction) (rule : Option TypesOf) (l : Loaded) (done : Outcome) → Contains (world_of x) l → KeepsLocals x insn
      → (is_ready (class_state x.states l) ≡ true → By x insn rule done)
      → By x insn rule (once_initialized (context_of x insn) l done)
  once_ok insn rule l done there keeps k = by_state (is_ready (class_state x.states l)) k
    where
      begins : (g : TypesOf) → Does x insn g (Ok (Rattle.jv_sound.proofs.Ways.memory_of x, Begins l))
      begins g = stays x h insn g (Begins l) (
        there,
        refl,
        refl,
        subst (λ (ls : List FrameType). HasLocals (here x) ls x.frame.locals)
            (sym keeps) h.holding.locals,
      )

      by_state : (ready : Bool) → (ready ≡ true → By x insn rule done)
          → By x insn rule (if ready then done else Ok (Rattle.jv_sound.proofs.Ways.memory_of x, Begins l))
      by_state false k = anyway x h insn rule _ begins
      by_state true k = k refl

  module _ (how : FieldAccess) (index : ℕ)
      (sorts : (reference : MemberReference) (type : FieldTypeOf (List ℕ))
      → field_operand (current_class x.frame.method) index ≡ Some reference → field_type_of reference.descriptor ≡ Some type
      → IsSort (value_type type))
      (each : (reference : MemberReference) (type : FieldTypeOf (List ℕ)) (d : DeclaredField) → is_array_name reference.class ≡ false
      → field_type_of reference.descriptor ≡ Some type → IsSort (value_type type)
      → resolve_field (world_of x) x.frame.method.site (use_for how) reference ≡ Ok d
      → By x (insns.Field how index) (rules.access_field x.frame.method how
      (field_use reference (types.Class reference.class) type) x.given)
      (access_field (context_of x (insns.Field how index)) how reference d)) where
    abbrev machine : MemberReference → OrError DeclaredField → Outcome
    machine reference r = unless_error (context_of x (insns.Field how index)) r
        (access_field (context_of x (insns.Field how index)) how reference)

    abbrev owned : MemberReference → Option FrameType → Option TypesOf
    owned reference o =
        rules_format.◌>>=◌ (rules_format.◌>>=◌ o (λ owner. rules_format.◌>>=◌ (field_type_of reference.descriptor)
        (λ type. Some (field_use reference owner type))))
        (λ field. rules.access_field x.frame.method how field x.given)

    abbrev By_rule : Option TypesOf → Outcome → Type 0
    By_rule rule done = By x (insns.Field how index) rule done

    pub field_ok : Sound x (insns.Field how index)
    field_ok = by_operand (field_operand (current_class x.frame.method) index) refl
      where
        by_field : (reference : MemberReference) (type : FieldTypeOf (List ℕ)) → is_array_name reference.class ≡ false
            → field_type_of reference.descriptor ≡ Some type → IsSort (value_type type)
            → (r : OrError DeclaredField) → resolve_field (world_of x) x.frame.method.site (use_for how) reference ≡ r
            → By_rule (rules.access_field x.frame.method how (field_use reference (types.Class reference.class) type) x.given)
            (machine reference r)
        by_field reference type plain e sort (Ok d) k = each reference type d plain e sort k
        by_field reference type plain e sort (Err error) k = anyway x h (insns.Field how index) _ _
            (λ g. raised_ok x h (insns.Field how index) g (error_class error) (h.link_errors error) refl)

        by_type : (reference : MemberReference) → field_operand (current_class x.frame.method) index ≡ Some reference
            → is_array_name reference.class ≡ false → (o : Option (FieldTypeOf (List ℕ))) → field_type_of reference.descriptor ≡ o
            → By_rule (rules_format.◌>>=◌ (rules_format.◌>>=◌ o (λ type. Some (field_use reference (types.Class reference.class) type)))
            (λ field. rules.access_field x.frame.method how field x.given))
            (machine reference (resolve_field (world_of x) x.frame.method.site (use_for how) reference))
        by_type reference operand plain None e = record { by = tt }
        by_type reference operand plain (Some type) e = by_field reference type plain e (sorts reference type operand e)
            (resolve_field (world_of x) x.frame.method.site (use_for how) reference) refl

        by_owner : (reference : MemberReference) → field_operand (current_class x.frame.method) index ≡ Some reference
            → is_array_name reference.class ≡ false
            → (reference_type reference.class ≡ None) ⊎ (reference_type reference.class ≡ Some (types.Class reference.class))
            → By_rule (owned reference (reference_type reference.class))
            (machine reference (resolve_field (world_of x) x.frame.method.site (use_for how) reference))
        by_owner reference operand e (inl k) = subst (λ (o : Option FrameType). By_rule (owned reference o)
            (machine reference (resolve_field (world_of x) x.frame.method.site (use_for how) reference))) (sym k) (record { by = tt })
        by_owner reference operand e (inr k) =
            subst (λ (o : Option FrameType). By_rule (owned reference o)
            (machine reference (resolve_field (world_of x) x.frame.method.site (use_for how) reference))) (sym k)
            (by_type reference operand e (field_type_of reference.descriptor) refl)

        by_class : (reference : MemberReference) → field_operand (current_class x.frame.method) index ≡ Some reference → (a : Bool)
            → is_array_name reference.class ≡ a
            → By_rule (rules_format.◌>>=◌ (rules_format.◌>>=◌ (when (not a) reference) (λ reference.
            rules_format.◌>>=◌ (reference_type reference.class) (λ owner. rules_format.◌>>=◌ (field_type_of reference.descriptor)
            (λ type. Some (field_use reference owner type))))) (λ field. rules.access_field x.frame.method how field x.given))
            (machine reference (resolve_field (world_of x) x.frame.method.site (use_for how) reference))
        by_class reference operand true e = record { by = tt }
        by_class reference operand false e = by_owner reference operand e (owner_cases reference.class e)

        by_operand : (o : Option MemberReference) → field_operand (current_class x.frame.method) index ≡ o
            → By_rule (rules_format.◌>>=◌ (rules_format.◌>>=◌ o (λ reference. rules_format.◌>>=◌
            (when (not (is_array_name reference.class)) reference) (λ reference.
            rules_format.◌>>=◌ (reference_type reference.class) (λ owner. rules_format.◌>>=◌ (field_type_of reference.descriptor)
            (λ type. Some (field_use reference owner type)))))) (λ field. rules.access_field x.frame.method how field x.given))
            (found OffsetFault o >>= λ reference. machine reference
            (resolve_field (world_of x) x.frame.method.site (use_for how) reference))
        by_operand None e = record { by = tt }
        by_operand (Some reference) e = by_class reference e (is_array_name reference.class) refl
