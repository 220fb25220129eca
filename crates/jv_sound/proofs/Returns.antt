-- Returns, and constants of two words.
use Rattle.std.proofs.Common.{◌≡◌, ℕ, zero, suc, Bool, true, false, not, List, [], ◌∷◌, Option, Some, None, Ok, refl, sym, subst, ◌∙◌}
use Rattle.std.specs.Prelude.{IsTrue, if◌then◌else◌}
use Rattle.jv_text.specs.declared.descriptor.Base.TheVariants as bases
use Rattle.jv_text.specs.declared.descriptor.Element.{Element}
use Rattle.jv_text.specs.declared.descriptor.Element.TheVariants as elements
use Rattle.jv_text.specs.declared.descriptor.FieldTypeOf.{FieldTypeOf}
use Rattle.jv_text.specs.Name.{is_init}
use Rattle.jv_stackmap.specs.Types.{value_type, value_type_by}
use Rattle.jv_code.specs.declared.insn.Insn.TheVariants as insns
use Rattle.jv_code.specs.declared.kinds.ValueKind.{ValueKind}
use Rattle.jv_code.specs.declared.kinds.ValueKind.TheVariants as kinds
use Rattle.jv_meaning_typing.specs.FrameChanges.{is_of_kind, with_stack, exchanged, taken_as_all}
use Rattle.jv_meaning_typing.specs.Named.{when}
use Rattle.jv_meaning_typing.specs.ValueRules as value_rules
use Rattle.jv_meaning_machine.specs.Faults.{◌>>=◌}
use Rattle.jv_meaning_machine.specs.Operands.{taken_as}
use Rattle.jv_meaning_machine.specs.Effects.Effect.{Leaves}
use Rattle.jv_meaning_machine.specs.Instructions.{return_value, return_nothing}
use Rattle.jv_sound.specs.Sound.{IsSort}
use Rattle.jv_sound.specs.Frames.{IsResult}
use Rattle.jv_sound.proofs.Logic.{clash, then2, handed_on}
use Rattle.jv_sound.proofs.Taking.{taken_one}
use Rattle.jv_sound.proofs.Pure.{agrees_from}
use Rattle.jv_sound.proofs.Ways.{Setting, IsSet, world_of, here, context_of, By, Sound, stays}

returned_sort : (kind : ValueKind) (n : ℕ) (e : Element (List ℕ)) → is_of_kind kind (value_type_by n e) ≡ true → IsSort (value_type_by n e)
returned_sort kind (suc n) e k = tt
returned_sort kind zero (elements.Class name) k = tt
returned_sort kind zero (elements.Base bases.Byte) k = tt
returned_sort kind zero (elements.Base bases.Char) k = tt
returned_sort kind zero (elements.Base bases.Short) k = tt
returned_sort kind zero (elements.Base bases.Boolean) k = tt
returned_sort kind zero (elements.Base bases.Int) k = tt
returned_sort kind zero (elements.Base bases.Long) k = tt
returned_sort kinds.Int zero (elements.Base bases.Float) k = absurd (clash k)
returned_sort kinds.Long zero (elements.Base bases.Float) k = absurd (clash k)
returned_sort kinds.Reference zero (elements.Base bases.Float) k = absurd (clash k)
returned_sort kinds.Int zero (elements.Base bases.Double) k = absurd (clash k)
returned_sort kinds.Long zero (elements.Base bases.Double) k = absurd (clash k)
returned_sort kinds.Reference zero (elements.Base bases.Double) k = absurd (clash k)

some_none : {A : Type 0} (a : A) → Some a ≡ None → ⊥
some_none a e = absurd cc

module _ (x : Setting) (h : IsSet x)
    -- an `<init>` has no result
    (constructors_are_void : IsTrue (is_init x.frame.method.site.method.name) → x.frame.method.descriptor.result ≡ None) where
  pub return_value_ok : (kind : ValueKind) → Sound x (insns.ReturnValue kind)
  return_value_ok kind = by_result x.frame.method.descriptor.result refl
    where
      leaves : (type : FieldTypeOf (List ℕ)) → x.frame.method.descriptor.result ≡ Some type → IsSort (value_type type)
          → By x (insns.ReturnValue kind) (exchanged (world_of x) (value_type type ∷ []) [] x.given)
          (taken_as x.heap.objects (value_type type) x.frame.stack >>= λ top. Ok
          (Rattle.jv_sound.proofs.Ways.memory_of x, Leaves (top.0 ∷ [])))
      leaves type e sort =
          handed_on (taken_as_all (world_of x) (value_type type ∷ []) x.given.stack) (λ below. Some (with_stack x.given below))
          (taken_as x.heap.objects (value_type type) x.frame.stack >>= λ top. Ok
          (Rattle.jv_sound.proofs.Ways.memory_of x, Leaves (top.0 ∷ [])))
          (then2 (taken_one (here x) h.rooted h.loadable (value_type type) x.given.stack x.frame.stack sort h.holding.stack) (λ S top f.
          agrees_from (stays x h (insns.ReturnValue kind) (with_stack x.given S) (Leaves (top.0 ∷ [])) (
            (λ c. absurd (some_none type (sym e ∙ constructors_are_void c))),
            (λ _. subst (λ (o : Option (FieldTypeOf (List ℕ))). IsResult (world_of x) x.heap.objects o (top.0 ∷ [])) (sym e)
                (top.0, refl, f.0)),
          ))))

      by_kind : (type : FieldTypeOf (List ℕ)) → x.frame.method.descriptor.result ≡ Some type → (b : Bool)
          → is_of_kind kind (value_type type) ≡ b
          → By x (insns.ReturnValue kind) (if b then exchanged (world_of x) (value_type type ∷ []) [] x.given else None)
          (return_value (context_of x (insns.ReturnValue kind)) kind (Some type))
      by_kind type e false k = record { by = tt }
      by_kind type e true k = rw k (leaves type e (returned_sort kind type.dimensions type.element k))

      by_result : (o : Option (FieldTypeOf (List ℕ))) → x.frame.method.descriptor.result ≡ o
          → By x (insns.ReturnValue kind) (value_rules.return_value x.frame.method kind o x.given)
          (return_value (context_of x (insns.ReturnValue kind)) kind o)
      by_result None e = record { by = tt }
      by_result (Some type) e = by_kind type e (is_of_kind kind (value_type type)) refl

  pub return_ok : Sound x insns.Return
  return_ok = by_result x.frame.method.descriptor.result refl
    where
      by_flag : x.frame.method.descriptor.result ≡ None → (b : Bool) → x.given.flag_this_uninit ≡ b
          → By x insns.Return (when (not b) x.given) (return_nothing (context_of x insns.Return) None)
      by_flag e true k = record { by = tt }
      by_flag e false k =
          agrees_from (stays x h insns.Return x.given (Leaves []) (
            (λ c. let r = h.holding.ready c in (refl, r.0, r.1, r.2 k)),
            (λ _. subst (λ (o : Option (FieldTypeOf (List ℕ))). IsResult (world_of x) x.heap.objects o []) (sym e) refl),
          ))

      by_result : (o : Option (FieldTypeOf (List ℕ))) → x.frame.method.descriptor.result ≡ o
          → By x insns.Return (value_rules.return_nothing o x.given) (return_nothing (context_of x insns.Return) o)
      by_result (Some type) e = record { by = tt }
      by_result None e = by_flag e x.given.flag_this_uninit refl
