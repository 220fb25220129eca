-- An object that no local variable holds.
use Rattle.std.proofs.Common.{◌≡◌, Bool, true, false, List, [], ◌∷◌, Some, refl, sym, ap, ◌∙◌}
use Rattle.std.specs.Prelude.{◌||◌, if◌then◌else◌}
use Rattle.std.specs.List.{list_any}
use Rattle.jv_stackmap.specs.declared.verification.VerificationTypeOf.TheVariants as types
use Rattle.jv_stackmap.specs.Types.{FrameType}
use Rattle.jv_meaning_typing.specs.FrameChanges.{is_same_object}
use Rattle.jv_meaning_typing.specs.Rule.{without_object}

-- where no local variable holds an object, none changes without it
pub without_unheld : (object : FrameType) (locals : List FrameType) → list_any (is_same_object object) locals ≡ false → without_object (Some object) locals ≡ locals
without_unheld object [] e = refl
without_unheld object (t ∷ locals) e = by_test (is_same_object object t) refl (λ rest. without_unheld object locals rest)
  where
    clash : true ≡ false → ⊥
    clash e = cc

    by_test : (b : Bool) → is_same_object object t ≡ b
        → (list_any (is_same_object object) locals ≡ false → without_object (Some object) locals ≡ locals)
        → without_object (Some object) (t ∷ locals) ≡ t ∷ locals
    by_test true s more = absurd (clash (sym (ap (λ (b : Bool). b || list_any (is_same_object object) locals) s) ∙ e))
    by_test false s more =
        ap (λ (b : Bool). (if b then types.Top else t) ∷ without_object (Some object) locals) s
        ∙ ap (λ (ts : List FrameType). t ∷ ts) (more (sym (ap (λ (b : Bool). b || list_any (is_same_object object) locals) s) ∙ e))
