use Rattle.std.proofs.Common.{◌≡◌, ℕ, zero, suc, List, ◌∙◌, ap, refl, sym, Some}
use Rattle.jv_text.specs.declared.descriptor.Element.{Element}
use Rattle.jv_text.specs.Seen.{seen_field_type}
use Rattle.jv_interp_heap.specs.declared.narrowing.Narrowing.TheVariants.{Whole}
use Rattle.jv_interp_heap.specs.Narrowing.{narrowing_at, narrowing_of}
use Rattle.jv_interp_control.proofs.constants.narrowing_in.Goals as goal

same_some : {A : Type 0} → {x y : A} → Some x ≡ Some y → x ≡ y
same_some e = cc

whole_above : (n : ℕ) (element : Element (List ℕ)) → (n ≡ 0 → ⊥) → narrowing_at n element ≡ Whole
whole_above zero element other = absurd (other refl)
whole_above (suc n) element other = refl

pub returns-else-field-eq0 : goal.returns-else-field-eq0
returns-else-field-eq0 c = λ type e.
    let is = same_some (sym ((c.types_agree.ensures.field c.args.descriptor.now (seen_field_type c.in-Ok.field)).0 c.in-Ok.ensures.ok) ∙ e) in
    ap narrowing_of (sym is) ∙ whole_above c.in-Ok.field.dimensions _ c.if-field-eq0.false
