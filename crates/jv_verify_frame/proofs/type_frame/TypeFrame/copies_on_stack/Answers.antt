use Rattle.std.proofs.Common.{◌≡◌, false, List, reverse, ap, sym, subst, ◌∙◌}
use Rattle.std.proofs.lemmas.List.{reverse-reverse}
use Rattle.jv_verify_types.specs.Typed.{typed, typed_all}
use Rattle.jv_verify_types.specs.Numbered.{Item, NumberFrame}
use Rattle.jv_verify_frame.specs.Inside.Noted.{is_in_local}
use Rattle.jv_verify_frame.specs.Inside.Tops.{AreTops}
use Rattle.jv_verify_frame.proofs.KeptTops.{all_used}
use Rattle.jv_verify_frame.proofs.Noting.{not_in_local}
use Rattle.jv_verify_frame.proofs.type_frame.TypeFrame.copies_on_stack.Goals as goal

pub copies-requires : goal.copies-requires
copies-requires c = subst (λ n. AreTops n c.self.inside.stack) (sym c.len-height.ensures) (all_used c.self.inside.stack)

pub returns : goal.returns
returns c = λ names k e.
    subst (λ (items : List Item). is_in_local (typed names c.args.object) (typed_all names items) k ≡ false)
    (sym (reverse-reverse c.self.inside.stack) ∙ ap (λ (f : NumberFrame). reverse f.stack) c.self.view_is)
    (not_in_local names c.args.object c.self.inside.stack c.in_ok-places.places.items c.in_ok-places.ensures k e)
