use Rattle.std.proofs.Common.{◌≡◌, ◌++◌, ◌∷◌, [], ◌∙◌, length, sym, subst}
use Rattle.std.specs.Prelude.{List}
use Rattle.std.specs.List.{All}
use Rattle.std.proofs.lemmas.List.Elements.{All-append, All-cons, All-nil}
use Rattle.jv_verify_types.specs.Numbered.{Item}
use Rattle.jv_verify_frame.specs.Inside.Before.{IsBefore}
use Rattle.jv_verify_frame.specs.Inside.Noted.{KeepsObjects}
use Rattle.jv_verify_frame.proofs.MadeBefore.{all_later}
use Rattle.jv_verify_frame.proofs.Noting.{item_pushed, still_noted}
use Rattle.jv_verify_frame.proofs.items.Items.push.Goals as goal

pub invariant_of-self-2 : goal.invariant_of-self-2
invariant_of-self-2 c =
    let items = c.self.inside.items.items in
    let item = c.args.item in
    let end = c.raised-self-inside.result in
    let at : c.len-place.result ≡ length items = c.len-place.ensures ∙ c.self.inside.items.ok.0 in (
      subst (All (IsBefore end)) (sym c.in_ok-push.ensures.items)
          (All-append (IsBefore end) items (item ∷ []) (all_later c.self.inside.end end c.raised-self-inside.ensures.least items c.self.invariant.0)
          (All-cons (IsBefore end) item [] c.raised-self-inside.ensures.before (All-nil (IsBefore end)))),
      still_noted c.len-place.result item c.self.inside.notes c.add.new.self items c.push.new.self.items c.add.ensures
          (subst (λ (xs : List Item). KeepsObjects c.len-place.result item items xs) (sym c.in_ok-push.ensures.items)
          (subst (λ n. KeepsObjects n item items (items ++ item ∷ [])) (sym at) (item_pushed item items))) c.self.invariant.1,
    )
