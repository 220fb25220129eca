use Rattle.std.proofs.Common.{◌≡◌, ◌∙◌, length, ap, sym, subst}
use Rattle.std.specs.List.{list_any}
use Rattle.jv_verify_frame.specs.Inside.Tops.{AreTops}
use Rattle.jv_verify_frame.specs.Inside.Swapped.{same_object}
use Rattle.jv_verify_frame.proofs.MadeBefore.{none_there}
use Rattle.jv_verify_frame.proofs.KeptTops.{all_used}
use Rattle.jv_verify_frame.proofs.items.Items.find.Goals as goal

pub returns-then-is_past-clause-found : goal.returns-then-is_past-clause-found
returns-then-is_past-clause-found c =
    none_there c.self.inside.end c.args.object (sym c.is_past.ensures ∙ c.if-is_past.true) c.self.inside.items.items c.self.invariant.0
    ∙ ap (list_any (same_object c.args.object)) c.self.view_is

pub make_notes-requires : goal.make_notes-requires
make_notes-requires c =
    let items = c.args.self.now in
    let many : c.len-count.result ≡ length items = c.len-count.ensures ∙ (c.self.inside.items.ok.0 ∙ ap length c.self.view_is) in
    subst (λ n. AreTops n items) (sym many) (all_used items)
