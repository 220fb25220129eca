use Rattle.std.proofs.Common.{◌∙◌, ℕ, ap, sym}
use Rattle.std.specs.Prelude.{List}
use Rattle.std.specs.List.{list_any}
use Rattle.jv_verify_types.specs.Numbered.{Item}
use Rattle.jv_verify_frame.specs.Inside.Noted.{has_at}
use Rattle.jv_verify_frame.specs.Inside.Swapped.{same_object}
use Rattle.jv_verify_frame.proofs.MadeBefore.{none_there}
use Rattle.jv_verify_frame.proofs.Noting.{any_at}
use Rattle.jv_verify_frame.proofs.items.Items.has.Goals as goal

pub returns-then-is_past : goal.returns-then-is_past
returns-then-is_past c =
    none_there c.self.inside.end c.args.object (sym c.is_past.ensures ∙ c.if-is_past.true) c.self.inside.items.items c.self.invariant.0
    ∙ ap (list_any (same_object c.args.object)) c.self.view_is

pub returns-in-Some : goal.returns-in-Some
returns-in-Some c =
    let items = c.args.self.now in
    c.is_at_any.ensures
    ∙ (ap (λ (xs : List Item). list_any (has_at c.args.object xs) c.deref-in-Some.result.now) (c.deref.ensures.value ∙ c.self.view_is)
    ∙ (ap (λ (ps : List ℕ). list_any (has_at c.args.object items) ps) c.deref-in-Some.ensures.value
    ∙ any_at c.args.object items c.in-Some.places.items (c.in-Some.ensures {u = tt})))
