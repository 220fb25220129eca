use Rattle.std.proofs.Common.{◌≡◌, ◌+◌, ◌-◌, ◌∙◌, ℕ, Some, get_or, ap, sym, subst, arith}
use Rattle.std.specs.Prelude.{List, slice_get}
use Rattle.jv_verify_frame.specs.declared.notes.Note.{Note}
use Rattle.jv_verify_frame.specs.Inside.Noted.{Noted, end_of}
use Rattle.jv_verify_frame.proofs.Noting.{Walked, walk_first, walk_next, walk_end}
use Rattle.jv_verify_frame.proofs.notes.Notes.places.Goals as goal

pub loop-left-init : goal.loop-left-init
loop-left-init c =
    let notes = c.self.inside.notes.items in
    let left = c.end_at-left.result in
    subst (λ (places : List ℕ). Walked notes c.args.items.now c.args.object places left) (sym c.new-places.ensures.items)
    (walk_first notes c.args.items.now c.args.object c.args.self.now c.args.key left c.requires.key (sym (ap (λ (n : Noted). n.notes) c.self.view_is)) c.requires.kept
    c.requires.noted
    (c.end_at-left.ensures ∙ (ap (λ (es : List ℕ). get_or es c.args.key 0) c.deref.ensures.value ∙ ap (λ (n : Noted). end_of n c.args.key) c.self.view_is)))

pub loop-left-preserved : goal.loop-left-preserved
loop-left-preserved c =
    let notes = c.self.inside.notes.items in
    let left = c.loop-left.left in
    let note = c.in-Some.note in
    let here : left ≡ (left - 1) + 1 = omega (arith, c.loop-left-test.true) in
    let is : slice_get notes (left - 1) ≡ Some note =
    ap (λ (ns : List Note). slice_get ns (left - 1)) (sym c.deref-in-loop-left.ensures.value) ∙ (sym c.note_at.ensures ∙ c.in-Some.is) in
    walk_next notes c.args.items.now c.args.object c.loop-left.places.items c.push_if.new.places.items note (left - 1) left _ c.is_at.result here is
    c.is_at.ensures c.in_ok-push_if.ensures.same c.in_ok-push_if.ensures.place c.in_ok-left.ensures.0 c.loop-left.invariant

pub returns : goal.returns
returns c =
    walk_end c.self.inside.notes.items c.args.items.now c.args.object c.loop-left.places.items c.loop-left.left (omega (arith, c.loop-left-test.false)) c.loop-left.invariant
