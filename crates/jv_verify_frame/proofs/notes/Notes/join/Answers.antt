use Rattle.std.proofs.Common.{◌≡◌, ◌+◌, ◌++◌, ◌∷◌, [], ◌∙◌, ℕ, length, get_or, refl, ap, arith}
use Rattle.std.specs.Prelude.{List}
use Rattle.jv_verify_frame.specs.declared.notes.Note.{Note}
use Rattle.jv_verify_frame.specs.Inside.Noted.{Noted}
use Rattle.jv_verify_frame.proofs.Noting.{has_joined}
use Rattle.jv_verify_frame.proofs.notes.Notes.join.Goals as goal

pub returns : goal.returns
returns c =
    let note : Note = record { place = c.args.place; key = c.args.key; before = c.end_at-before.result } in
    let notes = c.self.inside.notes.items in
    let many : length notes ≡ length c.args.self.now.notes = ap (λ (n : Noted). length n.notes) c.self.view_is in
    let end : c.in-Some.end ≡ length c.args.self.now.notes + 1 =
    omega (arith, c.in-Some.ensures {u = tt}, c.in-Ok.ensures {u = tt}, c.len.ensures, c.self.inside.notes.ok.0, many) in
    has_joined c.args.place c.args.key c.in-Some.end c.self.inside.kept c.args.self.now _ note c.reach.new.ends.items _ c.set_end.new.ends _ c.reach.new.ends.len
    (ap (λ (n : Noted). n.kept) c.self.view_is)
    (c.in_ok-push.ensures.items ∙ ap (λ (n : Noted). n.notes ++ note ∷ []) c.self.view_is) refl
    (c.end_at-before.ensures ∙ ap (λ (es : List ℕ). get_or es c.args.key 0) c.deref.ensures.value) end
    (λ k. c.reach.ensures.same k ∙ ap (λ (n : Noted). get_or n.ends k 0) c.self.view_is) c.in_ok-reach.ensures.room
    c.set_end.ensures c.deref_mut.ensures.value c.reach.new.ends.ok.0 refl
