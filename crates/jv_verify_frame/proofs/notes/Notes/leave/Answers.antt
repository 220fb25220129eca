use Rattle.std.proofs.Common.{refl, sym, ap, ◌∙◌}
use Rattle.jv_verify_frame.specs.Inside.Noted.{Noted}
use Rattle.jv_verify_frame.proofs.Noting.{left_out}
use Rattle.jv_verify_frame.proofs.notes.Notes.leave.Goals as goal

pub returns-in-Some : goal.returns-in-Some
returns-in-Some c =
    left_out c.args.object c.in-Some.key c.args.self.now _ c.self.inside.ends.items _ c.set_end.new.ends _ c.self.inside.ends.len (sym c.key_of.ensures ∙ c.in-Some.is)
    (ap (λ (n : Noted). n.kept) c.self.view_is) (ap (λ (n : Noted). n.notes) c.self.view_is) (ap (λ (n : Noted). n.ends) c.self.view_is)
    c.set_end.ensures c.deref_mut.ensures.value c.self.inside.ends.ok.0 refl
