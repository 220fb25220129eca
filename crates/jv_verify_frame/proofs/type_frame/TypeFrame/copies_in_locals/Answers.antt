use Rattle.std.proofs.Common.{◌≡◌, false, subst}
use Rattle.jv_verify_types.specs.Typed.{typed, typed_all}
use Rattle.jv_verify_types.specs.Numbered.{NumberFrame}
use Rattle.jv_verify_frame.specs.Inside.Noted.{is_in_local}
use Rattle.jv_verify_frame.proofs.Noting.{not_in_local}
use Rattle.jv_verify_frame.proofs.type_frame.TypeFrame.copies_in_locals.Goals as goal

pub returns : goal.returns
returns c = λ names k e.
    subst (λ (f : NumberFrame). is_in_local (typed names c.args.object) (typed_all names f.locals) k ≡ false) c.self.view_is
    (not_in_local names c.args.object c.self.inside.locals c.in_ok-places.places.items c.in_ok-places.ensures k e)
