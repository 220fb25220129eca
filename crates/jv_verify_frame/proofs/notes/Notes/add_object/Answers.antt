use Rattle.std.proofs.Common.{◌≡◌, subst, arith}
use Rattle.jv_verify_frame.specs.Inside.Noted.{Adds}
use Rattle.jv_verify_frame.proofs.Noting.{adds_joined}
use Rattle.jv_verify_frame.proofs.notes.Notes.add_object.Goals as goal

pub returns-in-Ok-join : goal.returns-in-Ok-join
returns-in-Ok-join c = λ item e.
    let here : c.in-Ok.place ≡ c.args.place = omega (arith, c.in-Ok.ensures {u = tt}) in
    subst (λ n. Adds n item c.args.self.now c.join.new.self) here (adds_joined c.in-Ok.place c.args.key item c.args.self.now c.join.new.self e (c.in-Ok-join.ensures {u = tt}))
