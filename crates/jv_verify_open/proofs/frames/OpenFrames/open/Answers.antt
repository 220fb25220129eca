use Rattle.std.proofs.Common.{◌<◌, length, refl, sym, subst}
use Rattle.jv_verify_open.specs.Open.{AreWanting, OpenFrames}
use Rattle.jv_verify_open.proofs.Flowing.{opened_more}
use Rattle.jv_verify_open.proofs.frames.OpenFrames.open.Goals as goal

pub returns-clause-wanting : goal.returns-clause-wanting
returns-clause-wanting c = λ types words offset wanting.
    opened_more types words offset _ _ c.args.place c.args.end (subst (λ (o : OpenFrames). c.args.place < length o.ends) (sym c.self.view_is) c.requires.place)
    c.self.invariant.many c.raise-2.ensures c.raise.ensures refl refl c.self.invariant.found
    (subst (λ (o : OpenFrames). AreWanting types words o offset) (sym c.self.view_is) wanting)
