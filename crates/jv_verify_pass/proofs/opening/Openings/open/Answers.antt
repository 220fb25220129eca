use Rattle.std.proofs.Common.{sym, subst}
use Rattle.jv_verify_open.specs.Open.{AreWanting}
use Rattle.jv_verify_pass.specs.Inside.Opening.{Openings}
use Rattle.jv_verify_pass.proofs.opening.Openings.open.Goals as goal

pub returns-then-not-has_this-clause-wanting : goal.returns-then-not-has_this-clause-wanting
returns-then-not-has_this-clause-wanting c = λ types words offset wanting.
    c.open.ensures.wanting types words offset (subst (λ (o : Openings). AreWanting types words o.frames offset) (sym c.self.view_is) wanting)

pub returns-else-not-has_this-clause-wanting : goal.returns-else-not-has_this-clause-wanting
returns-else-not-has_this-clause-wanting c = λ types words offset wanting.
    c.open.ensures.wanting types words offset (subst (λ (o : Openings). AreWanting types words o.frames offset) (sym c.self.view_is) wanting)
