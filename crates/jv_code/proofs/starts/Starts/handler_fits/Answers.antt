use Rattle.std.proofs.Common.{arith}
use Rattle.jv_code.proofs.starts.Starts.handler_fits.Goals as goal

pub returns-then-starts_fit : goal.returns-then-starts_fit
returns-then-starts_fit c =
    let starts = c.starts_fit.ensures.0 c.if-starts_fit.true in (
      λ t. record { covers = omega (arith, c.if-handler.false); start = starts.0; end = c.end_fits.ensures.0 t; target = starts.1 },
      λ h. c.end_fits.ensures.1 h.end,
    )
