use Rattle.std.proofs.Common.{ap, ◌∙◌}
use Rattle.jv_link_handlers.specs.Inside.Pieces.{place_in}
use Rattle.jv_link_handlers.proofs.InPieces.{place_in-push}
use Rattle.jv_link_handlers.proofs.pieces.push_changed.Goals as goal

pub returns-in_ok-push-clause-place : goal.returns-in_ok-push-clause-place
returns-in_ok-push-clause-place c = λ x. ap (λ ys. place_in ys x) c.in_ok-push.ensures.items ∙ place_in-push c.args.made.now.items _ x
