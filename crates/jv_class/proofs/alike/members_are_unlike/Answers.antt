use Rattle.std.specs.Prelude.{IsTrue, ◌↔◌}
use Rattle.jv_class.specs.Rules.{AreMembersUnlike}
use Rattle.jv_class.specs.Inside.Shown.{AreShownUnlike}
use Rattle.jv_class.proofs.Kept.{if_ok_same}
use Rattle.jv_class.proofs.ShownOf.{unlike_shown, members_unlike}
use Rattle.jv_class.proofs.alike.members_are_unlike.Goals as goal

pub returns-clause-ok : goal.returns-clause-ok
returns-clause-ok c =
    let class = c.args.parts.now in
    if_ok_same c.shown_are_unlike.result (λ unlike. IsTrue unlike ↔ AreShownUnlike class) (λ unlike. IsTrue unlike ↔ AreMembersUnlike class)
    (λ unlike h. (λ on. members_unlike class (h.0 on), λ k. h.1 (unlike_shown class k))) c.shown_are_unlike.ensures.ok
