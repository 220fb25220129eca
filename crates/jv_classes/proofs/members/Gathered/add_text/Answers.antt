use Rattle.std.proofs.Common.{◌≡◌, ◌∙◌, ◌++◌, ◌∷◌, [], List, ap, sym, subst}
use Rattle.jv_classes.specs.declared.members.KeptText.{KeptText}
use Rattle.jv_classes.specs.Inside.Seen.{gathered_seen, with_text}
use Rattle.jv_classes.specs.Inside.Linked.{AreKept}
use Rattle.jv_classes.proofs.Linked.{one_more_text, seen_with_text}
use Rattle.jv_classes.proofs.members.Gathered.add_text.Goals as goal

pub invariant_of-self-2 : goal.invariant_of-self-2
invariant_of-self-2 c =
    let inside = c.self.inside in
    let items : c.push.new.self.items ≡ inside.texts.items ++ c.kept.result ∷ [] = c.in_ok-push.ensures.items in
    let grown = one_more_text inside.seed inside.texts.items inside.members.items inside.ends.items c.self.invariant c.kept.result c.kept.ensures.hashed in
    subst (λ (texts : List KeptText). AreKept inside.seed texts inside.members.items inside.ends.items) (sym items) grown

pub returns-clause-added : goal.returns-clause-added
returns-clause-added c =
    let inside = c.self.inside in
    let seen = seen_with_text inside.seed inside.texts.items inside.members.items inside.ends.items c.self.invariant c.kept.result in
    ap (λ (texts : List KeptText). gathered_seen texts inside.members.items) c.in_ok-push.ensures.items
    ∙ (seen ∙ (ap (with_text _) c.kept.ensures.seen ∙ ap (λ g. with_text g c.args.text.now) c.self.view_is))
