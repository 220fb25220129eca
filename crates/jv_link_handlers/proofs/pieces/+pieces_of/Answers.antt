use Rattle.std.proofs.Common.{◌∙◌, ◌/◌, length}
use Rattle.std.proofs.lemmas.Result.{IfOk-weaker}
use Rattle.jv_link_handlers.proofs.Least.{halves_are}
use Rattle.jv_link_handlers.proofs.pieces.+pieces_of.Goals as goal

pub returns-clause-place : goal.returns-clause-place
returns-clause-place t c =
    IfOk-weaker c.merged.result _ _
    (λ made is x. is x ∙ halves_are x (length c.args.placed.now / 2) c.args.placed.now c.in_ok-one.one.items c.in_ok-other.other.items _ _
    c.deref.ensures.value c.deref-2.ensures.value (c.in_ok-one.ensures.place x) (c.in_ok-other.ensures.place x) c.split_at.ensures.front c.split_at.ensures.back)
    c.merged.ensures.place
