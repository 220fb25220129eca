use Rattle.std.proofs.Common.{◌≡◌, ◌-◌, List, length, refl, ap, sym, ◌∙◌, subst, arith, min, true, false}
use Rattle.std.proofs.lemmas.Bool.Decides.{nat_tests}
use Rattle.std.proofs.lemmas.Option.{slice_get_read}
use Rattle.std.specs.Prelude.{nat_lt, if◌then◌else◌}
use Rattle.jv_link_handlers.specs.declared.pieces.Piece.{Piece}
use Rattle.jv_link_handlers.specs.Inside.Pieces.{place_in, Rise}
use Rattle.jv_link_handlers.proofs.Asked.{asking_first, asking_next, asking_all}
use Rattle.jv_link_handlers.proofs.tree.found.Goals as goal

pub loop-left-init : goal.loop-left-init
loop-left-init c = asking_first c.args.nodes.now c.args.offset c.args.rank

pub loop-left-preserved-then-rank-node : goal.loop-left-preserved-then-rank-node
loop-left-preserved-then-rank-node c =
    asking_next c.args.nodes.now c.index-nodes-left.result c.loop-left.place c.place_at.result _ c.loop-left.left (c.loop-left.left - 1) _ c.args.offset c.args.rank
    c.loop-left.invariant (omega arith)
    (let within = c.loop-left.invariant.within in slice_get_read c.args.nodes.now (length c.args.nodes.now) (c.loop-left.left - 1) _ refl (omega (arith, within)) c.index-nodes-left.is)
    (λ rise. c.place_at.ensures (subst Rise (sym c.deref.ensures.value) rise) ∙ ap (λ (ps : List Piece). place_in ps c.args.offset) c.deref.ensures.value)
    c.min-place.ensures
    (let here : nat_lt c.args.rank c.index-nodes-left.result.middle ≡ true = grind (arith, nat_tests) in
    c.min-left.ensures ∙ sym (ap (λ b. if b then min c.index-nodes-left.result.below (c.loop-left.left - 1) else (c.loop-left.left - 1)) here))

pub loop-left-preserved : goal.loop-left-preserved
loop-left-preserved c =
    asking_next c.args.nodes.now c.index-nodes-left.result c.loop-left.place c.place_at.result _ c.loop-left.left (c.loop-left.left - 1) _ c.args.offset c.args.rank
    c.loop-left.invariant (omega arith)
    (let within = c.loop-left.invariant.within in slice_get_read c.args.nodes.now (length c.args.nodes.now) (c.loop-left.left - 1) _ refl (omega (arith, within)) c.index-nodes-left.is)
    (λ rise. c.place_at.ensures (subst Rise (sym c.deref.ensures.value) rise) ∙ ap (λ (ps : List Piece). place_in ps c.args.offset) c.deref.ensures.value)
    c.min-place.ensures
    (let here : nat_lt c.args.rank c.index-nodes-left.result.middle ≡ false = grind (arith, nat_tests) in
    sym (ap (λ b. if b then min c.index-nodes-left.result.below (c.loop-left.left - 1) else (c.loop-left.left - 1)) here))

pub returns : goal.returns
returns c = λ all. asking_all c.args.nodes.now c.loop-left.place c.loop-left.left c.args.offset c.args.rank c.loop-left.invariant (omega arith) all
