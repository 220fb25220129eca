use Rattle.std.proofs.Common.{◌+◌, List, take, sym, subst, arith}
use Rattle.std.proofs.lemmas.List.{take_all}
use Rattle.jv_stackmap.specs.Entries.{HaveWidths}
use Rattle.jv_stackmap.specs.declared.width.Width.{Width}
use Rattle.jv_verify_types.specs.Typed.{typed_all}
use Rattle.jv_verify_types.specs.Numbered.{Item}
use Rattle.jv_verify_pass.proofs.FramesSpelled.{widths_more}
use Rattle.jv_verify_pass.proofs.maps.widths_of.Goals as goal

pub loop-item-preserved : goal.loop-item-preserved
loop-item-preserved c = λ names.
    subst (λ (ws : List Width). HaveWidths (typed_all names (take (c.loop-item.item-index + 1) c.args.entries.now)) ws) (sym c.in_ok-push.ensures.items)
    (widths_more names c.args.entries.now c.loop-item.item-index _ c.loop-item.widths.items c.width_of.result c.loop-item-test.true (c.width_of.ensures names) (c.loop-item.invariant names))

pub returns : goal.returns
returns c = λ names.
    subst (λ (items : List Item). HaveWidths (typed_all names items) c.loop-item.widths.items)
    (take_all c.loop-item.item-index c.args.entries.now (omega (arith, c.loop-item-test.false))) (c.loop-item.invariant names)
