use Rattle.std.proofs.Common.{◌<◌, ◌∙◌, ap, sym, set, get_or, length, arith}
use Rattle.std.proofs.lemmas.List.Edits.{map_over_more}
use Rattle.std.proofs.lemmas.Option.{slice_get-get_or, get_or_from_slice_get}
use Rattle.jv_stackmap.specs.declared.verification.VerificationTypeOf.TheVariants as types
use Rattle.jv_verify_frame.specs.Inside.Swapped.{swapped}
use Rattle.jv_verify_frame.proofs.objects.replace_all.Goals as goal

pub loop-item-preserved : goal.loop-item-preserved
loop-item-preserved c =
    let items = c.loop-item.items in
    let i = c.loop-item.item-index in
    let within : i < length items = omega (arith, c.loop-item-test.true, c.loop-item.auto.items) in
    ap (set items i) c.swapped.ensures
    ∙ map_over_more (swapped c.args.object c.args.by) c.args.items.now items i (get_or items i types.Top) c.loop-item-test.true c.loop-item.invariant
    (sym (get_or_from_slice_get items i (get_or items i types.Top) (get_or items i types.Top) (slice_get-get_or items i types.Top within)))
