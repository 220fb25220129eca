use Rattle.std.proofs.Common.{◌≡◌, ◌-◌, ℕ, get_or, ap, subst, ◌∙◌, arith}
use Rattle.jv_stackmap.specs.declared.entry.FrameEntry.TheVariants as entries
use Rattle.jv_verify_types.specs.Mapped.{type_of_entry}
use Rattle.jv_verify_maps.specs.Words.{words_at}
use Rattle.jv_verify_open.specs.Inside.Finding.{AreMoreWanted}
use Rattle.jv_verify_open.proofs.Stretched.{one_more, stretch_word}
use Rattle.jv_verify_open.proofs.wanting.want_last.Goals as goal

pub loop-left-preserved : goal.loop-left-preserved
loop-left-preserved c =
    let types = c.args.at.types.now in
    let map = c.args.at.words.now in
    let words = c.args.words in
    let at = c.loop-left.left in
    let more = c.loop-left-test.true in
    let within = c.loop-left.invariant.0 in
    let above = c.loop-left.invariant.1 in
    let end = c.max-end.ensures in (
      omega (arith, within),
      omega (arith, above, more),
      one_more types map c.args.at.offset words (at - 1) at c.item-item.result c.args.wants.now c.loop-left.wants c.add.new.self (omega (arith, more)) (omega (arith, within, more))
          c.loop-left.invariant.2 c.in_ok-add.ensures.ok
          (c.item-item.ensures
          ∙ ap (λ j. type_of_entry types (get_or c.stretch-first.result.1.now j _)) c.from.ensures
          ∙ ap (type_of_entry types)
          (stretch_word c.stretch-first.result.1.now (words_at map words.place) c.stretch-first.result.0 words.to (at - 1) _ entries.Top c.stretch-first.ensures.words c.requires.to
          (omega (arith, above, more, end)) (omega (arith, within, more))))
          (c.add.ensures.allowed types.constants.types),
    )

pub returns-clause-wanted : goal.returns-clause-wanted
returns-clause-wanted c =
    let stop = c.loop-left-test.false in
    let above = c.loop-left.invariant.1 in
    let same : c.loop-left.left ≡ c.max-end.result = omega (arith, stop, above) in
    subst (λ (from : ℕ). AreMoreWanted c.args.at.types.now c.args.at.words.now c.args.at.offset c.args.words from c.args.wants.now c.loop-left.wants) same c.loop-left.invariant.2
