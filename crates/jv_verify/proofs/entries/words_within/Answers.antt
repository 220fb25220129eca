use Rattle.std.proofs.Common.{◌≡◌, ℕ, ◌+◌, List, take, sym, ap, ◌∙◌, arith}
use Rattle.std.proofs.lemmas.List.{take_all}
use Rattle.jv_stackmap.specs.Types.{words}
use Rattle.jv_verify_types.specs.Typed.{typed_all}
use Rattle.jv_verify_types.specs.Numbered.{Item}
use Rattle.jv_verify.proofs.EntryWords.{words_with, words_front}
use Rattle.jv_verify.proofs.entries.words_within.Goals as goal

pub returns-then-most-count-clause-more : goal.returns-then-most-count-clause-more
returns-then-most-count-clause-more c = λ names.
    let items = c.args.items.now in
    let at = c.loop-item.item-index in
    let one_more : words (typed_all names (take (at + 1) items)) ≡ words (typed_all names (take at items)) + c.words_of-more.result =
    words_with names items at _ c.words_of-more.result c.loop-item-test.true (c.words_of-more.ensures.of_type names) in
    omega (arith, one_more, c.loop-item.invariant.counted names, words_front names items (at + 1))

pub loop-item-preserved : goal.loop-item-preserved
loop-item-preserved c = record {
  counted = λ names.
      ap (λ (n : ℕ). n + c.words_of-more.result) (c.loop-item.invariant.counted names)
      ∙ sym (words_with names c.args.items.now c.loop-item.item-index _ c.words_of-more.result c.loop-item-test.true (c.words_of-more.ensures.of_type names));
  within = omega arith;
}

pub returns-clause-words : goal.returns-clause-words
returns-clause-words c = λ names.
    c.loop-item.invariant.counted names
    ∙ ap (λ (xs : List Item). words (typed_all names xs)) (take_all c.loop-item.item-index c.args.items.now (omega (arith, c.loop-item-test.false)))
