use Rattle.std.proofs.Common.{◌≡◌, ℕ, ◌+◌, ◌-◌, ◌<◌, List, ◌∷◌, length, reverse, set, ap, sym, subst, ◌∙◌, arith}
use Rattle.jv_code.specs.declared.kinds.ValueKind.{ValueKind}
use Rattle.jv_interp_words.specs.FramesInWords.{in_use}
use Rattle.jv_interp_words.specs.Inside.Locals.{Stores}
use Rattle.jv_interp_words.proofs.InUse.{length-in_use}
use Rattle.jv_interp_words.proofs.StoredThere.{word_stored, long_stored, word_there, two_there}
use Rattle.jv_interp_words.proofs.locals.store.Goals as goal

pub put_word-requires : goal.put_word-requires
put_word-requires c =
    let used = in_use c.args.words.now c.args.top in
    let w = c.requires.can in
    let puts =
    long_stored c.args.base c.args.index used w.addresses w.after w.above w.below
    (subst (λ (k : ValueKind). Stores k c.args.base c.args.index used w.addresses w.after w.above w.below) c.in-Long.is w.stores) in
    omega (arith, puts.within, ap length puts.top, length-in_use c.args.words.now c.args.top c.requires.within, c.requires.within)

pub overflow_add-at-in-Long : goal.overflow_add-at-in-Long
overflow_add-at-in-Long c =
    let used = in_use c.args.words.now c.args.top in
    let w = c.requires.can in
    let puts =
    long_stored c.args.base c.args.index used w.addresses w.after w.above w.below
    (subst (λ (k : ValueKind). Stores k c.args.base c.args.index used w.addresses w.after w.above w.below) c.in-Long.is w.stores) in
    record { fits = omega (arith, puts.within, ap length puts.top, length-in_use c.args.words.now c.args.top c.requires.within, c.ranges.top) }

pub put_word-requires-in-Long : goal.put_word-requires-in-Long
put_word-requires-in-Long c =
    let used = in_use c.args.words.now c.args.top in
    let w = c.requires.can in
    let puts =
    long_stored c.args.base c.args.index used w.addresses w.after w.above w.below
    (subst (λ (k : ValueKind). Stores k c.args.base c.args.index used w.addresses w.after w.above w.below) c.in-Long.is w.stores) in
    omega (arith, puts.within, ap length puts.top, length-in_use c.args.words.now c.args.top c.requires.within, c.requires.within, c.put_word.auto.words)

pub returns-in-Long-clause-stored : goal.returns-in-Long-clause-stored
returns-in-Long-clause-stored c = λ addresses after above below h.
    let used = in_use c.args.words.now c.args.top in
    let under = in_use c.args.words.now (c.args.top - 1 - 1) in
    let at = c.args.base + c.args.index in
    let puts =
    long_stored c.args.base c.args.index used addresses after above below
    (subst (λ (k : ValueKind). Stores k c.args.base c.args.index used addresses after above below) c.in-Long.is h) in
    let top : c.top_word-high.result ∷ c.top_word-low.result ∷ under ≡ puts.high ∷ puts.low ∷ puts.under =
    sym (c.top_word-high.ensures ∙ ap (λ (l : List ℕ). c.top_word-high.result ∷ l) c.top_word-low.ensures) ∙ puts.top in
    let size = length-in_use c.args.words.now c.args.top c.requires.within in
    let first : at < c.args.top - 1 - 1 = omega (arith, puts.within, ap length puts.top, size) in
    let second : at + 1 < c.args.top - 1 - 1 = omega (arith, puts.within, ap length puts.top, size) in
    puts.leaves (in_use c.put_word-in-Long.new.words (c.args.top - 1 - 1))
    (c.put_word-in-Long.ensures (c.args.top - 1 - 1) second
    ∙ ap (λ (l : List ℕ). reverse (set (reverse l) (at + 1) c.top_word-high.result)) (c.put_word.ensures (c.args.top - 1 - 1) first)
    ∙ two_there under puts.under at c.top_word-low.result puts.low c.top_word-high.result puts.high top)

pub put_word-requires-2 : goal.put_word-requires-2
put_word-requires-2 c =
    let used = in_use c.args.words.now c.args.top in
    let w = c.requires.can in
    let puts = word_stored c.args.kind c.args.base c.args.index used w.addresses w.after w.above w.below c.in_default.not-Long w.stores in
    omega (arith, puts.within, ap length puts.top, length-in_use c.args.words.now c.args.top c.requires.within, c.requires.within)

pub returns-clause-stored : goal.returns-clause-stored
returns-clause-stored c = λ addresses after above below h.
    let used = in_use c.args.words.now c.args.top in
    let under = in_use c.args.words.now (c.args.top - 1) in
    let at = c.args.base + c.args.index in
    let puts = word_stored c.args.kind c.args.base c.args.index used addresses after above below c.in_default.not-Long h in
    let size = length-in_use c.args.words.now c.args.top c.requires.within in
    let first : at < c.args.top - 1 = omega (arith, puts.within, ap length puts.top, size) in
    puts.leaves (in_use c.put_word-2.new.words (c.args.top - 1))
    (c.put_word-2.ensures (c.args.top - 1) first
    ∙ word_there under puts.under at c.top_word-word.result puts.word (sym c.top_word-word.ensures ∙ puts.top))
