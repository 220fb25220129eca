use Rattle.std.proofs.Common.{ℕ, ℤ, ◌+◌, ◌<◌, ap, ◌∙◌, arith}
use Rattle.std.proofs.lemmas.Int.{to_z-of_z}
use Rattle.std.specs.Int.{w32, cast_signed, int_wrapping_add}
use Rattle.jv_interp_words.specs.FramesInWords.{in_use}
use Rattle.jv_interp_words.proofs.InUse.{length-in_use}
use Rattle.jv_interp_words.proofs.StoredThere.{int_added}
use Rattle.jv_interp_words.proofs.locals.increment.Goals as goal

pub word_at-requires : goal.word_at-requires
word_at-requires c =
    let w = c.requires.can in
    let added =
    int_added c.args.by c.args.base c.args.index (in_use c.args.words.now c.args.top) w.addresses w.after w.above w.below w.increments in
    omega (arith, added.within, length-in_use c.args.words.now c.args.top c.requires.within, c.requires.within)

pub put_word-requires : goal.put_word-requires
put_word-requires c =
    let w = c.requires.can in
    let added =
    int_added c.args.by c.args.base c.args.index (in_use c.args.words.now c.args.top) w.addresses w.after w.above w.below w.increments in
    omega (arith, added.within, length-in_use c.args.words.now c.args.top c.requires.within, c.requires.within)

pub returns : goal.returns
returns c = λ addresses after above below h.
    let used = in_use c.args.words.now c.args.top in
    let added = int_added c.args.by c.args.base c.args.index used addresses after above below h in
    let first : c.args.base + c.args.index < c.args.top =
    omega (arith, added.within, length-in_use c.args.words.now c.args.top c.requires.within) in
    added.leaves c.added_word-sum.result (in_use c.put_word.new.words c.args.top)
    (c.added_word-sum.ensures
    ∙ ap (λ (z : ℤ). int_wrapping_add w32 (cast_signed w32 c.word_at.result) z) (to_z-of_z w32 c.args.by c.ranges.by)
    ∙ ap (λ (n : ℕ). int_wrapping_add w32 (cast_signed w32 n) c.args.by) (c.word_at.ensures c.args.top first))
    (c.put_word.ensures c.args.top first)
