use Rattle.std.proofs.Common.{ℕ, List, ◌∷◌, ap, subst, ◌∙◌}
use Rattle.jv_code.specs.declared.kinds.ValueKind.{ValueKind}
use Rattle.jv_interp_words.specs.FramesInWords.{in_use}
use Rattle.jv_interp_words.specs.Inside.Calls.{Returns}
use Rattle.jv_interp_words.proofs.Returned.{in_use_under, word_returned, long_returned, word_left, long_left}
use Rattle.jv_interp_words.proofs.calls.leave_with.Goals as goal

pub returns-in-Long-clause-stands : goal.returns-in-Long-clause-stands
returns-in-Long-clause-stands c = λ addresses value under h.
    let used = in_use c.args.words.now c.args.top in
    let r = long_returned c.args.base used addresses value under (subst (λ (k : ValueKind). Returns k c.args.base used addresses value under) c.in-Long.is h) in
    let below = in_use_under c.args.words.now c.args.top c.args.base (r.high ∷ r.low ∷ r.above) under c.requires.within r.place h.base_is in
    long_left c.args.base used addresses value under _ (in_use c.push_two.new.words c.push_two.result) (in_use c.args.words.now c.args.base)
    c.top_word-low.result c.top_word-high.result r
    (c.top_word-high.ensures ∙ ap (λ (l : List ℕ). c.top_word-high.result ∷ l) c.top_word-low.ensures) below.0 c.push_two.ensures.used

pub returns-clause-stands : goal.returns-clause-stands
returns-clause-stands c = λ addresses value under h.
    let used = in_use c.args.words.now c.args.top in
    let r = word_returned c.args.kind c.args.base used addresses value under c.in_default.not-Long h in
    let below = in_use_under c.args.words.now c.args.top c.args.base (r.word ∷ r.above) under c.requires.within r.place h.base_is in
    word_left c.args.base used addresses value under _ (in_use c.push_word.new.words c.push_word.result) (in_use c.args.words.now c.args.base)
    c.top_word-word.result r c.top_word-word.ensures below.0 c.push_word.ensures.used
