use Rattle.std.proofs.Common.{◌∙◌, ap, List, ℕ}
use Rattle.std.specs.Prelude.{slice_get}
use Rattle.jv_link_cache.proofs.Placing.{word_found, place_beyond}
use Rattle.jv_link_cache.proofs.words.word_in_all.Goals as goal

pub returns-then-place-words : goal.returns-then-place-words
returns-then-place-words c = λ world d are at.
    word_found world c.args.words.now c.args.place d c.index-words-place.result c.word_at.result are at c.if-place-words.true
    (λ word e. c.word_at.ensures word (ap (λ (ns : List ℕ). slice_get ns c.args.place.member) c.deref.ensures.value ∙ e))

pub returns-else-place-words : goal.returns-else-place-words
returns-else-place-words c = λ world d are at. absurd (place_beyond world c.args.words.now c.args.place d are at c.if-place-words.false)
