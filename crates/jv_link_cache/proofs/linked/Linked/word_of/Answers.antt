use Rattle.std.proofs.Common.{sym, subst}
use Rattle.jv_link_cache.specs.Inside.Words.{AreWords}
use Rattle.jv_link_cache.specs.declared.words.ClassWords.{ClassWords}
use Rattle.std.specs.Prelude.{List}
use Rattle.jv_link_cache.proofs.linked.Linked.word_of.Goals as goal

pub returns : goal.returns
returns c = λ world d is at.
    c.word_in_all.ensures world d (subst (λ (ws : List ClassWords). AreWords world ws) (sym c.deref.ensures.value) is.words) at
