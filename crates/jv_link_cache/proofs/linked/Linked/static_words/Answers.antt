use Rattle.std.proofs.Common.{arith}
use Rattle.jv_link_cache.proofs.Placing.{statics_end}
use Rattle.jv_link_cache.proofs.linked.Linked.static_words.Goals as goal

pub returns : goal.returns
returns c = λ world is.
    let end = statics_end world world 0 in
    let kept = is.statics in
    omega (arith, end, kept)
