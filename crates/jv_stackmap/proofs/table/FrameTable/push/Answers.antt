use Rattle.std.proofs.Common.{arith}
use Rattle.jv_stackmap.specs.Inside.Nodes.{chain}
use Rattle.jv_stackmap.proofs.Piles.{holds_shared, entry_most, words_most}
use Rattle.jv_stackmap.proofs.table.FrameTable.push.Goals as goal

pub overflow_add-words : goal.overflow_add-words
overflow_add-words c =
    let i = c.self.inside in
    omega (arith, c.entry_words.ensures, entry_most i.widths.now c.args.entry, c.self.invariant.laid.counted, words_most i.widths.now (chain i.nodes i.pile.top), c.are_numbered.ensures i.pile.top)

pub invariant_of-self : goal.invariant_of-self
invariant_of-self c =
    let i = c.self.inside in
    rw c.entry_words.ensures (holds_shared i.widths.now i.nodes i.frames.items i.base i.locals i.pile c.args.entry c.in-Some.top c.self.invariant
    c.in-Some.ensures.chain c.in-Some.ensures.there c.are_numbered.ensures)
