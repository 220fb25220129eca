use Rattle.std.proofs.Common.{sym, ◌∙◌, arith, length}
use Rattle.jv_interp.proofs.WithAbove.{next_holds, fails, hold}
use Rattle.jv_interp.proofs.verified.are_told_above.Goals as goal

pub returns-then-sure : goal.returns-then-sure
returns-then-sure c =
    hold c.args.table.now c.args.flags.now c.args.class (length c.args.table.now) c.is_numbered.ensures (omega arith)
    (λ test tells l at k to less at_k is. c.requires.sure c.if-sure.true k (test to) less (tells k to at_k))

pub returns-then-not-is_told_if_above : goal.returns-then-not-is_told_if_above
returns-then-not-is_told_if_above c =
    fails c.args.table.now c.args.flags.now c.args.class c.loop-other.other c.is_numbered.ensures
    (omega (arith, c.loop-other-test.true, c.count-other-end.ensures))
    (λ test tells l at to at_to. sym c.if-not-is_told_if_above.true ∙ c.is_told_if_above.ensures test tells l at to at_to)

pub loop-other-preserved : goal.loop-other-preserved
loop-other-preserved c =
    next_holds c.args.table.now c.args.flags.now c.args.class c.loop-other.other c.loop-other.invariant
    (λ test tells l at to at_to. sym c.if-not-is_told_if_above.false ∙ c.is_told_if_above.ensures test tells l at to at_to)

pub returns : goal.returns
returns c =
    hold c.args.table.now c.args.flags.now c.args.class c.loop-other.other c.is_numbered.ensures
    (omega (arith, c.loop-other-test.false, c.count-other-end.ensures)) c.loop-other.invariant
