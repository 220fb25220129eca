use Rattle.std.proofs.Common.{◌+◌, sym, subst}
use Rattle.jv_classes.specs.Inside.Told.{AreChains, IsChain}
use Rattle.jv_classes.proofs.Followed.{chain_more}
use Rattle.jv_classes.proofs.table.all_chains.Goals as goal

pub loop-number-preserved : goal.loop-number-preserved
loop-number-preserved c =
    let world = c.args.classes.now in
    let chain = subst (IsChain world c.loop-number.number) (sym c.shrink_to_fit.ensures.items) c.in_ok-chain.ensures in
    subst (AreChains world (c.loop-number.number + 1)) (sym c.in_ok-push.ensures.items)
    (chain_more world c.loop-number.number c.loop-number.chains.items c.shrink_to_fit.new.self chain c.loop-number.invariant)
