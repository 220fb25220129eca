use Rattle.std.proofs.Common.{arith}
use Rattle.jv_lookups.proofs.Marking.{way_begins, chain_broken, chain_goes_on}
use Rattle.jv_lookups.proofs.above.overrides_final_above.Goals as goal

pub loop-place-init : goal.loop-place-init
loop-place-init c =
    let begun = way_begins c.args.classes.now c.args.packages.now c.args.row.now c.clear.new.self c.mark.new.self _ _ _ c.args.chain.now c.args.of
    c.requires.packages c.requires.marks c.requires.of c.ask.ensures.marks c.clear.ensures c.mark.ensures in
    record { walked = begun.0; many = begun.1; asked = c.ask.ensures.asked }

pub returns-then-overrides_final_if-clause-broken :
    goal.returns-then-overrides_final_if-clause-broken
returns-then-overrides_final_if-clause-broken c =
    chain_broken c.args.classes.now c.args.packages.now c.args.row.now c.loop-place.marks _ c.args.chain.now c.loop-place.place-index
    c.index-classes-place.result _ c.requires.chain (omega arith) c.index-classes-place.is
    c.requires.packages c.requires.row c.loop-place.invariant.walked c.is_looked_at.result c.if-overrides_final_if.ensures.broken

pub loop-place-preserved : goal.loop-place-preserved
loop-place-preserved c =
    let on = chain_goes_on c.args.classes.now c.args.packages.now c.args.row.now c.loop-place.marks _ c.args.chain.now c.loop-place.place-index
    c.index-classes-place.result _ c.requires.chain (omega arith) c.index-classes-place.is
    c.requires.packages c.requires.row c.loop-place.invariant.walked c.ask.new.asked c.overrides_final_if.new.marks _ c.requires.marks c.loop-place.invariant.many c.loop-place.invariant.asked
    c.is_looked_at.result c.is_looked_at.ensures c.if-overrides_final_if.ensures.broken c.if-overrides_final_if.ensures.marks
    in
    record { walked = on.0; many = on.1; asked = on.2 }
