use Rattle.std.proofs.Common.{◌≡◌, ◌+◌, ◌-◌, ◌<◌, ◌≤◌, length, arith}
use Rattle.jv_lookups.specs.Inside.Steps.{as_method}
use Rattle.jv_lookups.proofs.Marking.{none_behind_more}
use Rattle.jv_lookups.proofs.above.up_to_final.Goals as goal

pub loop-look-preserved : goal.loop-look-preserved
loop-look-preserved c =
    let last = c.loop-look.end - 1 in
    let some : 0 < c.loop-look.end = omega (arith, c.if-end-eq0.false) in
    let next : last + 1 ≡ c.loop-look.end = omega (arith, some) in
    let inside : c.loop-look.end ≤ length c.args.chain.now = c.loop-look.invariant.within in
    let before : c.marked_end-end-in-loop-look.result ≤ last = c.marked_end-end-in-loop-look.ensures.within in
    record {
      within = omega (arith, before, next, inside);
      none_behind = none_behind_more c.args.classes.now c.args.row.now (as_method c.args.wanted.now.method.now) c.args.chain.now c.loop-look.end last
          c.marked_end-end-in-loop-look.result c.index-classes-chain.result
          c.requires.row c.requires.chain next inside c.loop-look.invariant.none_behind c.index-classes-chain.is c.if-declares_final_alike.ensures c.marked_end-end-in-loop-look.ensures.none_behind;
    }
