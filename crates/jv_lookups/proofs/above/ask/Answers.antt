use Rattle.std.proofs.Common.{◌≡◌, ◌+◌, ◌-◌, ◌<◌, ◌≤◌, false, length, get_or, sym, ap, subst, ◌∙◌, arith}
use Rattle.std.proofs.lemmas.List.{length-replicate}
use Rattle.jv_lookups.proofs.Marking.{none_asked, one_more_asked, same_many}
use Rattle.jv_lookups.proofs.above.ask.Goals as goal

pub loop-end-init : goal.loop-end-init
loop-end-init c =
    let none = none_asked c.args.packages.now c.args.row.now c.args.many c.clear-2.new.self c.clear.new.self c.args.chain.now (length c.args.chain.now) (omega arith) in
    record {
      within = omega arith;
      asked = none.0;
      wanted = none.1;
      marks_many = ap length c.clear.ensures ∙ length-replicate (length c.args.marks.now) false;
      asked_many = ap length c.clear-2.ensures ∙ length-replicate (length c.args.asked.now) false;
    }

pub loop-end-preserved : goal.loop-end-preserved
loop-end-preserved c =
    let chain = c.args.chain.now in
    let last = c.loop-end.end - 1 in
    let some : 0 < c.loop-end.end = omega (arith, c.loop-end-test.true) in
    let inside : c.loop-end.end ≤ length chain = c.loop-end.invariant.within in
    let within : last < length chain = omega (arith, some, inside) in
    let before : last + 1 ≡ c.loop-end.end = omega (arith, some) in
    let room : get_or c.args.packages.now (get_or chain last 0) 0 < length c.loop-end.marks =
    subst (λ n. get_or c.args.packages.now (get_or chain last 0) 0 < n) (sym c.loop-end.invariant.marks_many) (c.requires.marks last 0 within)
    in
    let space : get_or chain last 0 < length c.loop-end.asked = subst (λ n. get_or chain last 0 < n) (sym c.loop-end.invariant.asked_many) (c.requires.asked last 0 within) in
    let on = one_more_asked c.args.packages.now c.args.row.now c.args.many c.loop-end.asked c.loop-end.marks c.ask_for.new.asked c.ask_for.new.marks chain last c.loop-end.end within before room space
    c.ask_for.ensures.marks c.ask_for.ensures.asked c.loop-end.invariant.asked c.loop-end.invariant.wanted
    in
    record {
      within = omega (arith, inside);
      asked = on.0;
      wanted = on.1;
      marks_many = same_many _ _ _ _ c.ask_for.ensures.marks ∙ c.loop-end.invariant.marks_many;
      asked_many = same_many _ _ _ _ c.ask_for.ensures.asked ∙ c.loop-end.invariant.asked_many;
    }
