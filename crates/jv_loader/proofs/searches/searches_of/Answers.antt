use Rattle.std.proofs.Common.{◌≤◌, subst}
use Rattle.jv_loader.specs.Inside.Searches.{IsSearch}
use Rattle.jv_loader.proofs.Searching.{one_more, all_of}
use Rattle.jv_loader.proofs.searches.searches_of.Goals as goal

pub loop-number-preserved : goal.loop-number-preserved
loop-number-preserved c =
    let one : IsSearch c.args.table.now c.loop-number.number c.in_ok-searched_from.field-0.items =
    record { numbers = c.in_ok-searched_from.ensures.numbers; found = c.in_ok-searched_from.ensures.found }
    in
    one_more c.args.table.now c.loop-number.searches.items c.push.new.self.items c.in_ok-searched_from.field-0 c.loop-number.number
    c.in_ok-push.ensures.items c.loop-number.invariant.0 c.loop-number.invariant.1 one

pub returns : goal.returns
returns c =
    all_of c.args.table.now c.loop-number.searches.items c.loop-number.number (subst (λ n. n ≤ c.loop-number.number) c.count-number-end.ensures c.loop-number-test.false)
    (subst (λ n. c.loop-number.number ≤ n) c.count-number-end.ensures c.loop-number.auto.number-end) c.loop-number.invariant.0 c.loop-number.invariant.1
