use Rattle.std.proofs.Common.{◌≤◌, length, subst, arith}
use Rattle.std.proofs.lemmas.List.{take_all}
use Rattle.jv_lookups.specs.Inside.FinalNumbers.{AreTheirs}
use Rattle.jv_lookups.proofs.Numbering.{numbered_step, all_numbered}
use Rattle.jv_lookups.proofs.packages.package_numbers.Goals as goal

pub loop-class-preserved : goal.loop-class-preserved
loop-class-preserved c =
    let step = numbered_step c.loop-class.names c.place_of.new.names c.package.result.now c.args.classes.now c.loop-class.class-index
    c.class-item.result c.loop-class.numbers.items c.push.new.self.items c.in_ok-place.place c.number.result c.by_system.result
    c.loop-class.invariant.theirs c.loop-class.invariant.few (omega arith) c.class-item.is
    c.package.ensures c.by_system.ensures c.in_ok-place.ensures.names c.in_ok-place.ensures.place c.number.ensures c.in_ok-push.ensures.items
    in
    record { theirs = step.0; few = step.1 }

pub returns : goal.returns
returns c =
    let past : length c.args.classes.now ≤ c.loop-class.class-index = omega arith in
    let whole : AreTheirs c.loop-class.names c.args.classes.now c.loop-class.numbers.items =
    subst (λ ls. AreTheirs c.loop-class.names ls c.loop-class.numbers.items) (take_all c.loop-class.class-index c.args.classes.now past) c.loop-class.invariant.theirs
    in
    all_numbered c.loop-class.names c.args.classes.now c.loop-class.numbers.items whole (omega (arith, c.loop-class.invariant.few))
