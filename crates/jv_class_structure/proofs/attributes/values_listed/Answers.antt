use Rattle.std.proofs.Common.{sym, ◌∙◌}
use Rattle.jv_class_structure.specs.Inside.Reading.{value_kept}
use Rattle.jv_class_structure.proofs.Gathering.{gathers}
use Rattle.jv_class_structure.proofs.attributes.values_listed.Goals as goal

pub loop-preserved : goal.loop-preserved
loop-preserved c =
    gathers (value_kept c.args.pool.now c.args.is_static) c.loop.found c.in-Some.value c.in-Some-one_more.joined c.args.count c.loop.counter c.loop.rest.now c.in-Some.after.now _
    c.loop-test.true c.in-Some.ensures (sym c.one_more.ensures ∙ c.in-Some-one_more.is) c.loop.invariant
