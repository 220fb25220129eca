use Rattle.std.proofs.Common.{sym, ◌∙◌}
use Rattle.jv_class_structure.specs.Seen.{unpacked}
use Rattle.jv_class_structure.specs.Inside.Kept.{seen_codes}
use Rattle.jv_class_structure.specs.Inside.Reading.{method_attribute_kept}
use Rattle.jv_class_structure.proofs.Gathering.{gathers, gathers-none, one_more-seen, one_more-none}
use Rattle.jv_class_structure.proofs.members.codes_listed.Goals as goal

pub loop-preserved : goal.loop-preserved
loop-preserved c =
    gathers (method_attribute_kept c.args.pool.now) (seen_codes c.loop.found) (seen_codes c.in-Some.code) (seen_codes c.in-Some-one_more.joined)
    c.args.count c.loop.counter c.loop.rest.now c.in-Some.after.now _
    c.loop-test.true c.in-Some.ensures (one_more-seen unpacked c.loop.found c.in-Some.code c.in-Some-one_more.joined (sym c.one_more.ensures ∙ c.in-Some-one_more.is)) c.loop.invariant

pub returns-in_default-one_more : goal.returns-in_default-one_more
returns-in_default-one_more c =
    gathers-none (method_attribute_kept c.args.pool.now) (seen_codes c.loop.found) (seen_codes c.in-Some.code) c.args.count c.loop.counter c.loop.rest.now c.in-Some.after.now _
    c.loop-test.true c.in-Some.ensures (one_more-none unpacked c.loop.found c.in-Some.code (sym c.one_more.ensures ∙ c.in_default-one_more.is)) c.loop.invariant
