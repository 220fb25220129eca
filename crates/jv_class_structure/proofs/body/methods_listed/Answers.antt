use Rattle.std.proofs.Common.{arith}
use Rattle.jv_class_structure.specs.Inside.Reading.{method_kept}
use Rattle.jv_format.proofs.Laws.{goes_on, ends}
use Rattle.jv_class_structure.specs.Seen.{seen_method}
use Rattle.jv_class_structure.specs.Inside.Kept.{seen_list}
use Rattle.jv_class_structure.proofs.body.methods_listed.Goals as goal

pub returns-in_default : goal.returns-in_default
returns-in_default c =
    ends (method_kept c.args.pool.now) (seen_list c.loop.methods) c.args.count c.loop.counter c.loop.rest.now _ c.loop-test.true c.in_default.ensures c.loop.invariant.same

pub loop-preserved : goal.loop-preserved
loop-preserved c = record {
  same =
      rw c.in_ok-push.ensures.list (goes_on (method_kept c.args.pool.now) (seen_list c.loop.methods) c.args.count c.loop.counter c.loop.rest.now
      (seen_method c.in-Some.method) c.in-Some.after.now _ c.loop-test.true c.in-Some.ensures c.loop.invariant.same);
  numbered = c.in_ok-push.ensures.numbered;
  many = omega (arith, c.in_ok-push.ensures.longer);
}
