use Rattle.std.proofs.Common.{◌-◌, ap, ◌∙◌, arith}
use Rattle.jv_verify_types.specs.Typed.{typed}
use Rattle.jv_verify_types.specs.Mapped.{names_of_types, type_of_entry}
use Rattle.jv_verify_known.specs.Inside.Setting.{type_in}
use Rattle.jv_verify_known.proofs.Making.{same_both, set_one_more}
use Rattle.jv_verify_known.proofs.setting.set_stretch.Goals as goal

pub loop-at-preserved : goal.loop-at-preserved
loop-at-preserved c = record {
  least = omega (arith, c.loop-at-test.true);
  within = omega (arith, c.loop-at.invariant.within);
  set =
      set_one_more c.args.types.now (type_in c.args.types.now c.args.stretch.now c.args.to) c.args.writes.now c.loop-at.writes c.set_at.new.writes
      c.args.frame.now.locals c.loop-at.frame.locals c.set_at.new.frame.locals (c.loop-at.at - 1) c.loop-at.at c.args.to
      (typed (names_of_types c.args.types.now) c.item-item.result) c.loop-at.invariant.set (c.set_at.ensures.set c.args.types.now) (omega (arith, c.loop-at-test.true))
      c.loop-at.invariant.within (c.item-item.ensures ∙ ap (type_of_entry c.args.types.now) c.entry_at.ensures);
  same = same_both c.args.frame.now c.loop-at.frame c.set_at.new.frame c.loop-at.invariant.same c.set_at.ensures.same;
}
