use Rattle.std.proofs.Common.{◌-◌, refl, arith}
use Rattle.jv_stackmap.specs.declared.verification.VerificationTypeOf.TheVariants as variants
use Rattle.jv_verify_known.proofs.Making.{same_both, set_down, set_one_more}
use Rattle.jv_verify_known.proofs.setting.set_tops.Goals as goal

pub loop-at-preserved : goal.loop-at-preserved
loop-at-preserved c = record {
  least = omega (arith, c.loop-at-test.true, c.loop-at.invariant.within);
  within = omega (arith, c.loop-at.invariant.within);
  set = λ types.
      set_one_more types (λ k. variants.Top) c.args.writes.now c.loop-at.writes c.set_at.new.writes c.args.frame.now.locals c.loop-at.frame.locals c.set_at.new.frame.locals
      (c.loop-at.at - 1) c.loop-at.at c.args.to variants.Top (c.loop-at.invariant.set types) (c.set_at.ensures.set types) (omega (arith, c.loop-at-test.true))
      c.loop-at.invariant.within refl;
  blocks = c.set_at.ensures.blocks;
  same = same_both c.args.frame.now c.loop-at.frame c.set_at.new.frame c.loop-at.invariant.same c.set_at.ensures.same;
}

pub returns-clause-set : goal.returns-clause-set
returns-clause-set c = λ types.
    set_down types (λ k. variants.Top) c.args.writes.now c.loop-at.writes c.args.frame.now.locals c.loop-at.frame.locals c.loop-at.at c.args.from c.args.to
    c.loop-at-test.false c.loop-at.invariant.within c.loop-at.invariant.least (c.loop-at.invariant.set types)
