use Rattle.std.proofs.Common.{refl, arith, suc}
use Rattle.jv_class.specs.Inside.Reading.{IsSupportedAt}
use Rattle.jv_class.specs.Supported.{IsSupportedConstant}
use Rattle.jv_class.proofs.Kept.{untrue, all_from_table, next_one, at_indices}
use Rattle.jv_class.proofs.supported.are_supported_constants.Goals as goal

pub returns-then-not-is_supported_entry : goal.returns-then-not-is_supported_entry
returns-then-not-is_supported_entry c = (
  λ no. absurd (untrue _ refl no),
  λ all. absurd (untrue c.is_supported_entry.result c.if-not-is_supported_entry.true
      (c.is_supported_entry.ensures.1 (at_indices (IsSupportedConstant c.args.pool.now) c.args.pool.now all c.loop-index.index))),
)

pub loop-index-preserved : goal.loop-index-preserved
loop-index-preserved c =
    next_one (IsSupportedAt c.args.pool.now) c.loop-index.index c.loop-index.invariant (c.is_supported_entry.ensures.0 c.if-not-is_supported_entry.false)

pub returns : goal.returns
returns c = (
  λ yes. all_from_table (IsSupportedConstant c.args.pool.now) c.args.pool.now (λ n d lt e. c.loop-index.invariant (suc n) (omega arith) (omega arith) d e),
  λ all. refl,
)
