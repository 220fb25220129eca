use Rattle.std.proofs.Common.{◌≡◌, arith, refl, ap, ℕ}
use Rattle.jv_pool.specs.Constants.{pool_count, at_index}
use Rattle.jv_pool.specs.Rules.{KeepsRules}
use Rattle.jv_pool.specs.Inside.Known.{IsKept}
use Rattle.jv_pool.proofs.Kept.{untrue, below_or_here, at_every, every_at}
use Rattle.jv_pool.proofs.rules.keep_rules.Goals as goal

pub returns-then-not-keeps_rules_at : goal.returns-then-not-keeps_rules_at
returns-then-not-keeps_rules_at c = (
  λ no. absurd (untrue _ refl no),
  λ all. absurd (untrue c.keeps_rules_at.result c.if-not-keeps_rules_at.true (c.keeps_rules_at.ensures.1 (at_every (KeepsRules c.args.known.now) c.args.known.now all c.loop-index.index))),
)

pub loop-index-preserved : goal.loop-index-preserved
loop-index-preserved c =
    let P : ℕ → Type 0 = λ k. IsKept c.args.known.now (at_index c.args.known.now k) in
    below_or_here P c.loop-index.index c.loop-index.invariant (c.keeps_rules_at.ensures.0 c.if-not-keeps_rules_at.false)

pub returns : goal.returns
returns c =
    let count : pool_count c.table.result.now ≡ pool_count c.args.known.now = ap pool_count c.table.ensures in
    (λ yes. every_at (KeepsRules c.args.known.now) c.args.known.now c.loop-index.index (omega (arith, count)) c.loop-index.invariant, λ all. refl)
