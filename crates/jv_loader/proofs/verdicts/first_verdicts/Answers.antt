use Rattle.std.proofs.Common.{rules, ◌≡◌, ◌++◌, ◌∷◌, []}
use Rattle.jv_loader.proofs.FirstVerdicts.{one_verdict_more}
use Rattle.jv_loader.proofs.verdicts.first_verdicts.Goals as goal

pub loop-number-preserved : goal.loop-number-preserved
loop-number-preserved c =
    let pushed : c.push.new.self.items ≡ c.loop-number.verdicts.items ++ c.verdict_of.result ∷ [] = search rules in (
      c.verdict_of.ensures.finals,
      one_verdict_more c.args.table.now c.loop-number.number c.loop-number.verdicts.items c.loop-number.invariant.1 c.verdict_of.result c.verdict_of.ensures.verdict
          c.push.new.self.items pushed,
    )
