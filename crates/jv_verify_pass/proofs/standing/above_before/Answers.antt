use Rattle.std.proofs.Common.{◌<◌, arith}
use Rattle.std.proofs.lemmas.Grind.{common_steps}
use Rattle.jv_verify_pass.proofs.standing.above_before.Goals as goal

pub returns : goal.returns
returns c =
    let less : c.in_ok-before.before < c.args.place = grind (arith, common_steps) in
    (c.in_ok-before.before, c.in_ok-above.above.1, less, c.in_ok-above.ensures)
