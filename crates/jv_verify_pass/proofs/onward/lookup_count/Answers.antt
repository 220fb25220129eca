use Rattle.std.proofs.Common.{arith}
use Rattle.std.proofs.lemmas.List.{length-map}
use Rattle.jv_code.specs.Switches.{pair_distance, pairs_in}
use Rattle.jv_code.proofs.Pairs.{pairs_count}
use Rattle.jv_verify_pass.proofs.onward.lookup_count.Goals as goal

pub returns : goal.returns
returns c = λ default.
    let many = pairs_count c.args.pairs.now in
    let each = length-map (pairs_in c.args.pairs.now) pair_distance in
    omega (arith, many, each)
