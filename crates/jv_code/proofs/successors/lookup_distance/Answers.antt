use Rattle.std.proofs.Common.{sym, ◌∙◌}
use Rattle.jv_code.specs.Switches.{pairs_in}
use Rattle.jv_code.proofs.Pairs.{distance_behind_default}
use Rattle.jv_code.proofs.successors.lookup_distance.Goals as goal

pub returns : goal.returns
returns c = c.distance_of_pair_at.ensures ∙ sym (distance_behind_default c.args.default (pairs_in c.args.pairs.now) c.args.place c.if-place-eq0.false)
