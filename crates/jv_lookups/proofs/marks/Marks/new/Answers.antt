use Rattle.jv_lookups.proofs.Stamped.{none_marked_anew}
use Rattle.jv_lookups.proofs.marks.Marks.new.Goals as goal

pub returns : goal.returns
returns c = none_marked_anew c.args.size c.in_ok-stamps.stamps.items (c.in_ok-stamps.ensures.items_if_clones_equal (λ y e. e))
