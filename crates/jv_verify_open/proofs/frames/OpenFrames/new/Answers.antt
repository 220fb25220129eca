use Rattle.jv_verify_open.proofs.Flowing.{none_wanting}
use Rattle.jv_verify_open.proofs.frames.OpenFrames.new.Goals as goal

pub returns-clause-wanting : goal.returns-clause-wanting
returns-clause-wanting c = λ types words offset.
    none_wanting types words offset _ c.args.frames c.in_ok-new.ensures c.new-4.ensures.wanted (c.new-4.ensures.allowed types.constants.types offset)
