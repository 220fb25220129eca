use Rattle.jv_interp_held.specs.Executing.{place}
use Rattle.jv_interp_objects.proofs.Thrown.{null_raises, object_thrown}
use Rattle.jv_interp_objects.proofs.throwing.athrow.Goals as goal

pub returns-then-object-eq0 : goal.returns-then-object-eq0
returns-then-object-eq0 c = λ next held blocks texts x addresses done below h.
    null_raises next (place c.args.at.now c.args.words.now held blocks) texts x addresses done below h c.if-object-eq0.true

pub returns : goal.returns
returns c = λ next held blocks texts x addresses done below h.
    object_thrown next (place c.args.at.now c.args.words.now held blocks) texts x addresses done below h c.if-object-eq0.false
