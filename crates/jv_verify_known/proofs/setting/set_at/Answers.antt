use Rattle.std.proofs.Common.{ap}
use Rattle.jv_verify_types.specs.Numbered.{NumberFrame}
use Rattle.jv_verify_known.proofs.Making.{set_at_place}
use Rattle.jv_verify_known.proofs.setting.set_at.Goals as goal

pub returns-in_default-clause-set : goal.returns-in_default-clause-set
returns-in_default-clause-set c = λ types.
    set_at_place types c.args.writes.now c.write.new.self c.args.frame.now.locals c.put.new.self.locals c.args.at c.args.item c.requires c.write.ensures
    (ap (λ (f : NumberFrame). f.locals) c.put.ensures)
