use Rattle.jv_malformed.proofs.Passing.{structure_told}
use Rattle.jv_malformed.proofs.structure.fault_of_structure.Goals as goal

pub returns-in-Ok : goal.returns-in-Ok
returns-in-Ok c =
    structure_told c.args.major c.in-Ok.taken c.args.bytes.now c.split_at.result.1.now c.in-Ok.pool c.faulty_in.result c.split_at.ensures.back c.in-Ok.ensures.ok
    c.requires.none c.faulty_in.ensures
