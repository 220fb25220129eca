use Rattle.std.proofs.Common.{refl}
use Rattle.jv_interp_words.specs.declared.registers.Registers.{Registers}
use Rattle.jv_interp_words.proofs.PushedOn.{can_compute, computation_goes}
use Rattle.jv_interp_words.proofs.pushes.compute.Goals as goal

pub compute-at-requires-clause-computes : goal.compute-at-requires-clause-computes
compute-at-requires-clause-computes c = can_compute c.args.what c.args.next c.args.at.now c.args.words.now c.requires

pub returns-clause-went : goal.returns-clause-went
returns-clause-went c =
    let at = c.args.at.now in
    let after : Registers = record at { pc = c.args.next; top = c.compute-at.result } in
    computation_goes c.args.what c.args.next at after c.args.words.now c.compute-at.new.words refl c.compute-at.ensures.done
