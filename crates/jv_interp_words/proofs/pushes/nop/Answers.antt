use Rattle.std.proofs.Common.{refl}
use Rattle.jv_interp_words.specs.declared.registers.Registers.{Registers}
use Rattle.jv_interp_words.proofs.PushedOn.{nop_goes}
use Rattle.jv_interp_words.proofs.pushes.nop.Goals as goal

pub returns-clause-went : goal.returns-clause-went
returns-clause-went c =
    let at = c.args.at.now in
    let after : Registers = record at { pc = c.args.next } in
    nop_goes c.args.next at after c.args.words.now refl refl
