use Rattle.std.proofs.Common.{refl}
use Rattle.jv_interp_words.specs.declared.registers.Registers.{Registers}
use Rattle.jv_interp_words.proofs.LocalsWork.{can_load, load_goes}
use Rattle.jv_interp_words.proofs.local_instructions.load.Goals as goal

pub load-at-requires-clause-can : goal.load-at-requires-clause-can
load-at-requires-clause-can c = can_load c.args.kind c.args.index c.args.form c.args.next c.args.at.now c.args.words.now c.requires

pub returns-clause-went : goal.returns-clause-went
returns-clause-went c =
    let at = c.args.at.now in
    let after : Registers = record at { pc = c.args.next; top = c.load-at.result } in
    load_goes c.args.kind c.args.index c.args.form c.args.next at after c.args.words.now c.load-at.new.words refl c.load-at.ensures.loaded
