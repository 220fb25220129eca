use Rattle.std.proofs.Common.{refl}
use Rattle.jv_interp_words.specs.declared.registers.Registers.{Registers}
use Rattle.jv_interp_words.proofs.PushedOn.{null_fits, null_goes}
use Rattle.jv_interp_words.proofs.pushes.push_null.Goals as goal

pub push_word-at-requires : goal.push_word-at-requires
push_word-at-requires c = null_fits c.args.next c.args.at.now c.args.words.now c.requires

pub returns-clause-went : goal.returns-clause-went
returns-clause-went c =
    let at = c.args.at.now in
    let after : Registers = record at { pc = c.args.next; top = c.push_word-at.result } in
    null_goes c.args.next at after c.args.words.now c.push_word-at.new.words refl c.push_word-at.ensures.used
