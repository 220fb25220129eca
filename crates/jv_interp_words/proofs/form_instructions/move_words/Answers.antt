use Rattle.std.proofs.Common.{refl}
use Rattle.jv_interp_words.specs.declared.registers.Registers.{Registers}
use Rattle.jv_interp_words.proofs.FormsWork.{form_some, form_room, form_goes}
use Rattle.jv_interp_words.proofs.form_instructions.move_words.Goals as goal

pub move_words-at-requires : goal.move_words-at-requires
move_words-at-requires c = record {
  some = form_some c.args.form c.args.next c.args.at.now c.args.words.now c.requires;
  room = form_room c.args.form c.args.next c.args.at.now c.args.words.now c.requires;
}

pub returns-clause-went : goal.returns-clause-went
returns-clause-went c =
    let at = c.args.at.now in
    let after : Registers = record at { pc = c.args.next; top = c.move_words-at.result } in
    form_goes c.args.form c.args.next at after c.args.words.now c.move_words-at.new.words refl c.move_words-at.ensures.done
