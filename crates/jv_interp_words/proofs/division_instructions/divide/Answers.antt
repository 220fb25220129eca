use Rattle.std.proofs.Common.{refl}
use Rattle.jv_interp_words.specs.declared.registers.Registers.{Registers}
use Rattle.jv_interp_words.proofs.DivisionsWork.{division_goes, division_throws}
use Rattle.jv_interp_words.proofs.division_instructions.divide.Goals as goal

pub returns-in-Some-clause-went : goal.returns-in-Some-clause-went
returns-in-Some-clause-went c = λ goes.
    let at = c.args.at.now in
    let after : Registers = record at { pc = c.args.next; top = c.in-Some.top } in
    division_goes c.args.kind c.args.operator c.args.next at after c.args.words.now c.divide_numbers.new.words refl c.in-Some.ensures.done

pub returns-in-None-clause-throws : goal.returns-in-None-clause-throws
returns-in-None-clause-throws c = λ zero_divisor.
    division_throws c.args.kind c.args.operator c.args.next c.args.at.now c.args.words.now c.divide_numbers.new.words c.in-None.ensures.done
