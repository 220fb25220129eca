use Rattle.jv_interp_instructions.proofs.Done.{went_done, arithmetic_done}
use Rattle.std.proofs.Common.{refl}
use Rattle.jv_interp_instructions.proofs.on_words.execute_division.Goals as goal

pub returns-then-divide-clause-done : goal.returns-then-divide-clause-done
returns-then-divide-clause-done c = went_done _ _ _ _ _ _ (c.divide.ensures.went c.if-divide.true)

pub returns-else-divide-clause-done : goal.returns-else-divide-clause-done
returns-else-divide-clause-done c =
    let same = c.divide.ensures.same c.if-divide.false in
    rw same.0 (rw same.1 (arithmetic_done _ _ _ _ (c.divide.ensures.throws c.if-divide.false) c.system_has_numbers.ensures))

pub returns-else-divide-clause-unmoved : goal.returns-else-divide-clause-unmoved
returns-else-divide-clause-unmoved c held blocks =
    let same = c.divide.ensures.same c.if-divide.false in
    rw same.0 (rw same.1 refl)
