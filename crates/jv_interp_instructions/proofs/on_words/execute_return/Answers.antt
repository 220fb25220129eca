use Rattle.std.proofs.Common.{refl}
use Rattle.jv_interp_instructions.proofs.Done.{value_done}
use Rattle.jv_interp_instructions.proofs.on_words.execute_return.Goals as goal

pub returns-in-Int : goal.returns-in-Int
returns-in-Int c = rw c.in-Int.is (λ next. value_done _ next _ _ 1 refl)

pub returns-in-Long : goal.returns-in-Long
returns-in-Long c = rw c.in-Long.is (λ next. value_done _ next _ _ 2 refl)

pub returns-in-Reference : goal.returns-in-Reference
returns-in-Reference c = rw c.in-Reference.is (λ next. value_done _ next _ _ 1 refl)
