use Rattle.std.proofs.Common.{sym}
use Rattle.jv_verify_types.proofs.argument.number_of_base.Goals as goal

pub returns-in-Byte-clause-base : goal.returns-in-Byte-clause-base
returns-in-Byte-clause-base c = sym c.in-Byte.is

pub returns-in-Char-clause-base : goal.returns-in-Char-clause-base
returns-in-Char-clause-base c = sym c.in-Char.is

pub returns-in-Double-clause-base : goal.returns-in-Double-clause-base
returns-in-Double-clause-base c = sym c.in-Double.is

pub returns-in-Float-clause-base : goal.returns-in-Float-clause-base
returns-in-Float-clause-base c = sym c.in-Float.is

pub returns-in-Int-clause-base : goal.returns-in-Int-clause-base
returns-in-Int-clause-base c = sym c.in-Int.is

pub returns-in-Long-clause-base : goal.returns-in-Long-clause-base
returns-in-Long-clause-base c = sym c.in-Long.is

pub returns-in-Short-clause-base : goal.returns-in-Short-clause-base
returns-in-Short-clause-base c = sym c.in-Short.is

pub returns-in-Boolean-clause-base : goal.returns-in-Boolean-clause-base
returns-in-Boolean-clause-base c = sym c.in-Boolean.is
