use Rattle.std.specs.Int.{w32}
use Rattle.jv_code.specs.declared.kinds.NumberKind.TheVariants as numbers
use Rattle.jv_meaning_machine.specs.Arithmetic.{arithmetic}
use Rattle.jv_interp_words.proofs.Computed.{two_computed}
use Rattle.jv_interp_words.proofs.computing.arithmetic_on_ints.Goals as goal

pub returns-clause-done : goal.returns-clause-done
returns-clause-done c =
    two_computed numbers.Int numbers.Int numbers.Int (arithmetic c.args.operator w32) _ _ _ _ _ _ _ c.top_int-b.ensures c.top_int-a.ensures c.arithmetic_of_ints.ensures
    (record { sfits = c.arithmetic_of_ints.type_inv }) c.push_int.ensures.int
