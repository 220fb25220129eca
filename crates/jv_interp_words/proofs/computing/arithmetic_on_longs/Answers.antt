use Rattle.std.specs.Int.{w64}
use Rattle.jv_code.specs.declared.kinds.NumberKind.TheVariants as numbers
use Rattle.jv_meaning_machine.specs.Arithmetic.{arithmetic}
use Rattle.jv_interp_words.proofs.Computed.{two_computed}
use Rattle.jv_interp_words.proofs.computing.arithmetic_on_longs.Goals as goal

pub returns-clause-done : goal.returns-clause-done
returns-clause-done c =
    two_computed numbers.Long numbers.Long numbers.Long (arithmetic c.args.operator w64) _ _ _ _ _ _ _ c.top_long-b.ensures c.top_long-a.ensures c.arithmetic_of_longs.ensures
    (record { sfits = c.arithmetic_of_longs.type_inv }) c.push_long.ensures.long
