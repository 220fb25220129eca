use Rattle.jv_code.specs.declared.kinds.NumberKind.TheVariants as numbers
use Rattle.jv_meaning_machine.specs.Arithmetic.{compared}
use Rattle.jv_interp_words.proofs.Computed.{two_computed}
use Rattle.jv_interp_words.proofs.computing.compare_longs.Goals as goal

pub returns-clause-done : goal.returns-clause-done
returns-clause-done c =
    two_computed numbers.Long numbers.Long numbers.Int (compared) _ _ _ _ _ _ _ c.top_long-b.ensures c.top_long-a.ensures c.compared.ensures
    (record { sfits = c.compared.type_inv }) c.push_int.ensures.int
