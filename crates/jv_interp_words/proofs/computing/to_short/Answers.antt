use Rattle.jv_code.specs.declared.kinds.NumberKind.TheVariants as numbers
use Rattle.jv_meaning_machine.specs.Values.{low_short}
use Rattle.jv_interp_words.proofs.Computed.{one_converted}
use Rattle.jv_interp_words.proofs.computing.to_short.Goals as goal

pub returns-clause-done : goal.returns-clause-done
returns-clause-done c =
    one_converted numbers.Int numbers.Int (low_short) _ _ _ _ _ c.top_int-a.ensures c.low_short.ensures (record { sfits = c.low_short.type_inv })
    c.push_int.ensures.int
