use Rattle.jv_code.specs.declared.kinds.NumberKind.TheVariants as numbers
use Rattle.jv_meaning_machine.specs.Values.{low_char}
use Rattle.jv_interp_words.proofs.Computed.{one_converted}
use Rattle.jv_interp_words.proofs.computing.to_char.Goals as goal

pub returns-clause-done : goal.returns-clause-done
returns-clause-done c =
    one_converted numbers.Int numbers.Int (low_char) _ _ _ _ _ c.top_int-a.ensures c.low_char.ensures (record { sfits = c.low_char.type_inv })
    c.push_int.ensures.int
