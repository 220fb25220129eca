use Rattle.std.specs.Int.{w32, int_wrapping_neg}
use Rattle.jv_code.specs.declared.kinds.NumberKind.TheVariants as numbers
use Rattle.jv_interp_words.proofs.Computed.{one_computed}
use Rattle.jv_interp_words.proofs.computing.negate_int.Goals as goal

pub returns-clause-done : goal.returns-clause-done
returns-clause-done c =
    one_computed numbers.Int numbers.Int (int_wrapping_neg w32) _ _ _ _ _ c.top_int-a.ensures c.wrapping_neg.ensures (record { sfits = c.wrapping_neg.type_inv })
    c.push_int.ensures.int
