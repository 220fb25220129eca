use Rattle.jv_code.specs.declared.kinds.NumberKind.TheVariants as numbers
use Rattle.jv_interp_words.proofs.Computed.{one_converted}
use Rattle.jv_interp_words.proofs.computing.widen.Goals as goal

pub returns-clause-done : goal.returns-clause-done
returns-clause-done c =
    one_converted numbers.Int numbers.Long (λ a. a) _ _ _ _ _ c.top_int-a.ensures c.from.ensures (record { sfits = c.from.type_inv })
    c.push_long.ensures.long
