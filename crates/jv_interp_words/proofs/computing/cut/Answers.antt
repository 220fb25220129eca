use Rattle.std.specs.Int.{w32, w64, cast_signed, cast_unsigned}
use Rattle.std.proofs.Common.{◌%◌}
use Rattle.jv_code.specs.declared.kinds.NumberKind.TheVariants as numbers
use Rattle.jv_interp_words.proofs.Computed.{one_converted}
use Rattle.jv_interp_words.proofs.computing.cut.Goals as goal

pub returns-clause-done : goal.returns-clause-done
returns-clause-done c =
    one_converted numbers.Long numbers.Int (λ a. cast_signed w32 (cast_unsigned w64 a % 4294967296)) _ _ _ _ _ c.top_long-a.ensures
    c.converted_long.ensures (record { sfits = c.converted_long.type_inv })
    c.push_int.ensures.int
