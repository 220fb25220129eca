use Rattle.std.specs.Int.{w64}
use Rattle.jv_code.specs.declared.kinds.NumberKind.TheVariants as numbers
use Rattle.jv_meaning_machine.specs.Arithmetic.{shifted, places}
use Rattle.jv_interp_words.proofs.Computed.{two_computed}
use Rattle.jv_interp_words.proofs.computing.shift_longs.Goals as goal

pub returns-clause-done : goal.returns-clause-done
returns-clause-done c =
    two_computed numbers.Long numbers.Int numbers.Long (λ a by. shifted c.args.operator w64 a (places numbers.Long by)) _ _ _ _ _ _ _ c.top_int-b.ensures c.top_long-a.ensures c.shift_of_longs.ensures
    (record { sfits = c.shift_of_longs.type_inv }) c.push_long.ensures.long
