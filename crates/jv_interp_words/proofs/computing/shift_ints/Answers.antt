use Rattle.std.specs.Int.{w32}
use Rattle.jv_code.specs.declared.kinds.NumberKind.TheVariants as numbers
use Rattle.jv_meaning_machine.specs.Arithmetic.{shifted, places}
use Rattle.jv_interp_words.proofs.Computed.{two_computed}
use Rattle.jv_interp_words.proofs.computing.shift_ints.Goals as goal

pub returns-clause-done : goal.returns-clause-done
returns-clause-done c =
    two_computed numbers.Int numbers.Int numbers.Int (λ a by. shifted c.args.operator w32 a (places numbers.Int by)) _ _ _ _ _ _ _ c.top_int-b.ensures c.top_int-a.ensures c.shift_of_ints.ensures
    (record { sfits = c.shift_of_ints.type_inv }) c.push_int.ensures.int
