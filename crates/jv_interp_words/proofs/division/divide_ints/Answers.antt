use Rattle.std.proofs.Common.{ℤ, pos, ap, sym, ◌∙◌}
use Rattle.std.specs.Int.{w32}
use Rattle.std.specs.Ordering.{int_eq}
use Rattle.jv_code.specs.declared.kinds.NumberKind.TheVariants as numbers
use Rattle.jv_meaning_machine.specs.Arithmetic.{divided}
use Rattle.jv_interp_words.proofs.Computed.{known_again, two_done}
use Rattle.jv_interp_words.proofs.division.divide_ints.Goals as goal

pub returns-then-is_zero_int-clause-done : goal.returns-then-is_zero_int-clause-done
returns-then-is_zero_int-clause-done c = λ addresses a b below s.
    ap (λ (z : ℤ). int_eq z (pos 0))
    (sym (known_again numbers.Int addresses b c.top_int-b.result _ s.0 s.1 (c.top_int-b.ensures addresses b s.0 s.1).0))
    ∙ sym c.is_zero_int.ensures ∙ c.if-is_zero_int.true

pub returns-clause-done : goal.returns-clause-done
returns-clause-done c = λ addresses a b below s. (
  ap (λ (z : ℤ). int_eq z (pos 0))
      (sym (known_again numbers.Int addresses b c.top_int-b.result _ s.0 s.1 (c.top_int-b.ensures addresses b s.0 s.1).0))
      ∙ sym c.is_zero_int.ensures ∙ c.if-is_zero_int.false,
  two_done numbers.Int numbers.Int numbers.Int (divided c.args.operator w32) _ _ _ _ _ _ _ c.top_int-b.ensures c.top_int-a.ensures
      c.divided_int.ensures (record { sfits = c.divided_int.type_inv }) c.push_int.ensures.int addresses a b below s,
)
