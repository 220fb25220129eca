use Rattle.std.proofs.Common.{ℤ, pos, ap, sym, ◌∙◌}
use Rattle.std.specs.Int.{w64}
use Rattle.std.specs.Ordering.{int_eq}
use Rattle.jv_code.specs.declared.kinds.NumberKind.TheVariants as numbers
use Rattle.jv_meaning_machine.specs.Arithmetic.{divided}
use Rattle.jv_interp_words.proofs.Computed.{known_again, two_done}
use Rattle.jv_interp_words.proofs.division.divide_longs.Goals as goal

pub returns-then-is_zero_long-clause-done : goal.returns-then-is_zero_long-clause-done
returns-then-is_zero_long-clause-done c = λ addresses a b below s.
    ap (λ (z : ℤ). int_eq z (pos 0))
    (sym (known_again numbers.Long addresses b c.top_long-b.result _ s.0 s.1 (c.top_long-b.ensures addresses b s.0 s.1).0))
    ∙ sym c.is_zero_long.ensures ∙ c.if-is_zero_long.true

pub returns-clause-done : goal.returns-clause-done
returns-clause-done c = λ addresses a b below s. (
  ap (λ (z : ℤ). int_eq z (pos 0))
      (sym (known_again numbers.Long addresses b c.top_long-b.result _ s.0 s.1 (c.top_long-b.ensures addresses b s.0 s.1).0))
      ∙ sym c.is_zero_long.ensures ∙ c.if-is_zero_long.false,
  two_done numbers.Long numbers.Long numbers.Long (divided c.args.operator w64) _ _ _ _ _ _ _ c.top_long-b.ensures c.top_long-a.ensures
      c.divided_long.ensures (record { sfits = c.divided_long.type_inv }) c.push_long.ensures.long addresses a b below s,
)
