use Rattle.std.proofs.Common.{◌≡◌, ℕ, ℤ, ◌+◌, ◌*◌, ◌/◌, ◌%◌, sym, ap, ◌∙◌, arith}
use Rattle.std.proofs.lemmas.Int.{to_z-of_z}
use Rattle.std.specs.Int.{w64, cast_signed, cast_unsigned}
use Rattle.jv_interp_words.proofs.operands.push_long.Goals as goal

halves : (n : ℕ) → n ≡ n / 4294967296 * 4294967296 + n % 4294967296
halves n = omega arith

pub returns-clause-long : goal.returns-clause-long
returns-clause-long c = λ addresses.
    let bits = c.cast_unsigned-bits in (
      bits.result % 4294967296,
      bits.result / 4294967296,
      c.push_two.ensures.used,
      sym (to_z-of_z w64 c.args.value c.ranges.value)
          ∙ ap (λ (z : ℤ). cast_signed w64 (cast_unsigned w64 z)) (sym (to_z-of_z w64 c.args.value c.ranges.value))
          ∙ ap (cast_signed w64) (sym bits.ensures)
          ∙ ap (cast_signed w64) (halves bits.result),
    )
