-- Two flags of which none is set are not set together.
use Rattle.std.proofs.Common.{◌≡◌, ℕ, ◌+◌, ◌*◌, ◌/◌, ◌%◌, ◌^◌, ◌<◌, ap, ◌∙◌, arith}
use Rattle.std.specs.Prelude.{bit_and}
use Rattle.std.proofs.lemmas.Nat.{and_block}

parts_zero : (q r flags : ℕ) → r < 2 ^ 9 → flags ≡ q * 2 ^ 9 + r → bit_and flags 1024 ≡ 0 → bit_and flags 256 ≡ 0 → bit_and flags 1280 ≡ 0
parts_zero q r flags less e a b =
    let all : bit_and flags 1280 ≡ bit_and q 2 * 2 ^ 9 + bit_and r 256 = ap (λ (n : ℕ). bit_and n 1280) e ∙ and_block 9 q 2 r 256 less
    (omega arith) in
    let high : bit_and flags 1024 ≡ bit_and q 2 * 2 ^ 9 + bit_and r 0 = ap (λ (n : ℕ). bit_and n 1024) e ∙ and_block 9 q 2 r 0 less
    (omega arith) in
    let low : bit_and flags 256 ≡ bit_and q 0 * 2 ^ 9 + bit_and r 256 = ap (λ (n : ℕ). bit_and n 256) e ∙ and_block 9 q 0 r 256 less
    (omega arith) in
    omega (arith, all, high, low, a, b)

pub two_bits : (flags : ℕ) → bit_and flags 1024 ≡ 0 → bit_and flags 256 ≡ 0 → bit_and flags 1280 ≡ 0
two_bits flags a b = parts_zero (flags / 512) (flags % 512) flags (omega arith) (omega arith) a b
