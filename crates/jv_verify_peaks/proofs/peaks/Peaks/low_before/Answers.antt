use Rattle.std.proofs.Common.{◌≤◌, ◌-◌, ◌/◌, ap, get_or, length, subst, arith}
use Rattle.jv_verify_peaks.proofs.Rows.{low_in_row}
use Rattle.jv_verify_peaks.proofs.peaks.Peaks.low_before.Goals as goal

pub index-requires-else-at-ne0 : goal.index-requires-else-at-ne0
index-requires-else-at-ne0 c =
    omega (arith, c.self.inside.by_16.ok.0, c.self.invariant.row_16.many (c.args.at / 16 - 1) (omega (arith, ap length c.self.view_is, c.requires.to)))

pub returns-then-at-ne0-2-clause-low : goal.returns-then-at-ne0-2-clause-low
returns-then-at-ne0-2-clause-low c = λ from is k le lt.
    subst (λ xs. get_or xs k 0 ≤ c.args.bound) c.self.view_is
    (low_in_row 16 (c.args.at / 16 - 1) from c.args.bound _ _ _ c.self.invariant.row_16 (omega (arith, ap length c.self.view_is, c.requires.to))
    (λ j from_le j_lt. (omega (arith, is, ap length c.self.view_is, c.requires.to), omega (arith, is))) c.index-else-at-ne0.ensures
    (omega (arith, c.if-index-bound-2.false)) k le (omega (arith, is)))

pub index-requires-else-at-ne0-2 : goal.index-requires-else-at-ne0-2
index-requires-else-at-ne0-2 c =
    omega (arith, c.self.inside.by_256.ok.0, c.self.invariant.row_256.many (c.args.at / 256 - 1) (omega (arith, ap length c.self.view_is, c.requires.to)))

pub returns-then-at-ne0-3-clause-low : goal.returns-then-at-ne0-3-clause-low
returns-then-at-ne0-3-clause-low c = λ from is k le lt.
    subst (λ xs. get_or xs k 0 ≤ c.args.bound) c.self.view_is
    (low_in_row 256 (c.args.at / 256 - 1) from c.args.bound _ _ _ c.self.invariant.row_256 (omega (arith, ap length c.self.view_is, c.requires.to))
    (λ j from_le j_lt. (omega (arith, is, ap length c.self.view_is, c.requires.to), omega (arith, is))) c.index-else-at-ne0-2.ensures
    (omega (arith, c.if-index-bound-3.false)) k le (omega (arith, is)))

pub index-requires-else-at-ne0-3 : goal.index-requires-else-at-ne0-3
index-requires-else-at-ne0-3 c =
    omega (arith, c.self.inside.by_4096.ok.0, c.self.invariant.row_4096.many (c.args.at / 4096 - 1) (omega (arith, ap length c.self.view_is, c.requires.to)))

pub returns-clause-low : goal.returns-clause-low
returns-clause-low c = λ from is k le lt.
    subst (λ xs. get_or xs k 0 ≤ c.args.bound) c.self.view_is
    (low_in_row 4096 (c.args.at / 4096 - 1) from c.args.bound _ _ _ c.self.invariant.row_4096 (omega (arith, ap length c.self.view_is, c.requires.to))
    (λ j from_le j_lt. (omega (arith, is, ap length c.self.view_is, c.requires.to), omega (arith, is))) c.index-else-at-ne0-3.ensures
    (omega (arith, c.if-index-bound-4.false)) k le (omega (arith, is)))
