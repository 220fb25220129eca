use Rattle.std.proofs.Common.{◌+◌, ◌/◌, ap, length, subst, arith}
use Rattle.jv_verify_peaks.specs.Stretches.{AreAtMost}
use Rattle.jv_verify_peaks.proofs.Rows.{low_in_row, row_has}
use Rattle.jv_verify_peaks.proofs.peaks.Peaks.low_from.Goals as goal

pub index-requires-else-to-at-lt16 : goal.index-requires-else-to-at-lt16
index-requires-else-to-at-lt16 c =
    omega (
      arith,
      c.self.inside.by_16.ok.0,
      row_has 16 c.args.at c.args.to _ _ c.self.invariant.row_16 (omega (arith, ap length c.self.view_is, c.requires.to)) (omega arith),
    )

pub returns-then-at-ne0-2-clause-low : goal.returns-then-at-ne0-2-clause-low
returns-then-at-ne0-2-clause-low c =
    subst (λ xs. AreAtMost c.args.bound c.args.at (c.args.at + 16) xs) c.self.view_is
    (low_in_row 16 (c.args.at / 16) c.args.at c.args.bound _ _ _ c.self.invariant.row_16 (omega (arith, ap length c.self.view_is, c.requires.to))
    (λ k le lt. (omega (arith, ap length c.self.view_is, c.requires.to), omega arith)) c.index-else-to-at-lt16.ensures (omega (arith, c.if-index-bound-2.false)))

pub index-requires-else-to-at-lt256 : goal.index-requires-else-to-at-lt256
index-requires-else-to-at-lt256 c =
    omega (
      arith,
      c.self.inside.by_256.ok.0,
      row_has 256 c.args.at c.args.to _ _ c.self.invariant.row_256 (omega (arith, ap length c.self.view_is, c.requires.to)) (omega arith),
    )

pub returns-then-at-ne0-3-clause-low : goal.returns-then-at-ne0-3-clause-low
returns-then-at-ne0-3-clause-low c =
    subst (λ xs. AreAtMost c.args.bound c.args.at (c.args.at + 256) xs) c.self.view_is
    (low_in_row 256 (c.args.at / 256) c.args.at c.args.bound _ _ _ c.self.invariant.row_256 (omega (arith, ap length c.self.view_is, c.requires.to))
    (λ k le lt. (omega (arith, ap length c.self.view_is, c.requires.to), omega arith)) c.index-else-to-at-lt256.ensures (omega (arith, c.if-index-bound-3.false)))

pub index-requires-else-to-at-lt4096 : goal.index-requires-else-to-at-lt4096
index-requires-else-to-at-lt4096 c =
    omega (
      arith,
      c.self.inside.by_4096.ok.0,
      row_has 4096 c.args.at c.args.to _ _ c.self.invariant.row_4096 (omega (arith, ap length c.self.view_is, c.requires.to)) (omega arith),
    )

pub returns-clause-low : goal.returns-clause-low
returns-clause-low c =
    subst (λ xs. AreAtMost c.args.bound c.args.at (c.args.at + 4096) xs) c.self.view_is
    (low_in_row 4096 (c.args.at / 4096) c.args.at c.args.bound _ _ _ c.self.invariant.row_4096 (omega (arith, ap length c.self.view_is, c.requires.to))
    (λ k le lt. (omega (arith, ap length c.self.view_is, c.requires.to), omega arith)) c.index-else-to-at-lt4096.ensures (omega (arith, c.if-index-bound-4.false)))
