use Rattle.std.proofs.Common.{◌+◌, ap, length, subst, arith}
use Rattle.jv_verify_peaks.specs.Stretches.{IsGreatest}
use Rattle.jv_verify_peaks.proofs.Rows.{greatest_of_row, row_has}
use Rattle.jv_verify_peaks.proofs.peaks.Peaks.top_from.Goals as goal

pub returns-then-at-ne0-2-clause-greatest : goal.returns-then-at-ne0-2-clause-greatest
returns-then-at-ne0-2-clause-greatest c =
    subst (λ xs. IsGreatest c.args.at (c.args.at + 16) xs c.index-then-at-ne0-2.result.now) c.self.view_is
    (greatest_of_row 16 c.args.at c.args.to c.index-then-at-ne0-2.result.now c.self.inside.values.items c.self.inside.by_16.items c.self.invariant.row_16
    (omega (arith, ap length c.self.view_is, c.requires.to)) (omega arith) (λ k le lt. omega arith) (λ k e. (omega arith, omega arith)) (omega arith) (omega arith)
    c.index-then-at-ne0-2.ensures)

pub returns-then-at-ne0-3-clause-greatest : goal.returns-then-at-ne0-3-clause-greatest
returns-then-at-ne0-3-clause-greatest c =
    subst (λ xs. IsGreatest c.args.at (c.args.at + 256) xs c.index-then-at-ne0-3.result.now) c.self.view_is
    (greatest_of_row 256 c.args.at c.args.to c.index-then-at-ne0-3.result.now c.self.inside.values.items c.self.inside.by_256.items c.self.invariant.row_256
    (omega (arith, ap length c.self.view_is, c.requires.to)) (omega arith) (λ k le lt. omega arith) (λ k e. (omega arith, omega arith)) (omega arith) (omega arith)
    c.index-then-at-ne0-3.ensures)

pub returns-clause-greatest : goal.returns-clause-greatest
returns-clause-greatest c =
    subst (λ xs. IsGreatest c.args.at (c.args.at + 4096) xs c.index-2.result.now) c.self.view_is
    (greatest_of_row 4096 c.args.at c.args.to c.index-2.result.now c.self.inside.values.items c.self.inside.by_4096.items c.self.invariant.row_4096
    (omega (arith, ap length c.self.view_is, c.requires.to)) (omega arith) (λ k le lt. omega arith) (λ k e. (omega arith, omega arith)) (omega arith) (omega arith)
    c.index-2.ensures)

pub index-requires-then-at-ne0-2 : goal.index-requires-then-at-ne0-2
index-requires-then-at-ne0-2 c =
    omega (
      arith,
      c.self.inside.by_16.ok.0,
      row_has 16 c.args.at c.args.to _ _ c.self.invariant.row_16 (omega (arith, ap length c.self.view_is, c.requires.to)) (omega arith),
    )

pub index-requires-then-at-ne0-3 : goal.index-requires-then-at-ne0-3
index-requires-then-at-ne0-3 c =
    omega (
      arith,
      c.self.inside.by_256.ok.0,
      row_has 256 c.args.at c.args.to _ _ c.self.invariant.row_256 (omega (arith, ap length c.self.view_is, c.requires.to)) (omega arith),
    )

pub index-requires-2 : goal.index-requires-2
index-requires-2 c =
    omega (
      arith,
      c.self.inside.by_4096.ok.0,
      row_has 4096 c.args.at c.args.to _ _ c.self.invariant.row_4096 (omega (arith, ap length c.self.view_is, c.requires.to)) (omega arith),
    )
