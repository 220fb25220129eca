use Rattle.std.proofs.Common.{◌/◌, arith}
use Rattle.jv_verify_peaks.proofs.Rows.{row_same}
use Rattle.jv_verify_peaks.proofs.peaks.Peaks.new.Goals as goal

pub invariant_of-result : goal.invariant_of-result
invariant_of-result c =
    let count = c.args.count in
    record {
      row_16 =
          row_same 16 count (count / 16) c.args.value _ _ c.in_ok-same.ensures c.in_ok-same-2.ensures
          (λ n le. (omega arith, omega arith)) (λ n le. omega arith);
      row_256 =
          row_same 256 count (count / 256) c.args.value _ _ c.in_ok-same.ensures c.in_ok-same-3.ensures
          (λ n le. (omega arith, omega arith)) (λ n le. omega arith);
      row_4096 =
          row_same 4096 count (count / 4096) c.args.value _ _ c.in_ok-same.ensures c.in_ok-same-4.ensures
          (λ n le. (omega arith, omega arith)) (λ n le. omega arith);
    }
