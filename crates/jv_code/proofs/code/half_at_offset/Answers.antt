use Rattle.std.proofs.Common.{sym, arith}
use Rattle.jv_format.specs.Format.{half}
use Rattle.jv_format.proofs.Laws.{half_is}
use Rattle.jv_code.proofs.OperandLaws.{read_stands}
use Rattle.jv_code.proofs.code.half_at_offset.Goals as goal

pub returns : goal.returns
returns c = read_stands half c.args.bytes.now _ _ c.args.at _ half_is (λ i. omega (arith, c.type_inv.bytes i)) (sym c.split_at.ensures.back) c.in-Some.ensures
