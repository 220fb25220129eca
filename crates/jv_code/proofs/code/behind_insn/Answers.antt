use Rattle.std.proofs.Common.{arith}
use Rattle.jv_format.proofs.Laws.{none_spelled}
use Rattle.jv_code.specs.Inside.Reading.{insn}
use Rattle.jv_code.proofs.Laws.{insn_is}
use Rattle.jv_code.proofs.code.behind_insn.Goals as goal

pub returns-in_default-clause-none : goal.returns-in_default-clause-none
returns-in_default-clause-none c = none_spelled (insn c.args.at) (insn_is c.args.at) c.args.bytes.now c.in_default.ensures

pub returns-clause-found : goal.returns-clause-found
returns-clause-found c =
    let read = c.in-Some.ensures in
    let spelled = (insn_is c.args.at).takes c.args.bytes.now _ _ (λ i. omega (arith, c.type_inv.bytes i)) read.1 in
    (read.0, spelled.0, spelled.1)
