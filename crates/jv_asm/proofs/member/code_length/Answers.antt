use Rattle.std.proofs.Common.{arith}
use Rattle.jv_asm.specs.Description.{described_code}
use Rattle.jv_asm.proofs.Lengths.{code_length_is}
use Rattle.jv_asm.proofs.member.code_length.Goals as goal

pub returns : goal.returns
returns c =
    let is = code_length_is (described_code c.args.code.now) in
    omega (arith, is, c.attributes_length.ensures.length)
