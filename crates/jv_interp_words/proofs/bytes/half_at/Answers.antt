use Rattle.std.proofs.Common.{◌+◌, arith}
use Rattle.jv_interp_words.proofs.OpcodesStand.{half_spelled}
use Rattle.jv_interp_words.proofs.bytes.half_at.Goals as goal

pub returns : goal.returns
returns c =
    half_spelled c.args.code.now c.args.at c.from_be_bytes.result c.requires (omega (arith, c.type_inv.code (c.args.at + 1)))
    c.from_be_bytes.ensures
