use Rattle.jv_interp_words.proofs.OpcodesStand.{byte_stands}
use Rattle.jv_interp_words.proofs.bytes.byte_at.Goals as goal

pub returns : goal.returns
returns c = byte_stands c.args.code.now c.args.at c.requires
