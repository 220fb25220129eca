use Rattle.jv_beyond.specs.Mnemonics.{mnemonic}
use Rattle.jv_beyond.proofs.mnemonics.mnemonic.Goals as goal

pub returns : goal.returns
unfolding mnemonic
returns c = c.name_in.ensures
