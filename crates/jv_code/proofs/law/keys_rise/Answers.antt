use Rattle.jv_code.proofs.StartLaws.{KeysRise-holds}
use Rattle.jv_code.proofs.law.keys_rise.Goals as goal

pub returns : goal.returns
returns c = KeysRise-holds
