use Rattle.jv_stackmap.proofs.Words.{FillsLocals-holds}
use Rattle.jv_stackmap.proofs.law.fills_locals.Goals as goal

pub returns : goal.returns
returns c = FillsLocals-holds
