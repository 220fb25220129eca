use Rattle.jv_operands.proofs.UnsafeRule.{unsafe}
use Rattle.jv_operands.proofs.law.unmet_is_unsafe.Goals as goal

pub returns : goal.returns
returns c = unsafe
