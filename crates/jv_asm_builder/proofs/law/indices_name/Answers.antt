use Rattle.jv_asm_builder.proofs.Named.{indices_name}
use Rattle.jv_asm_builder.proofs.law.indices_name.Goals as goal

pub returns : goal.returns
returns c = indices_name
