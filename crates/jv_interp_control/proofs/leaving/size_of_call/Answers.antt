use Rattle.jv_code.specs.declared.kinds.Invocation.TheVariants as calls
use Rattle.jv_interp_control.proofs.CallsRead.{three_bytes, five_bytes}
use Rattle.jv_interp_control.proofs.leaving.size_of_call.Goals as goal

pub returns-in-182 : goal.returns-in-182
returns-in-182 c = three_bytes calls.Virtual c.args.opcode c.in-182.is

pub returns-in-183 : goal.returns-in-183
returns-in-183 c = three_bytes calls.Special c.args.opcode c.in-183.is

pub returns-in-184 : goal.returns-in-184
returns-in-184 c = three_bytes calls.Static c.args.opcode c.in-184.is

pub returns-in-185 : goal.returns-in-185
returns-in-185 c = five_bytes c.args.opcode c.in-185.is
