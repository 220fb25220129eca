use Rattle.jv_code.proofs.StartLaws.{first_start}
use Rattle.jv_code.proofs.OneCode.{code_of}
use Rattle.jv_code.proofs.code.Code.size.Goals as goal

pub returns-clause-is_code : goal.returns-clause-is_code
returns-clause-is_code c = code_of c.args.self.now.bytes.now c.args.self.now.is_code

pub returns-clause-first : goal.returns-clause-first
returns-clause-first c =
    let code = code_of c.args.self.now.bytes.now c.args.self.now.is_code in
    first_start code.0 c.args.self.now.bytes.now code.1
