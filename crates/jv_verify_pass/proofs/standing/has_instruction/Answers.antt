use Rattle.jv_verify_pass.proofs.CodeFound.{some_at}
use Rattle.jv_verify_pass.proofs.standing.has_instruction.Goals as goal

pub returns : goal.returns
returns c = λ env has.
    some_at c.instruction_at_is.ensures c.args.code.now.bytes.now env has c.args.starts.now c.args.offset c.is_start.result c.requires c.is_start.ensures
