use Rattle.jv_code.specs.Insns.{instruction_of}
use Rattle.jv_verify_pass.proofs.CodeFound.{found_at, none_at}
use Rattle.jv_verify_pass.proofs.standing.instruction_at.Goals as goal

pub returns-then-is_start : goal.returns-then-is_start
returns-then-is_start c = λ env has.
    found_at c.instruction_at_is.ensures c.args.code.now.bytes.now env has c.args.offset (instruction_of c.insn_at-next.result.0) c.insn_at-next.ensures.insn

pub returns-else-is_start : goal.returns-else-is_start
returns-else-is_start c = λ env has.
    none_at c.instruction_at_is.ensures c.args.code.now.bytes.now env has c.args.starts.now c.args.offset c.is_start.result c.requires c.is_start.ensures c.if-is_start.false
