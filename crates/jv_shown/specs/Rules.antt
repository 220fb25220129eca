-- The rules of type checking as sentences, each with its place in the order in which they are asked, and its section (JVMS 4.10.1).
use Rattle.std.specs.Prelude.{ℕ, List, codes}
use Rattle.jv_meaning_typing.specs.declared.verdict.VerifyRule.{VerifyRule}
use Rattle.jv_meaning_typing.specs.declared.verdict.VerifyRule.TheVariants as rules

abbrev pub rule_text : VerifyRule → List ℕ
rule_text rules.Code = codes "rule 1: the code is a list of instructions, and the arguments fit max_locals (JVMS 4.7.3, 4.9.1)"
rule_text rules.HandlerTable =
    codes "rule 2: each handler covers instructions, begins at one, and catches a Throwable (JVMS 4.7.3, 4.10.1.6)"
rule_text rules.MapFrames = codes "rule 3: the frames of the stack map stand at instructions, within max_locals and max_stack (JVMS 4.7.4)"
rule_text rules.Merge =
    codes "rule 4: what falls into an instruction flows to its frame in the stack map; without that it has such a frame (JVMS 4.10.1.6)"
rule_text rules.CoveredHandler =
    codes "rule 5: each handler of the instruction has a frame in the stack map, and what it begins with flows to it (JVMS 4.10.1.6)"
rule_text rules.Instruction = codes "rule 6: the instruction is type safe in the frame before it (JVMS 4.10.1.8, 4.10.1.9)"
rule_text rules.BranchTarget =
    codes "rule 7: each target has a frame in the stack map, and what the instruction leaves flows to it (JVMS 4.10.1.9)"
rule_text rules.EndOfCode = codes "rule 8: control does not go on behind the last instruction (JVMS 4.10.1.6)"
