use Rattle.std.proofs.lemmas.Grind.{common_steps}
use Rattle.std.proofs.Common.{sym, arith}
use Rattle.jv_code.specs.Insns.{instruction_of}
use Rattle.jv_code.proofs.Sizes.{some_bytes}
use Rattle.jv_code.proofs.StartLaws.{known_none, known_is, ends_at, ends_there}
use Rattle.jv_code.proofs.code.Code.insn_at.Goals as goal

pub unreachable-requires : goal.unreachable-requires
unreachable-requires c = known_none _ _ c.args.pc c.requires.0 c.requires.1 (sym c.split_at.ensures.back) c.in_default.ensures

pub overflow_sub-result : goal.overflow_sub-result
overflow_sub-result c =
    let read = known_is _ _ c.args.pc c.requires.0 _ _ c.requires.1 (sym c.split_at.ensures.back) c.in-Some.ensures in
    omega (arith, ends_there _ _ _ _ read.0 read.1)

pub returns-clause-insn : goal.returns-clause-insn
returns-clause-insn c = (known_is _ _ c.args.pc c.requires.0 _ _ c.requires.1 (sym c.split_at.ensures.back) c.in-Some.ensures).0

pub returns-clause-next : goal.returns-clause-next
returns-clause-next c =
    let read = known_is _ _ c.args.pc c.requires.0 _ _ c.requires.1 (sym c.split_at.ensures.back) c.in-Some.ensures in
    omega (arith, ends_there _ _ _ _ read.0 read.1)

pub returns-clause-goes_on : goal.returns-clause-goes_on
returns-clause-goes_on c =
    let read = known_is _ _ c.args.pc c.requires.0 _ _ c.requires.1 (sym c.split_at.ensures.back) c.in-Some.ensures in
    ends_at _ c.args.pc _ _ read.0 read.1

pub returns-clause-rises : goal.returns-clause-rises
returns-clause-rises c =
    let read = known_is _ _ c.args.pc c.requires.0 _ _ c.requires.1 (sym c.split_at.ensures.back) c.in-Some.ensures in
    omega (arith, ends_there _ _ _ _ read.0 read.1, some_bytes (instruction_of c.in-Some.insn))

pub split_at-requires : goal.split_at-requires
split_at-requires c = grind (arith, common_steps)
