use Rattle.std.proofs.Common.{sym, arith}
use Rattle.jv_code.proofs.Skipped.{ends_behind, end_fits, goes_on_behind, few_bytes}
use Rattle.jv_code.proofs.code.Code.end_of_insn.Goals as goal

pub overflow_add-result : goal.overflow_add-result
overflow_add-result c =
    let within = end_fits _ _ c.args.pc _ c.requires (sym c.split_at.ensures.back) (c.told_size-size.ensures c.if-size-eq0.false c.args.pc) in
    omega (arith, within, few_bytes _ c.args.pc c.requires)

pub overflow_cast-result : goal.overflow_cast-result
overflow_cast-result c =
    let within = end_fits _ _ c.args.pc _ c.requires (sym c.split_at.ensures.back) (c.told_size-size.ensures c.if-size-eq0.false c.args.pc) in
    omega (arith, within, few_bytes _ c.args.pc c.requires)

pub returns-clause-insn : goal.returns-clause-insn
returns-clause-insn c = ends_behind _ _ c.args.pc _ c.requires (sym c.split_at.ensures.back) (c.told_size-size.ensures c.if-size-eq0.false c.args.pc)

pub returns-clause-goes_on : goal.returns-clause-goes_on
returns-clause-goes_on c = goes_on_behind _ _ c.args.pc _ c.requires (sym c.split_at.ensures.back) (c.told_size-size.ensures c.if-size-eq0.false c.args.pc)
