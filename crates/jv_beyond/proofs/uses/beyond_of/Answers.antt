use Rattle.std.proofs.Common.{sym, ◌∙◌}
use Rattle.jv_code.specs.Insns.{instruction_of}
use Rattle.jv_beyond.proofs.InUse.{by_index}
use Rattle.jv_beyond.proofs.uses.beyond_of.Goals as goal

pub returns-in-Some : goal.returns-in-Some
returns-in-Some c =
    by_index c.args.pool.now (instruction_of c.args.insn) c.in-Some.index (sym c.constant_index.ensures ∙ c.in-Some.is) c.beyond_at.result c.beyond_at.ensures
