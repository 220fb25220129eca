use Rattle.std.proofs.Common.{length, sym, ap, ◌∙◌}
use Rattle.std.specs.Prelude.{pos}
use Rattle.jv_code.specs.Insns.{instruction_of}
use Rattle.jv_code.specs.Successors.{jump_distances}
use Rattle.jv_verify_pass.proofs.onward.jump_count.Goals as goal

pub returns-in-TableSwitch : goal.returns-in-TableSwitch
returns-in-TableSwitch c = c.table_count.ensures (pos 0) ∙ ap (λ insn. length (jump_distances (instruction_of insn))) (sym c.in-TableSwitch.is)

pub returns-in-LookupSwitch : goal.returns-in-LookupSwitch
returns-in-LookupSwitch c = c.lookup_count.ensures (pos 0) ∙ ap (λ insn. length (jump_distances (instruction_of insn))) (sym c.in-LookupSwitch.is)
