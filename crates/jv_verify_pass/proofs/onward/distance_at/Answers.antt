use Rattle.std.proofs.Common.{sym, ◌∙◌}
use Rattle.jv_verify_pass.proofs.FirstFound.{not_none}
use Rattle.jv_code.specs.Insns.{instruction_of}
use Rattle.jv_code.specs.Successors.{jump_distances}
use Rattle.jv_verify_pass.proofs.onward.distance_at.Goals as goal

pub unreachable-requires : goal.unreachable-requires
unreachable-requires c = not_none (jump_distances (instruction_of c.args.insn.now)) c.args.place c.requires (sym c.jump_distance.ensures ∙ c.in-None.is)
