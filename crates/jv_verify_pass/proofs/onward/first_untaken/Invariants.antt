use Rattle.std.specs.Prelude.{not}
use Rattle.jv_code.specs.Insns.{instruction_of}
use Rattle.jv_code.specs.Successors.{jump_targets}
use Rattle.jv_meaning_typing.specs.Environment.{Environment}
use Rattle.jv_meaning_typing.specs.Typing.{target_holds}
use Rattle.jv_verify_types.specs.Numbered.{frame_of}
use Rattle.jv_verify_pass.specs.Pass.{IsOfPass, maps_of, names_in}
use Rattle.jv_verify_pass.proofs.FirstFound.{NoneBelow}
use Rattle.jv_verify_pass.proofs.onward.first_untaken.Given as goal

abbrev pub invariant-loop-place : goal.invariant-loop-place
invariant-loop-place l =
    (env : Environment) → IsOfPass l.pass env
    → NoneBelow (λ t. not (target_holds env (maps_of l.pass) (frame_of (names_in l.pass) l.left) t)) (jump_targets l.offset (instruction_of l.insn)) l.place
