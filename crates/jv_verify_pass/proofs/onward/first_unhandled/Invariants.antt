use Rattle.jv_meaning_typing.specs.Rule.{handler_frame}
use Rattle.jv_verify_types.specs.Numbered.{frame_of}
use Rattle.jv_verify_pass.specs.Onward.{is_unhandled}
use Rattle.jv_verify_pass.specs.Pass.{maps_of, names_in}
use Rattle.jv_verify_pass.specs.Inside.Unmet.{AsLeft}
use Rattle.jv_verify_pass.proofs.FirstFound.{NoneBelow}
use Rattle.jv_verify_pass.proofs.onward.first_unhandled.Given as goal

abbrev pub invariant-loop-place : goal.invariant-loop-place
invariant-loop-place l =
    AsLeft l.pass l.frame l.object
    (λ env insn. NoneBelow (is_unhandled env (maps_of l.pass) l.offset (handler_frame env insn (frame_of (names_in l.pass) l.frame))) l.pass.handlers l.place)
