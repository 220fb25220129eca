use Rattle.std.proofs.Common.{ℕ, List, false, sym, ap, ◌∙◌}
use Rattle.jv_code.specs.Insns.{instruction_of}
use Rattle.jv_verify_types.specs.Numbered.{frame_of}
use Rattle.jv_verify_pass.specs.Pass.{names_in}
use Rattle.jv_verify_pass.specs.Inside.Changes.{may_change, may_change_at}
use Rattle.jv_verify_pass.proofs.Changing.{none_change}
use Rattle.jv_verify_pass.proofs.Noting.{fewer_noted, none_noted}
use Rattle.jv_verify_pass.proofs.step.note.Goals as goal

pub returns-then-keeps_locals : goal.returns-then-keeps_locals
returns-then-keeps_locals c = λ env is.
    let insn = instruction_of c.args.insn.now in
    let frame = frame_of (names_in c.args.pass.now) c.args.frame.now in
    fewer_noted (may_change env c.args.offset insn frame) (λ k. false) c.args.known.now c.args.known.now
    (λ k small e. none_change env c.args.offset insn frame (sym c.keeps_locals.ensures ∙ c.if-keeps_locals.true) k) (none_noted c.args.known.now)

pub returns : goal.returns
returns c = λ env is.
    let insn = instruction_of c.args.insn.now in
    let frame = frame_of (names_in c.args.pass.now) c.args.frame.now in
    fewer_noted (may_change env c.args.offset insn frame) (may_change_at c.deref.result.now insn) c.args.known.now c.note_writes.new.known
    (λ k small e. c.in_ok-copies.ensures env is k (ap (λ (places : List ℕ). may_change_at places insn k) (sym c.deref.ensures.value) ∙ e)) c.note_writes.ensures
