use Rattle.std.proofs.Common.{◌≡◌, ◌∙◌, false, sym, ap, subst}
use Rattle.std.specs.Prelude.{IsTrue}
use Rattle.jv_code.specs.Insns.{Instruction, instruction_of}
use Rattle.jv_code.specs.Places.{IsAt, IsStart}
use Rattle.jv_verify_rules.specs.Method.{MethodContext}
use Rattle.jv_verify_rules.proofs.Placed.{found_at, none_at}
use Rattle.jv_verify_rules.proofs.context.MethodContext.insn_at.Goals as goal

pub returns-then-is_start : goal.returns-then-is_start
returns-then-is_start c = λ env of.
    let insn : Instruction = instruction_of c.insn_at-next.result.0 in
    let code : c.self.inside.code.now.bytes.now ≡ c.args.self.now.code = ap (λ (m : MethodContext). m.code) c.self.view_is in
    found_at c.instruction_at_is.ensures c.args.self.now env c.args.offset insn of
    (subst (λ bytes. IsAt bytes c.args.offset insn) code (subst (λ pc. IsAt c.self.inside.code.now.bytes.now pc insn) c.from-pc.ensures c.insn_at-next.ensures.insn))

no_truth : IsTrue false → ⊥
no_truth h = cc

pub returns-else-is_start : goal.returns-else-is_start
returns-else-is_start c = λ env of.
    let code : c.self.inside.starts.now ≡ c.args.self.now.code = c.self.invariant ∙ ap (λ (m : MethodContext). m.code) c.self.view_is in
    none_at c.instruction_at_is.ensures c.args.self.now env c.args.offset of
    (λ start.
    no_truth (subst IsTrue c.if-is_start.false
    (c.is_start.ensures.1 (subst (λ pc. IsStart c.self.inside.starts.now pc) (sym c.from-pc.ensures)
    (subst (λ bytes. IsStart bytes c.args.offset) (sym code) start)))))
