-- A pass over the code: where it is, and what it finds.
use Rattle.std.proofs.Common.{◌≡◌, ℕ, ◌<◌, ◌≤◌, Bool, true, List, length, Option, Some, None, sym, ap, subst, ◌∙◌, inl, inr, arith}
use Rattle.jv_stackmap.specs.Frames.{Frame, PlacedFrame}
use Rattle.jv_code.specs.Insns.{Instruction}
use Rattle.jv_code.specs.Places.{IsAt, IsStart, IsStartOrEnd, StandsInList, StartsApart}
use Rattle.jv_code.specs.Successors.{falls_through}
use Rattle.jv_meaning_typing.specs.declared.verdict.VerifyRule.{VerifyRule}
use Rattle.jv_meaning_typing.specs.declared.verdict.VerifyRule.TheVariants as rules
use Rattle.jv_meaning_typing.specs.Environment.{Environment, IsEnvironment, instruction_at, offset_behind}
use Rattle.jv_meaning_typing.specs.Judgement.{BreaksFirst, GoesOnBehind}
use Rattle.jv_meaning_typing.proofs.Starts.{instruction_at_is}
use Rattle.jv_verify_pass.specs.Found.{IsBroken, IsTyped}
use Rattle.jv_verify_pass.specs.Inside.Walk.{Reaches, Progress, IsStep, when_falls}
use Rattle.jv_verify_pass.proofs.Walking.{end_broken, further, whole}

-- before the end an instruction starts
pub start_here : (code bytes : List ℕ) (pc size : ℕ) → bytes ≡ code → size ≡ length bytes → pc < size → IsStartOrEnd code pc → IsStart bytes pc
start_here code bytes pc size e l lt (inl start) = subst (λ (b : List ℕ). IsStart b pc) (sym e) start
start_here code bytes pc size e l lt (inr end) = absurd (omega (arith, l, lt, end, ap length e))

-- an instruction that starts before an offset, at which another one starts or the code ends, is behind before it or there
pub no_further : StartsApart → (code bytes : List ℕ) (pc next end : ℕ) (insn : Instruction) → bytes ≡ code → IsAt bytes pc insn → next ≡ offset_behind pc insn
    → next ≤ length bytes → pc < end → IsStartOrEnd code end → next ≤ end
no_further apart code bytes pc next end insn e at n within lt (inl start) =
    let behind : offset_behind pc insn ≤ end = apart code pc end insn start.0 (subst (λ (b : List ℕ). IsAt b pc insn) e at) start.1 (omega (arith, lt)) in
    omega (arith, n, behind)
no_further apart code bytes pc next end insn e at n within lt (inr last) = omega (arith, within, last, ap length e)

-- the first rule that is broken at an instruction is none on the code's end
pub broken : (env : Environment) (maps : List PlacedFrame) (pc : ℕ) (rule : VerifyRule) → BreaksFirst env maps pc rule → IsBroken env maps pc rule
broken env maps pc rules.Code b = b
broken env maps pc rules.HandlerTable b = b
broken env maps pc rules.MapFrames b = b
broken env maps pc rules.Merge b = b
broken env maps pc rules.CoveredHandler b = b
broken env maps pc rules.Instruction b = b
broken env maps pc rules.BranchTarget b = b
broken env maps pc rules.EndOfCode b = absurd b.breaks

module _ (stands : StandsInList) (apart : StartsApart) (env : Environment) (is : IsEnvironment env) (maps : List PlacedFrame) where
  pub at_is : (code bytes : List ℕ) (pc : ℕ) (insn : Instruction) → bytes ≡ code → env.code.code ≡ code → IsAt bytes pc insn → instruction_at env pc ≡ Some insn
  at_is code bytes pc insn e f at = (instruction_at_is stands env pc insn is).0 (subst (λ (b : List ℕ). IsAt b pc insn) (e ∙ sym f) at)

  pub step_broken : (pc : ℕ) (insn : Instruction) (left : Frame) (found : Option VerifyRule) (rule : VerifyRule) → found ≡ Some rule → IsStep env maps pc insn left found
      → IsBroken env maps pc rule
  step_broken pc insn left found rule e s = broken env maps pc rule (subst (λ (o : Option VerifyRule). IsStep env maps pc insn left o) e s)

  pub step_on : (pc : ℕ) (insn : Instruction) (left : Frame) (found : Option VerifyRule) → found ≡ None → IsStep env maps pc insn left found
      → Reaches env maps (offset_behind pc insn) (when_falls (falls_through insn) left)
  step_on pc insn left found e s = subst (λ (o : Option VerifyRule). IsStep env maps pc insn left o) e s

  length_is : (code bytes : List ℕ) (size : ℕ) → bytes ≡ code → env.code.code ≡ code → size ≡ length bytes → size ≡ length env.code.code
  length_is code bytes size e f l = l ∙ ap length (e ∙ sym f)

  pub at_end : (code bytes : List ℕ) (size pc next : ℕ) (insn : Instruction) (left : Frame) (found : Option VerifyRule) → bytes ≡ code → env.code.code ≡ code → size ≡ length bytes
      → IsAt bytes pc insn → next ≡ offset_behind pc insn → next ≡ size → true ≡ falls_through insn → found ≡ None → IsStep env maps pc insn left found
      → GoesOnBehind env maps pc
  at_end code bytes size pc next insn left found e f l at n end falls o s =
      end_broken stands apart env is maps pc insn (when_falls (falls_through insn) left) (at_is code bytes pc insn e f at)
      (sym n ∙ (end ∙ length_is code bytes size e f l)) (sym falls) (step_on pc insn left found o s)

  pub goes_further : (code bytes : List ℕ) (size pc next : ℕ) (insn : Instruction) (left : Frame) (found : Option VerifyRule) (falls : Bool) → bytes ≡ code → env.code.code ≡ code
      → size ≡ length bytes → IsAt bytes pc insn → next ≡ offset_behind pc insn → falls ≡ falls_through insn → (falls ≡ true → next ≡ size → ⊥) → found ≡ None
      → IsStep env maps pc insn left found → Progress env maps next (when_falls falls left)
  goes_further code bytes size pc next insn left found falls e f l at n b not_last o s =
      let there : Progress env maps (offset_behind pc insn) (when_falls (falls_through insn) left) =
      further stands apart env is maps pc insn (when_falls (falls_through insn) left) (at_is code bytes pc insn e f at) (step_on pc insn left found o s)
      (λ t end. not_last (b ∙ t) (n ∙ (end ∙ sym (length_is code bytes size e f l)))) in
      subst (λ (k : ℕ). Progress env maps k (when_falls falls left)) (sym n)
      (subst (λ (c : Bool). Progress env maps (offset_behind pc insn) (when_falls c left)) (sym b) there)

  pub is_whole : (code bytes : List ℕ) (size : ℕ) (falling : Option Frame) → bytes ≡ code → env.code.code ≡ code → size ≡ length bytes
      → Progress env maps size falling → IsTyped env maps
  is_whole code bytes size falling e f l p = whole stands apart env is maps size falling (length_is code bytes size e f l) p
