-- A rule that is broken at an instruction is broken where one starts.
use Rattle.std.proofs.Common.{◌≡◌, ℕ, true, List, Option, Some, sym, ap, subst, ◌∙◌}
use Rattle.jv_code.specs.Places.{StandsInList}
use Rattle.jv_code.specs.Insns.{Instruction}
use Rattle.jv_class_structure.specs.Parts.{CodeSeen, MethodSeen}
use Rattle.jv_code.specs.Places.{IsAt}
use Rattle.jv_meaning_world.specs.World.{World}
use Rattle.jv_meaning_typing.specs.Uses.{Site}
use Rattle.jv_meaning_typing.specs.Environment.{Environment, IsEnvironment, instruction_at}
use Rattle.jv_meaning_typing.specs.Judgement.{BreaksRule}
use Rattle.jv_meaning_typing.specs.declared.verdict.VerifyRule.{VerifyRule}
use Rattle.jv_meaning_typing.specs.declared.verdict.VerifyRule.TheVariants as rules
use Rattle.jv_meaning_typing.proofs.Starts.{instruction_at_is}
use Rattle.jv_meaning_typing.specs.declared.verdict.VerifyFault.{VerifyFault}
use Rattle.jv_meaning_world.specs.Verdicts.{declared_by}
use Rattle.jv_pool.specs.Constants.{Entry}
use Rattle.jv_explain.specs.Explained.{ShowsInstruction, ShowsPlace, is_at_instruction}
use Rattle.jv_explain.specs.Inside.Said.{IsPlaceIn, ShowsFaultIn, StandsAt}
use Rattle.jv_explain.specs.Text.{place_text}

module _ (stands : StandsInList) (site : Site) (pc : ℕ) where
  there : (env : Environment) → env.site ≡ site → IsEnvironment env → (insn : Instruction) → instruction_at env pc ≡ Some insn
      → (body : CodeSeen) × (site.method.code ≡ Some body) × ((i : Instruction) × IsAt body.code pc i)
  there env same is insn at = (
    env.code,
    subst (λ (s : Site). s.method.code ≡ Some env.code) same is.code,
    (insn, (instruction_at_is stands env pc insn is).1 at),
  )

  pub stands_at : (world : World) (rule : VerifyRule) → BreaksRule world site pc rule → StandsAt site pc rule
  stands_at world rules.Code h = λ on. absurd cc
  stands_at world rules.HandlerTable h = λ on. absurd cc
  stands_at world rules.MapFrames h = λ on. absurd cc
  stands_at world rules.Merge h = λ on. there h.env h.site_is h.code.is h.holds.insn h.holds.starts
  stands_at world rules.CoveredHandler h = λ on. there h.env h.site_is h.code.is h.holds.insn h.holds.starts
  stands_at world rules.Instruction h = λ on. there h.env h.site_is h.code.is h.holds.insn h.holds.starts
  stands_at world rules.BranchTarget h = λ on. there h.env h.site_is h.code.is h.holds.insn h.holds.starts
  stands_at world rules.EndOfCode h = λ on. there h.env h.site_is h.code.is h.holds.insn h.holds.starts

-- what is shown of a rule that is broken at an instruction
pub place_shown : (rule : VerifyRule) → is_at_instruction rule ≡ true → (site : Site) (pc : ℕ) (line : Option ℕ) (text : List ℕ) → ShowsInstruction site pc line text
    → ShowsPlace site pc line rule text
place_shown rules.Code on site pc line text h = absurd cc
place_shown rules.HandlerTable on site pc line text h = absurd cc
place_shown rules.MapFrames on site pc line text h = absurd cc
place_shown rules.Merge on site pc line text h = h
place_shown rules.CoveredHandler on site pc line text h = h
place_shown rules.Instruction on site pc line text h = h
place_shown rules.BranchTarget on site pc line text h = h
place_shown rules.EndOfCode on site pc line text h = h

-- the instruction of a method that was shown so
pub instruction_shown : (pool : List Entry) (shown : MethodSeen) (body : CodeSeen) (fault : VerifyFault) (line : Option ℕ) (text : List ℕ) → is_at_instruction fault.rule ≡ true
    → shown.code ≡ Some body
    → IsPlaceIn pool body.code fault.offset line text → ShowsFaultIn pool shown fault line text
instruction_shown pool shown body fault line text on is told = λ l m same code stands.
    let (found, has, (insn, at)) = stands on in
    let both : Some found ≡ Some body = sym has ∙ (code ∙ is) in
    let one : found ≡ body = cc in
    let (own, there, says) = told insn (subst (λ (b : CodeSeen). IsAt b.code fault.offset insn) one at) in
    place_shown fault.rule on (declared_by l m) fault.offset line text
    (record {
      body = body;
      has_code = code ∙ is;
      insn = own;
      at = there;
      told = says ∙ ap (λ (p : List Entry). place_text p fault.offset line own) (sym same);
    })
