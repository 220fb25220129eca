-- The method of a file's class that breaks a rule: its code, and the instruction at which it does.
use Rattle.std.proofs.Common.{◌≡◌, true, List, Option, Some, None, sym, ap, subst, ◌∙◌}
use Rattle.std.specs.Prelude.{IsSome, slice_get}
use Rattle.jv_class_structure.specs.Parts.{CodeSeen, MethodSeen, methods_of}
use Rattle.jv_class_structure.specs.Structure.{ClassStructure}
use Rattle.jv_class.specs.Class.{class_of}
use Rattle.jv_code.specs.Insns.{Instruction}
use Rattle.jv_code.specs.Places.{IsAt, IsCode, IsStart, StandsInList}
use Rattle.jv_meaning_world.specs.Verdicts.{declared_by}
use Rattle.jv_meaning_world.specs.World.{Loaded, World}
use Rattle.jv_meaning_typing.specs.Environment.{instruction_at}
use Rattle.jv_meaning_typing.specs.Uses.{Site}
use Rattle.jv_meaning_typing.specs.declared.verdict.VerifyFault.{VerifyFault}
use Rattle.jv_meaning_typing.specs.Judgement.{IsFirstFault, WithFrames}
use Rattle.jv_meaning_typing.proofs.Starts.{instruction_at_is}
use Rattle.jv_explain.proofs.Named.{IsShownAs}
use Rattle.jv_explain.specs.Explained.{is_at_instruction}
use Rattle.jv_links.proofs.Answered.{some_of}
use Rattle.jv_links.proofs.Blocked.{not_lacking}
use Rattle.jv_verify.specs.Before.{IsTypedTo}
use Rattle.jv_program_explain.proofs.Faults.{below}
use Rattle.jv_program_explain.proofs.Methods.{shown_code}

-- ---- in the file of a class with a method that breaks a rule

module _ (world : World) (l : Loaded) (fault : VerifyFault) (first : IsFirstFault world l fault) (file : ClassStructure) (of : class_of file ≡ Some l.class) where
  -- the file has the method
  pub method_shown : None ≡ slice_get (methods_of file) fault.method → ⊥
  method_shown none = not_lacking file (declared_by l first.method) fault.method of first.at none

  module _ (shown : MethodSeen) (is : Some shown ≡ slice_get (methods_of file) fault.method) where
    mine : IsShownAs file.constant_pool shown first.method
    mine = shown_code file (declared_by l first.method) fault.method shown of first.at is

    -- which has code
    pub code_shown : shown.code ≡ None → ⊥
    code_shown none = lacks first.method.code first.has_code (mine.code ∙ none)
      where
        lacks : (o : Option CodeSeen) → IsSome o → o ≡ None → ⊥
        lacks None h e = absurd cc
        lacks (Some body) h e = absurd cc

    module _ (body : CodeSeen) (has : shown.code ≡ Some body) (on : is_at_instruction fault.rule ≡ true) where
      code_is : first.method.code ≡ Some body
      code_is = mine.code ∙ has

      typed : WithFrames world (declared_by l first.method) (λ env maps. IsTypedTo env maps fault.offset)
      typed = below world (declared_by l first.method) fault.offset fault.rule on first.breaks

      same_body : typed.env.code ≡ body
      same_body =
          let here : Some typed.env.code ≡ Some body = sym typed.code.is.code ∙ (ap (λ (s : Site). s.method.code) typed.site_is ∙ code_is) in
          let same : typed.env.code ≡ body = cc in
          same

      -- its code is a list of instructions, one of which starts there, and those below are type safe
      pub code_read : (insns : List Instruction) × IsCode body.code insns
      code_read = (typed.env.instructions, subst (λ (b : CodeSeen). IsCode b.code typed.env.instructions) same_body typed.code.is.instructions)

      pub starts_there : StandsInList → IsStart body.code fault.offset
      starts_there stands =
          let (insn, at) = some_of (instruction_at typed.env fault.offset) typed.holds.starts in
          (insn, subst (λ (b : CodeSeen). IsAt b.code fault.offset insn) same_body ((instruction_at_is stands typed.env fault.offset insn typed.code.is).1 at))
