-- What an instruction wants of the frame before it that isn't there.
use Rattle.std.proofs.Common.{◌≡◌, ℕ, List, Option, Some, Ok, Err, sym, ap, subst, ◌∙◌}
use Rattle.std.specs.Prelude.{IfOk, Result, slice_get}
use Rattle.jv_format.specs.Format.{◌>>=◌}
use Rattle.jv_class_structure.specs.Parts.{CodeSeen, MethodSeen, methods_of}
use Rattle.jv_class_structure.specs.Structure.{ClassStructure}
use Rattle.jv_class.specs.Class.{Method, class_of}
use Rattle.jv_code.specs.Insns.{Instruction}
use Rattle.jv_code.specs.Places.{IsAt, StandsInList}
use Rattle.jv_stackmap.specs.Frames.{Frame}
use Rattle.jv_meaning_world.specs.World.{Loaded}
use Rattle.jv_meaning_world.specs.Verdicts.{declared_by}
use Rattle.jv_meaning_typing.specs.Environment.{Environment, IsEnvironment, instruction_at}
use Rattle.jv_meaning_typing.specs.Uses.{Site}
use Rattle.jv_meaning_typing.proofs.Starts.{instruction_at_is}
use Rattle.jv_explain.proofs.Named.{IsShownAs, same_pool}
use Rattle.jv_operands.specs.Unmet.{Unmet, first_unmet}
use Rattle.jv_program_explain.specs.Frames.{unmet_want_at}
use Rattle.jv_program_explain.specs.Inside.Wanting.{IsEnvironmentOf}
use Rattle.jv_program_explain.proofs.Methods.{shown_code}

-- what holds of a result in each environment holds in each of the result
pub swapped : {T E I : Type 0} (r : Result T E) (A : I → Type 0) (P : I → T → Type 0) → ((i : I) → A i → IfOk r (P i)) → IfOk r (λ w. (i : I) → A i → P i w)
swapped (Ok w) A P h = λ i a. h i a
swapped (Err e) A P h = tt

-- the file of a class shows the method of an environment
module _ (file : ClassStructure) (l : Loaded) (of : class_of file ≡ Some l.class) (m : Method) (k : ℕ) (at : slice_get l.class.methods k ≡ Some m)
    (shown : MethodSeen) (is : Some shown ≡ slice_get (methods_of file) k) (env : Environment) (site : env.site ≡ declared_by l m) (right : IsEnvironment env) where
  mine : IsShownAs file.constant_pool shown m
  mine = shown_code file (declared_by l m) k shown of at is

  pub shown_so : (class : List ℕ) → class ≡ l.class.name → IsEnvironmentOf file class shown env
  shown_so class named = record {
    is = right;
    pool = ap (λ (s : Site). s.by.class.constant_pool) site ∙ same_pool file l.class of;
    class_is = ap (λ (s : Site). s.by.class.name) site ∙ sym named;
    name = mine.name ∙ ap (λ (s : Site). Some s.method.name) (sym site);
    descriptor = mine.descriptor ∙ ap (λ (s : Site). Some s.method.descriptor) (sym site);
  }

  -- the instruction that starts at an offset of the code is the one whose want that is
  pub wanted_there : StandsInList → (body : CodeSeen) → shown.code ≡ Some body → (code : List ℕ) → code ≡ body.code → (offset : ℕ) (insn : Instruction) → IsAt code offset insn
      → (frame : Frame) (want : Option Unmet) → want ≡ first_unmet env insn frame → unmet_want_at env offset (Some frame) ≡ want
  wanted_there stands body has code same offset insn starts frame want e =
      let here : Some env.code ≡ Some body = sym right.code ∙ (ap (λ (s : Site). s.method.code) site ∙ (mine.code ∙ has)) in
      let body_is : env.code ≡ body = cc in
      let bytes : code ≡ env.code.code = same ∙ ap (λ (b : CodeSeen). b.code) (sym body_is) in
      let there : instruction_at env offset ≡ Some insn = (instruction_at_is stands env offset insn right).0 (subst (λ (c : List ℕ). IsAt c offset insn) bytes starts) in
      ap (λ (o : Option Instruction). o >>= λ i. first_unmet env i frame) there ∙ sym e
