-- The instruction at an offset of a method's code.
use Rattle.std.proofs.Common.{◌≡◌, ℕ, ◌+◌, ◌==◌, Bool, true, false, List, [], ◌∷◌, ◌++◌, Some, Ok, length, refl, sym, ap, subst, ◌∙◌, arith}
use Rattle.std.specs.List.{flat_map}
use Rattle.std.proofs.lemmas.List.{length-append}
use Rattle.std.proofs.lemmas.Bool.{eqb-true}
use Rattle.jv_text.specs.Types.{method_type_of}
use Rattle.jv_text.specs.Descriptor.{MethodDescriptor}
use Rattle.jv_class_structure.specs.Parts.{CodeSeen}
use Rattle.jv_code.specs.Insns.{Instruction, insn_bytes}
use Rattle.jv_code.specs.Places.{IsCode, IsAt}
use Rattle.jv_meaning_world.specs.Overriding.{Declared}
use Rattle.jv_meaning_typing.specs.Environment.{Environment, instruction_from, instruction_at, offset_behind}
use Rattle.jv_meaning_machine.specs.Faults.{OrFault, found, tested, ◌>>=◌}
use Rattle.jv_meaning_machine.specs.Faults.Fault.{UnverifiedFault, OffsetFault}
use Rattle.jv_meaning_machine.specs.State.{Program, is_class_accepted, entered_method}
use Rattle.jv_meaning_machine.specs.Alone.{FindsInstructions}
use Rattle.jv_interp_words.proofs.Gave.{bound_gave, found_gave}

-- ---- instructions one behind the other

pub record Placed (start : ℕ) (insns : List Instruction) (pc : ℕ) (i : Instruction) : Type 0 where
  pub before : List Instruction
  pub after : List Instruction
  pub is : insns ≡ before ++ i ∷ after
  pub place : pc ≡ start + length (flat_map insn_bytes before)

placed_on :
    (start : ℕ) (insn : Instruction) (more : List Instruction) (pc : ℕ) (i : Instruction) (b : Bool) → (start == pc) ≡ b
    → instruction_from start (insn ∷ more) pc ≡ Some i
    → (instruction_from (offset_behind start insn) more pc ≡ Some i → Placed (offset_behind start insn) more pc i)
    → Placed start (insn ∷ more) pc i
placed_on start insn more pc i true f e next = record {
  before = [];
  after = more;
  is = ap (λ (j : Instruction). j ∷ more) (cc (e, f));
  place = sym (eqb-true start pc f) ∙ omega arith;
}
placed_on start insn more pc i false f e next =
    let p = next (cc (e, f)) in
    record {
      before = insn ∷ p.before;
      after = p.after;
      is = ap (λ (l : List Instruction). insn ∷ l) p.is;
      place = omega (arith, p.place, length-append (insn_bytes insn) (flat_map insn_bytes p.before));
    }

pub placed :
    (start : ℕ) (insns : List Instruction) (pc : ℕ) (i : Instruction) → instruction_from start insns pc ≡ Some i → Placed start insns pc i
placed start [] pc i e = absurd cc
placed start (insn ∷ more) pc i e = placed_on start insn more pc i (start == pc) refl e (placed (offset_behind start insn) more pc i)

pub is_at_place :
    (code : List ℕ) (env : Environment) (pc : ℕ) (i : Instruction) → IsCode code env.instructions → instruction_at env pc ≡ Some i
    → IsAt code pc i
is_at_place code env pc i h e =
    let p = placed 0 env.instructions pc i e in
    record {
      before = p.before;
      after = p.after;
      code = subst (λ (l : List Instruction). IsCode code l) p.is h;
      place = omega (arith, p.place);
    }

-- ---- a method that was entered

abbrev pub entered_env : Program → Declared → CodeSeen → MethodDescriptor → List Instruction → Environment
entered_env program d code descriptor instructions =
    record { world = program.world; site = d; descriptor = descriptor; code = code; instructions = instructions }

same_env : (a b : Environment) (o : OrFault Environment) → o ≡ Ok a → o ≡ Ok b → a ≡ b
same_env a b o e f = cc

pub entered_instructions :
    (program : Program) (d : Declared) (env : Environment) → entered_method program d ≡ Ok env
    → program.instructions env.code.code ≡ Some env.instructions
entered_instructions program d env e =
    let first =
    bound_gave (tested UnverifiedFault (is_class_accepted program d.by) d)
    (λ (d : Declared).
    found OffsetFault d.method.code >>= λ code. found OffsetFault (method_type_of d.method.descriptor) >>= λ descriptor.
    found OffsetFault (program.instructions code.code) >>= λ instructions. Ok (entered_env program d code descriptor instructions)) env e in
    let code =
    bound_gave (found OffsetFault first.0.method.code)
    (λ (code : CodeSeen).
    found OffsetFault (method_type_of first.0.method.descriptor) >>= λ descriptor.
    found OffsetFault (program.instructions code.code) >>= λ instructions. Ok (entered_env program first.0 code descriptor instructions)) env
    first.2 in
    let descriptor =
    bound_gave (found OffsetFault (method_type_of first.0.method.descriptor))
    (λ (descriptor : MethodDescriptor).
    found OffsetFault (program.instructions code.0.code) >>= λ instructions. Ok (entered_env program first.0 code.0 descriptor instructions)) env
    code.2 in
    let instructions =
    bound_gave (found OffsetFault (program.instructions code.0.code))
    (λ (instructions : List Instruction). Ok (entered_env program first.0 code.0 descriptor.0 instructions)) env descriptor.2 in
    let is =
    same_env (entered_env program first.0 code.0 descriptor.0 instructions.0) env
    (Ok (entered_env program first.0 code.0 descriptor.0 instructions.0)) refl instructions.2 in
    ap (λ (v : Environment). program.instructions v.code.code) (sym is)
    ∙ found_gave OffsetFault (program.instructions code.0.code) instructions.0 instructions.1
    ∙ ap (λ (v : Environment). Some v.instructions) is

pub entered_code :
    (program : Program) (d : Declared) (env : Environment) → FindsInstructions program.instructions → entered_method program d ≡ Ok env
    → IsCode env.code.code env.instructions
entered_code program d env finds e = (finds env.code.code env.instructions).0 (entered_instructions program d env e)
