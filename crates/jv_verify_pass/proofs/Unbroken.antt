-- The frames before an instruction below which all are type safe.
use Rattle.std.proofs.Common.{◌≡◌, ℕ, ◌<◌, ◌≤◌, Bool, List, length, Option, Some, None, refl, sym, ap, subst, ◌∙◌, inl, arith}
use Rattle.std.specs.Prelude.{IsSome}
use Rattle.jv_format.specs.Format.{◌>>=◌}
use Rattle.jv_stackmap.specs.Frames.{Frame, PlacedFrame}
use Rattle.jv_code.specs.Insns.{Instruction}
use Rattle.jv_code.specs.Places.{IsAt, IsStart, IsStartOrEnd, StandsInList, StartsApart}
use Rattle.jv_meaning_typing.specs.declared.verdict.VerifyRule.{VerifyRule}
use Rattle.jv_meaning_typing.specs.declared.verdict.VerifyRule.TheVariants as rules
use Rattle.jv_meaning_typing.specs.Environment.{Environment, IsEnvironment, instruction_at, offset_behind}
use Rattle.jv_meaning_typing.specs.Typing.{IsTypingBelow, frame_at}
use Rattle.jv_meaning_typing.specs.Judgement.{BreaksFirst, GoesOnBehind}
use Rattle.jv_meaning_typing.proofs.Agreement.{agree, safe_not_broken}
use Rattle.jv_meaning_typing.proofs.Starts.{instruction_at_is, start_within}
use Rattle.jv_verify_pass.specs.declared.walk.Walked.{Walked}
use Rattle.jv_verify_pass.specs.declared.walk.Walked.TheVariants.{Broken, Reached}
use Rattle.jv_verify_pass.specs.Before.{Falls, IsTypedTo, StandBefore, frame_before}
use Rattle.jv_verify_pass.specs.Found.{IsBroken}
use Rattle.jv_verify_pass.specs.Onward.{Unmet, unmet_behind}
use Rattle.jv_verify_pass.specs.Inside.Walk.{IsWalked, Progress, when_falls}

some_there : {A : Type 0} (o : Option A) → IsSome o → (a : A) × (o ≡ Some a)
some_there None h = absurd cc
some_there (Some a) h = (a, refl)

module _ (stands : StandsInList) (apart : StartsApart) (env : Environment) (is : IsEnvironment env) (maps : List PlacedFrame) (pc : ℕ) (typed : IsTypedTo env maps pc) where
  there : (i : Instruction) × (instruction_at env pc ≡ Some i)
  there = some_there (instruction_at env pc) typed.starts

  -- an instruction starts at the offset, within the code
  pub starts_at : (code : List ℕ) → env.code.code ≡ code → IsStart code pc
  starts_at code e = (there.0, subst (λ (b : List ℕ). IsAt b pc there.0) e ((instruction_at_is stands env pc there.0 is).1 there.1))

  pub starts_in : (code : List ℕ) → env.code.code ≡ code → IsStartOrEnd code pc
  starts_in code e = inl (starts_at code e)

  pub within_code : (code : List ℕ) → env.code.code ≡ code → pc ≤ length code
  within_code code e =
      let lt = start_within env pc there.0 is there.1 in omega (arith, lt, ap length e)

  -- ---- no rule is broken below

  first_unbroken : (p : ℕ) (broken : VerifyRule) → p < pc → BreaksFirst env maps p broken → ⊥
  first_unbroken p broken lt b =
      let below : IsTypingBelow env maps p typed.frames = λ (n : ℕ) (i : Instruction) (at : instruction_at env n ≡ Some i) (less : n < p). typed.below n i at (omega (arith, less, lt)) in
      safe_not_broken env maps b.frames typed.frames p b.insn broken (agree env maps b.frames typed.frames p b.below below) (typed.below p b.insn b.starts lt) b.assigned b.breaks

  end_unbroken : (p : ℕ) → p < pc → GoesOnBehind env maps p → ⊥
  end_unbroken p lt b =
      let one : IsAt env.code.code p b.insn = (instruction_at_is stands env p b.insn is).1 b.starts in
      let other : IsAt env.code.code pc there.0 = (instruction_at_is stands env pc there.0 is).1 there.1 in
      let behind : offset_behind p b.insn ≤ pc = apart env.code.code p pc b.insn there.0 one other (omega (arith, lt)) in
      let within = start_within env pc there.0 is there.1 in
      omega (arith, behind, within, b.last)

  unbroken : (p : ℕ) (broken : VerifyRule) → p < pc → IsBroken env maps p broken → ⊥
  unbroken p rules.Code lt b = first_unbroken p rules.Code lt b
  unbroken p rules.HandlerTable lt b = first_unbroken p rules.HandlerTable lt b
  unbroken p rules.MapFrames lt b = first_unbroken p rules.MapFrames lt b
  unbroken p rules.Merge lt b = first_unbroken p rules.Merge lt b
  unbroken p rules.CoveredHandler lt b = first_unbroken p rules.CoveredHandler lt b
  unbroken p rules.Instruction lt b = first_unbroken p rules.Instruction lt b
  unbroken p rules.BranchTarget lt b = first_unbroken p rules.BranchTarget lt b
  unbroken p rules.EndOfCode lt b = end_unbroken p lt b

  -- so a walk reaches the offset
  pub reached : (left : Frame) (w : Walked) → IsWalked env maps pc left w → ((falls : Bool) → w ≡ Reached falls → ⊥) → ⊥
  reached left (Broken fault) h n = unbroken fault.offset fault.rule h.0 h.1
  reached left (Reached falls) h n = n falls refl

-- ---- what stands there

pub standing : (env : Environment) (maps : List PlacedFrame) (pc : ℕ) (left : Frame) (w : Walked) (falls : Bool) (falling map : Option Frame) (found : Option Unmet) (insn : Instruction)
    → w ≡ Reached falls → IsWalked env maps pc left w → falling ≡ when_falls falls left → map ≡ frame_at maps pc → instruction_at env pc ≡ Some insn
    → found ≡ (frame_before (when_falls falls left) (frame_at maps pc) >>= unmet_behind env maps pc insn) → StandBefore env maps pc falling map found
standing env maps pc left w falls falling map found insn reach h f m at u =
    let p : Progress env maps pc (when_falls falls left) = subst (λ (x : Walked). IsWalked env maps pc left x) reach h in
    record {
      stand = record {
        frames = p.reaches.frames;
        below = p.reaches.below;
        falls = subst (Falls env p.reaches.frames pc) (sym f) p.reaches.falls;
        at = sym m;
      };
      insn = insn;
      starts = at;
      onward =
          ap (λ (o : Option Frame). frame_before o map >>= unmet_behind env maps pc insn) f
          ∙ (ap (λ (o : Option Frame). frame_before (when_falls falls left) o >>= unmet_behind env maps pc insn) m ∙ sym u);
    }

-- in each environment of one code
pub also_there : StandsInList → (env : Environment) → IsEnvironment env → (code : List ℕ) (pc : ℕ) → env.code.code ≡ code → (start : IsStart code pc) → instruction_at env pc ≡ Some start.0
also_there stands env is code pc e start = (instruction_at_is stands env pc start.0 is).0 (subst (λ (b : List ℕ). IsAt b pc start.0) (sym e) start.1)
