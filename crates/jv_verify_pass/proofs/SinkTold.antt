-- What a sink took, one instruction after the other.
use Rattle.std.proofs.Common.{◌≡◌, ℕ, ◌<◌, ◌≤◌, Bool, true, false, List, [], ◌∷◌, ◌++◌, Option, Some, length, refl, sym, ap, subst, ◌∙◌, inl, inr, arith}
use Rattle.std.specs.Prelude.{IsTrue}
use Rattle.std.specs.Option.{option_map}
use Rattle.std.proofs.lemmas.Fn.{FoldsTo-push}
use Rattle.jv_stackmap.specs.Frames.{Frame, PlacedFrame}
use Rattle.jv_code.specs.Insns.{Instruction, instruction_of}
use Rattle.jv_code.specs.Places.{IsStartOrEnd}
use Rattle.jv_code.proofs.Sizes.{size, size-append}
use Rattle.jv_meaning_typing.specs.declared.verdict.VerifyRule.{VerifyRule}
use Rattle.jv_meaning_typing.specs.Environment.{Environment, instruction_at, offset_behind}
use Rattle.jv_meaning_typing.specs.Typing.{IsTypingBelow, frame_at}
use Rattle.jv_meaning_typing.specs.Judgement.{BreaksFirst}
use Rattle.jv_meaning_typing.proofs.Agreement.{agree, safe_not_broken}
use Rattle.jv_verify_pass.specs.Before.{AreFramed, Falls, FramesStand, IsTypedBelow, TookAll, seen_frame}
use Rattle.jv_verify_pass.specs.Pass.{InPass, Pass, maps_of}
use Rattle.jv_verify_pass.specs.Inside.Taken.{TakesFramed}
use Rattle.jv_verify_pass.specs.Inside.Walk.{IsStep, Reaches}
use Rattle.jv_verify_pass.specs.declared.sink.FramedInsn.{FramedInsn}

-- ---- the frames before an instruction

pub stand : (env : Environment) (maps : List PlacedFrame) (pc : ℕ) (falling map f m : Option Frame) → Reaches env maps pc falling → map ≡ frame_at maps pc → f ≡ falling → m ≡ map
    → FramesStand env maps pc f m
stand env maps pc falling map f m r at e d = record { frames = r.frames; below = r.below; falls = subst (Falls env r.frames pc) (sym e) r.falls; at = sym (d ∙ at) }

-- one instruction more
framed_more : (env : Environment) (maps : List PlacedFrame) (pc q : ℕ) (all : List FramedInsn) (f : FramedInsn) (insn : Instruction) → AreFramed env maps pc q all → f.offset ≡ q
    → instruction_of f.insn ≡ insn → instruction_at env q ≡ Some insn → FramesStand env maps q (option_map seen_frame f.falling) (option_map seen_frame f.map)
    → AreFramed env maps pc (offset_behind q insn) (all ++ f ∷ [])
framed_more env maps pc q [] f insn are at is here stand = (
  at ∙ sym are,
  subst (λ (n : ℕ). instruction_at env n ≡ Some (instruction_of f.insn)) (sym are) (here ∙ ap (λ (i : Instruction). Some i) (sym is)),
  subst (λ (n : ℕ). FramesStand env maps n (option_map seen_frame f.falling) (option_map seen_frame f.map)) (sym are) stand,
  ap (λ (n : ℕ). offset_behind n (instruction_of f.insn)) are ∙ ap (offset_behind q) is,
)
framed_more env maps pc q (x ∷ all) f insn (first, starts, frames, more) at is here stand =
    (first, starts, frames, framed_more env maps (offset_behind pc (instruction_of x.insn)) q all f insn more at is here stand)

pub took_none : {S : Type 0} (takes : S → FramedInsn → S → Type 0) (s : S) (pass : Pass) → TookAll takes s s (λ all. InPass pass (λ env. AreFramed env (maps_of pass) 0 0 all))
took_none takes s pass = ([], refl, λ env is. refl)

pub took_more : {S : Type 0} (takes : S → FramedInsn → S → Type 0) (old mid new : S) (pass : Pass) (q next : ℕ) (insn : Instruction) (falling : Option Frame)
    → TookAll takes old mid (λ all. InPass pass (λ env. AreFramed env (maps_of pass) 0 q all)) → TakesFramed pass q insn falling (λ f. takes mid f new)
    → InPass pass (λ env. instruction_at env q ≡ Some insn) → InPass pass (λ env. Reaches env (maps_of pass) q falling) → next ≡ offset_behind q insn
    → TookAll takes old new (λ all. InPass pass (λ env. AreFramed env (maps_of pass) 0 next all))
took_more takes old mid new pass q next insn falling (all, folds, are) t here reaches behind =
    let f = option_map seen_frame t.framed.falling in
    let m = option_map seen_frame t.framed.map in (
      all ++ t.framed ∷ [],
      FoldsTo-push takes old all mid t.framed new folds t.takes,
      λ env is.
          subst (λ (n : ℕ). AreFramed env (maps_of pass) 0 n (all ++ t.framed ∷ [])) (sym behind)
          (framed_more env (maps_of pass) 0 q all t.framed insn (are env is) t.offset t.insn_is (here env is)
          (stand env (maps_of pass) q falling m f m (reaches env is) (t.map env is) t.falls refl)),
    )

-- ---- no rule is broken below an offset to which the instructions are type safe

pub unbroken : (env : Environment) (maps : List PlacedFrame) (end : ℕ) → IsTypedBelow env maps end → (pc : ℕ) (rule : VerifyRule) → pc < end → BreaksFirst env maps pc rule → ⊥
unbroken env maps end typed pc rule lt b =
    let below : IsTypingBelow env maps pc typed.frames = λ (n : ℕ) (i : Instruction) (at : instruction_at env n ≡ Some i) (less : n < pc). typed.below n i at (omega (arith, less, lt)) in
    safe_not_broken env maps b.frames typed.frames pc b.insn rule (agree env maps b.frames typed.frames pc b.below below) (typed.below pc b.insn b.starts lt) b.assigned b.breaks

pub none_broken : (env : Environment) (maps : List PlacedFrame) (end : ℕ) → IsTypedBelow env maps end → (pc : ℕ) (insn : Instruction) (left : Frame) → pc < end
    → (found : Option VerifyRule) (rule : VerifyRule) → found ≡ Some rule → IsStep env maps pc insn left found → ⊥
none_broken env maps end typed pc insn left lt found rule e s =
    unbroken env maps end typed pc rule lt (subst (λ (o : Option VerifyRule). IsStep env maps pc insn left o) e s)

-- the end is within the code
pub end_within : (code : List ℕ) (end : ℕ) → IsStartOrEnd code end → end ≤ length code
end_within code end (inr e) = omega (arith, e)
end_within code end (inl (insn, at)) =
    let place = at.place in
    let all : length code ≡ size (at.before ++ insn ∷ at.after) = ap length at.code.spelled in
    let parts = size-append at.before (insn ∷ at.after) in
    omega (arith, place, all, parts)

-- ---- where a walk ends

-- below its end only where no more is wanted
pub wants_no_more : (goes full : Bool) (offset end : ℕ) → ((offset < end) × (full ≡ false) → goes ≡ true) → goes ≡ false → offset < end → IsTrue full
wants_no_more goes true offset end sure off less = refl
wants_no_more goes false offset end sure off less =
    let on : goes ≡ true = sure (less, refl) in
    absurd cc
