-- Where the instructions of a method start.
use Rattle.std.proofs.Common.{◌≡◌, ℕ, ◌+◌, ◌<◌, ◌≤◌, Bool, true, false, List, [], ◌∷◌, ◌++◌, length, Option, Some, None, refl, sym, ap, subst, ◌∙◌, ◌⊎◌, inl, inr, arith}
use Rattle.std.specs.Prelude.{◌↔◌, ◌==◌, if◌then◌else◌}
use Rattle.std.specs.List.{last_or}
use Rattle.std.proofs.lemmas.Bool.Decides.{Decides-eqb}
use Rattle.jv_code.specs.Insns.{Instruction}
use Rattle.jv_code.specs.Places.{Cut, StandsInList}
use Rattle.jv_code.proofs.Sizes.{size, some_bytes, size-cons, size-append}
use Rattle.jv_meaning_typing.specs.Environment.{Environment, IsEnvironment, offset_behind, instruction_from, instruction_at}
use Rattle.jv_meaning_typing.specs.Laws.{InstructionAtIs}

-- ---- one instruction of a list

here : (start pc : ℕ) (x : Instruction) (more : List Instruction) → start ≡ pc → instruction_from start (x ∷ more) pc ≡ Some x
here start pc x more e = by_test (start == pc) ((Decides-eqb start pc).1 e)
  where
    by_test : (b : Bool) → b ≡ true → (if b then Some x else instruction_from (offset_behind start x) more pc) ≡ Some x
    by_test true h = refl
    by_test false h = absurd cc

later : (start pc : ℕ) (x : Instruction) (more : List Instruction) → (start ≡ pc → ⊥) → instruction_from start (x ∷ more) pc ≡ instruction_from (offset_behind start x) more pc
later start pc x more n = by_test (start == pc) (λ h. n ((Decides-eqb start pc).0 h))
  where
    by_test : (b : Bool) → (b ≡ true → ⊥) → (if b then Some x else instruction_from (offset_behind start x) more pc) ≡ instruction_from (offset_behind start x) more pc
    by_test true h = absurd (h refl)
    by_test false h = refl

-- the first of a list, or one of the others
abbrev Split : ℕ → ℕ → Instruction → List Instruction → Instruction → Type 0
Split start pc x more insn = ((start ≡ pc) × (x ≡ insn)) ⊎ (instruction_from (offset_behind start x) more pc ≡ Some insn)

split : (start pc : ℕ) (x : Instruction) (more : List Instruction) (insn : Instruction) → instruction_from start (x ∷ more) pc ≡ Some insn → Split start pc x more insn
split start pc x more insn e = by_test (start == pc) (λ h. (Decides-eqb start pc).0 h) e
  where
    by_test : (b : Bool) → (b ≡ true → start ≡ pc) → (if b then Some x else instruction_from (offset_behind start x) more pc) ≡ Some insn → Split start pc x more insn
    by_test true h e = inl (h refl, cc)
    by_test false h e = inr e

-- ---- a list cut at an instruction, the first of which starts at some offset

record CutFrom (start : ℕ) (all : List Instruction) (pc : ℕ) (insn : Instruction) : Type 0 where
  before : List Instruction
  after : List Instruction
  is : all ≡ before ++ insn ∷ after
  place : pc ≡ start + size before

to_cut : (start : ℕ) (all : List Instruction) (pc : ℕ) (insn : Instruction) → instruction_from start all pc ≡ Some insn → CutFrom start all pc insn
to_cut start [] pc insn e = absurd cc
to_cut start (x ∷ more) pc insn e = by_part (split start pc x more insn e) (λ h. to_cut (offset_behind start x) more pc insn h)
  where
    by_part : Split start pc x more insn → (instruction_from (offset_behind start x) more pc ≡ Some insn → CutFrom (offset_behind start x) more pc insn) → CutFrom start (x ∷ more) pc insn
    by_part (inl here) again = record { before = []; after = more; is = ap (λ (i : Instruction). i ∷ more) here.1; place = omega (arith, here.0) }
    by_part (inr there) again =
        let c = again there in
        record { before = x ∷ c.before; after = c.after; is = ap (λ (xs : List Instruction). x ∷ xs) c.is; place = omega (arith, c.place, size-cons x c.before) }

from_cut : (start : ℕ) (before after : List Instruction) (pc : ℕ) (insn : Instruction) → pc ≡ start + size before → instruction_from start (before ++ insn ∷ after) pc ≡ Some insn
from_cut start [] after pc insn e = here start pc insn after (omega (arith, e))
from_cut start (x ∷ before) after pc insn e =
    later start pc x (before ++ insn ∷ after) (λ s. omega (arith, e, s, size-cons x before, some_bytes x))
    ∙ from_cut (offset_behind start x) before after pc insn (omega (arith, e, size-cons x before))

pub cut_is : (all : List Instruction) (pc : ℕ) (insn : Instruction) → Cut all pc insn ↔ (instruction_from 0 all pc ≡ Some insn)
cut_is all pc insn = (
  λ c. subst (λ (xs : List Instruction). instruction_from 0 xs pc ≡ Some insn) (sym c.is) (from_cut 0 c.before c.after pc insn (omega (arith, c.place))),
  λ e. let c = to_cut 0 all pc insn e in record { before = c.before; after = c.after; is = c.is; place = omega (arith, c.place) },
)

pub instruction_at_is : StandsInList → InstructionAtIs
instruction_at_is law env pc insn is =
    let stands = law env.code.code env.instructions pc insn is.instructions in
    let cut = cut_is env.instructions pc insn in
    (λ at. cut.0 (stands.0 at), λ e. stands.1 (cut.1 e))

-- ---- where they end

pub end_within : (env : Environment) (pc : ℕ) (insn : Instruction) → IsEnvironment env → instruction_at env pc ≡ Some insn → offset_behind pc insn ≤ length env.code.code
end_within env pc insn is e =
    let c = to_cut 0 env.instructions pc insn e in
    omega (arith, ap length is.instructions.spelled, ap size c.is, size-append c.before (insn ∷ c.after), size-cons insn c.after, c.place)

pub start_within : (env : Environment) (pc : ℕ) (insn : Instruction) → IsEnvironment env → instruction_at env pc ≡ Some insn → pc < length env.code.code
start_within env pc insn is e = omega (arith, end_within env pc insn is e, some_bytes insn)

last_is : (o : Option Instruction) (before : List Instruction) (insn : Instruction) → last_or o (before ++ insn ∷ []) ≡ Some insn
last_is o [] insn = refl
last_is o (x ∷ before) insn = last_is (Some x) before insn

none_behind : (after : List Instruction) → size after ≡ 0 → after ≡ []
none_behind [] e = refl
none_behind (x ∷ after) e = absurd (omega (arith, e, size-cons x after, some_bytes x))

-- the instruction at whose end the code ends is the last
pub last_there : (env : Environment) (pc : ℕ) (insn : Instruction) → IsEnvironment env → instruction_at env pc ≡ Some insn → offset_behind pc insn ≡
    length env.code.code → last_or None env.instructions ≡ Some insn
last_there env pc insn is e end =
    let c = to_cut 0 env.instructions pc insn e in
    let none : c.after ≡ [] = none_behind c.after (omega (arith, end, ap length is.instructions.spelled, ap size c.is, size-append c.before (insn ∷ c.after), size-cons insn c.after, c.place)) in
    let whole : env.instructions ≡ c.before ++ insn ∷ [] = c.is ∙ ap (λ (xs : List Instruction). c.before ++ insn ∷ xs) none in
    subst (λ (xs : List Instruction). last_or None xs ≡ Some insn) (sym whole) (last_is None c.before insn)
