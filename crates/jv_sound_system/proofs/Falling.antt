-- What falls into an offset: the frame of the one instruction before it.
use Rattle.std.proofs.Common.{◌≡◌, ℕ, ◌<◌, ◌≤◌, Bool, true, false, List, [], ◌∷◌, length, Option, Some, None, refl, sym, ap, subst, ◌∙◌, ◌⊎◌, inl, inr, arith}
use Rattle.std.specs.Prelude.{◌==◌, IsTrue, if◌then◌else◌}
use Rattle.std.proofs.lemmas.Bool.Decides.{Decides-eqb}
use Rattle.jv_stackmap.specs.Frames.{Frame}
use Rattle.jv_code.specs.Insns.{Instruction, insn_bytes}
use Rattle.jv_code.specs.Successors.{falls_through}
use Rattle.jv_code.proofs.Sizes.{some_bytes}
use Rattle.jv_meaning_typing.specs.Environment.{Environment, offset_behind, instruction_from, instruction_at}
use Rattle.jv_meaning_typing.specs.Rule.{rule}
use Rattle.jv_meaning_typing.specs.Typing.{Assignment, FallsInto, first_frame}
use Rattle.jv_sound_system.specs.Walk.{left_behind}

-- ---- one instruction of a list

pub at_first : (start : ℕ) (x : Instruction) (more : List Instruction) → instruction_from start (x ∷ more) start ≡ Some x
at_first start x more = by_test (start == start) ((Decides-eqb start start).1 refl)
  where
    by_test : (b : Bool) → b ≡ true → (if b then Some x else instruction_from (offset_behind start x) more start) ≡ Some x
    by_test true h = refl
    by_test false h = absurd cc

-- a choice by an offset that is not the first
pub else_of : {A : Type 0} (start pc : ℕ) (x y : A) → start < pc → (if start == pc then x else y) ≡ y
else_of {A = A} start pc x y lt = by_test (start == pc) (λ h. (Decides-eqb start pc).0 h)
  where
    by_test : (b : Bool) → (b ≡ true → start ≡ pc) → (if b then x else y) ≡ y
    by_test true h = absurd (let e : start ≡ pc = h refl in omega (arith, e, lt))
    by_test false h = refl

-- the first of a list, or one of the others
abbrev pub Split : ℕ → ℕ → Instruction → List Instruction → Instruction → Type 0
Split start pc x more insn = ((start ≡ pc) × (x ≡ insn)) ⊎ (instruction_from (offset_behind start x) more pc ≡ Some insn)

pub split : (start pc : ℕ) (x : Instruction) (more : List Instruction) (insn : Instruction)
    → instruction_from start (x ∷ more) pc ≡ Some insn → Split start pc x more insn
split start pc x more insn e = by_test (start == pc) (λ h. (Decides-eqb start pc).0 h) e
  where
    by_test : (b : Bool) → (b ≡ true → start ≡ pc) → (if b then Some x else instruction_from (offset_behind start x) more pc) ≡ Some insn
        → Split start pc x more insn
    by_test true h e = inl (h refl, cc)
    by_test false h e = inr e

pub not_below : (start pc : ℕ) (all : List Instruction) (insn : Instruction) → instruction_from start all pc ≡ Some insn → start ≤ pc
not_below start pc [] insn e = absurd cc
not_below start pc (x ∷ more) insn e = by_part (split start pc x more insn e) (λ h. not_below (offset_behind start x) pc more insn h)
  where
    by_part : Split start pc x more insn → (instruction_from (offset_behind start x) more pc ≡ Some insn → offset_behind start x ≤ pc)
        → start ≤ pc
    by_part (inl here) again = omega (arith, here.0)
    by_part (inr there) again = let le : offset_behind start x ≤ pc = again there in omega (arith, le)

-- two instructions with the same end are the same
pub one_before : (start p q : ℕ) (all : List Instruction) (i j : Instruction) → instruction_from start all p ≡ Some i
    → instruction_from start all q ≡ Some j
    → offset_behind p i ≡ offset_behind q j → (p ≡ q) × (i ≡ j)
one_before start p q [] i j at other e = absurd cc
one_before start p q (x ∷ more) i j at other e =
    by_part (split start p x more i at) (split start q x more j other) (λ h k. one_before (offset_behind start x) p q more i j h k e)
  where
    by_part : Split start p x more i → Split start q x more j
        → (instruction_from (offset_behind start x) more p ≡ Some i → instruction_from (offset_behind start x) more q ≡ Some j
        → (p ≡ q) × (i ≡ j)) → (p ≡ q) × (i ≡ j)
    by_part (inl h) (inl k) again = (sym h.0 ∙ k.0, sym h.1 ∙ k.1)
    by_part (inl h) (inr k) again =
        let le : offset_behind start x ≤ q = not_below (offset_behind start x) q more j k in
        let size : length (insn_bytes x) ≡ length (insn_bytes i) = ap (λ (y : Instruction). length (insn_bytes y)) h.1 in
        absurd (omega (arith, h.0, size, le, e, some_bytes j))
    by_part (inr h) (inl k) again =
        let le : offset_behind start x ≤ p = not_below (offset_behind start x) p more i h in
        let size : length (insn_bytes x) ≡ length (insn_bytes j) = ap (λ (y : Instruction). length (insn_bytes y)) k.1 in
        absurd (omega (arith, k.0, size, le, e, some_bytes i))
    by_part (inr h) (inr k) again = again h k

-- ---- what falls into an offset, and nothing else does

abbrev pub Falls : Environment → Assignment → ℕ → Option Frame → Type 0
Falls env frames pc None = (x : Frame) → FallsInto env frames pc x → ⊥
Falls env frames pc (Some frame) = FallsInto env frames pc frame × ((x : Frame) → FallsInto env frames pc x → x ≡ frame)

pub first_falls : (env : Environment) (frames : Assignment) → Falls env frames 0 (Some (first_frame env))
first_falls env frames = (inl (refl, refl), one)
  where
    one : (x : Frame) → FallsInto env frames 0 x → x ≡ first_frame env
    one x (inl h) = h.1
    one x (inr h) = absurd (omega (arith, h.next, some_bytes h.insn))

unsome : {A : Type 0} (x y : A) → Some x ≡ Some y → x ≡ y
unsome x y e = cc

pub next_falls : (env : Environment) (frames : Assignment) (pc : ℕ) (insn : Instruction) → instruction_at env pc ≡ Some insn
    → Falls env frames (offset_behind pc insn) (left_behind env pc insn (frames pc))
next_falls env frames pc insn at = by_going (falls_through insn) refl (rule env pc insn (frames pc)) refl
  where
    -- the instruction before it is this one
    comes : (x : Frame) → FallsInto env frames (offset_behind pc insn) x
        → IsTrue (falls_through insn) × (rule env pc insn (frames pc) ≡ Some x)
    comes x (inl h) = absurd (omega (arith, h.0, some_bytes insn))
    comes x (inr h) =
        let same = one_before 0 h.before pc env.instructions h.insn insn h.starts at (sym h.next) in
        let left : rule env pc h.insn (frames pc) ≡ Some x = subst (λ (n : ℕ). rule env n h.insn (frames n) ≡ Some x) same.0 h.left in (
          subst (λ (i : Instruction). IsTrue (falls_through i)) same.1 h.goes_on,
          subst (λ (i : Instruction). rule env pc i (frames pc) ≡ Some x) same.1 left,
        )

    by_going : (b : Bool) → falls_through insn ≡ b → (o : Option Frame) → rule env pc insn (frames pc) ≡ o
        → Falls env frames (offset_behind pc insn) (if b then o else None)
    by_going false e o left = λ (x : Frame) (h : FallsInto env frames (offset_behind pc insn) x). let k : falls_through insn ≡ true =
        (comes x h).0 in absurd cc
    by_going true e None left = λ (x : Frame) (h : FallsInto env frames (offset_behind pc insn) x). let k : rule env pc insn
        (frames pc) ≡ Some x = (comes x h).1 in absurd cc
    by_going true e (Some frame) left = (
      inr (record { before = pc; insn = insn; starts = at; next = refl; goes_on = e; left = left }),
      λ (x : Frame) (h : FallsInto env frames (offset_behind pc insn) x). unsome x frame (sym (comes x h).1 ∙ left),
    )
