-- What falls into an offset is one frame, and a typing grows by one instruction.
use Rattle.std.proofs.Common.{◌≡◌, ℕ, zero, suc, ◌<◌, List, [], Option, Some, None, sym, ap, subst, ◌∙◌, ◌⊎◌, inl, inr, arith}
use Rattle.std.specs.Prelude.{IsTrue}
use Rattle.std.proofs.lemmas.Bool.{cases_order}
use Rattle.jv_stackmap.specs.Frames.{Frame, PlacedFrame}
use Rattle.jv_code.specs.Insns.{Instruction}
use Rattle.jv_code.specs.Places.{IsAt, StandsInList, StartsApart}
use Rattle.jv_code.proofs.Sizes.{some_bytes}
use Rattle.jv_meaning_typing.specs.Environment.{Environment, IsEnvironment, instruction_at, offset_behind}
use Rattle.jv_meaning_typing.specs.Rule.{rule}
use Rattle.jv_meaning_typing.specs.Typing.{Assignment, FallsInto, IsAssignedBy, Merges, IsTypeSafe, IsTypingBelow, frame_at, handlers_hold, instruction_holds, targets_hold}
use Rattle.jv_meaning_typing.specs.Laws.{OneFalls, TypingIsLocal, TypingGrows}
use Rattle.jv_meaning_typing.proofs.Starts.{instruction_at_is}
use Rattle.jv_meaning_typing.proofs.Agreement.{fall, merge}

module _ (stands : StandsInList) (apart : StartsApart) (env : Environment) (is : IsEnvironment env) where
  there : (pc : ℕ) (insn : Instruction) → instruction_at env pc ≡ Some insn → IsAt env.code.code pc insn
  there pc insn at = (instruction_at_is stands env pc insn is).1 at

  one_before : (p q : ℕ) (i j : Instruction) → instruction_at env p ≡ Some i → instruction_at env q ≡ Some j → offset_behind p i ≡ offset_behind q j → p ≡ q
  one_before p q i j at other e = by_order (cases_order p q)
    where
      by_order : (p ≡ q) ⊎ ((p < q) ⊎ (q < p)) → p ≡ q
      by_order (inl same) = same
      by_order (inr (inl lt)) = absurd (omega (arith, apart env.code.code p q i j (there p i at) (there q j other) (omega (arith, lt)), e, some_bytes j))
      by_order (inr (inr lt)) = absurd (omega (arith, apart env.code.code q p j i (there q j other) (there p i at) (omega (arith, lt)), e, some_bytes i))

  unsome : {A : Type 0} (x y : A) → Some x ≡ Some y → x ≡ y
  unsome x y e = cc

  pub one_falls : (f : Assignment) (pc : ℕ) (x y : Frame) → FallsInto env f pc x → FallsInto env f pc y → x ≡ y
  one_falls f pc x y (inl h) (inl k) = h.1 ∙ sym k.1
  one_falls f pc x y (inl h) (inr k) = absurd (omega (arith, h.0, k.next, some_bytes k.insn))
  one_falls f pc x y (inr h) (inl k) = absurd (omega (arith, k.0, h.next, some_bytes h.insn))
  one_falls f pc x y (inr h) (inr k) =
      let place : h.before ≡ k.before = one_before h.before k.before h.insn k.insn h.starts k.starts (sym h.next ∙ k.next) in
      let insn : h.insn ≡ k.insn = unsome h.insn k.insn (sym h.starts ∙ ap (λ (n : ℕ). instruction_at env n) place ∙ k.starts) in
      unsome x y (
      sym h.left
      ∙ ap (λ (n : ℕ). rule env n h.insn (f n)) place
      ∙ ap (λ (i : Instruction). rule env k.before i (f k.before)) insn
      ∙ k.left
      )

  -- where no map stands, the frame that falls there is assigned, and it is merged
  pub assigned : (f : Assignment) (pc : ℕ) → FallsInto env f pc (f pc) → IsAssignedBy env f pc None
  assigned f pc falls = λ (x : Frame) (h : FallsInto env f pc x). one_falls f pc (f pc) x falls h

  pub merged : (f : Assignment) (pc : ℕ) → FallsInto env f pc (f pc) → Merges env f pc None
  merged f pc falls = (f pc, falls)

  pub safe : (f : Assignment) (pc : ℕ) (insn : Instruction) → FallsInto env f pc (f pc) → IsTrue (handlers_hold env [] pc insn (f pc))
      → IsTrue (instruction_holds env pc insn (f pc)) → IsTrue (targets_hold env [] pc insn (f pc)) → IsTypeSafe env [] f pc insn
  safe f pc insn falls handled leaves targets = record { assigned = assigned f pc falls; merges = merged f pc falls; handled = handled; leaves = leaves; targets = targets }

  pub below_none : (maps : List PlacedFrame) (f : Assignment) → IsTypingBelow env maps 0 f
  below_none maps f = λ (pc : ℕ) (insn : Instruction) (at : instruction_at env pc ≡ Some insn) (lt : pc < 0). absurd (omega (arith, lt))

  pub below_one : (maps : List PlacedFrame) (f : Assignment) (i : Instruction) → instruction_at env 0 ≡ Some i → IsTypeSafe env maps f 0 i → IsTypingBelow env maps 1 f
  below_one maps f i at safe zero insn e lt = subst (λ (x : Instruction). IsTypeSafe env maps f 0 x) (unsome i insn (sym at ∙ e)) safe
  below_one maps f i at safe (suc n) insn e lt = absurd (omega (arith, lt))

  -- ---- a typing grows

  next_start : (pc n : ℕ) (i j : Instruction) → instruction_at env pc ≡ Some i → instruction_at env n ≡ Some j → n < offset_behind pc i → (n < pc) ⊎ (n ≡ pc)
  next_start pc n i j at other lt = by_order (cases_order n pc)
    where
      by_order : (n ≡ pc) ⊎ ((n < pc) ⊎ (pc < n)) → (n < pc) ⊎ (n ≡ pc)
      by_order (inl same) = inr same
      by_order (inr (inl less)) = inl less
      by_order (inr (inr more)) = absurd (omega (arith, apart env.code.code pc n i j (there pc i at) (there n j other) (omega (arith, more)), lt))

  pub grows : (maps : List PlacedFrame) (f : Assignment) (pc : ℕ) (i : Instruction) → instruction_at env pc ≡ Some i → IsTypingBelow env maps pc f
      → IsTypeSafe env maps f pc i → IsTypingBelow env maps (offset_behind pc i) f
  grows maps f pc i at below safe_here = λ (n : ℕ) (j : Instruction) (other : instruction_at env n ≡ Some j) (lt : n < offset_behind pc i). by_place n j other (next_start pc n i j at other lt)
    where
      by_place : (n : ℕ) (j : Instruction) → instruction_at env n ≡ Some j → (n < pc) ⊎ (n ≡ pc) → IsTypeSafe env maps f n j
      by_place n j other (inl less) = below n j other less
      by_place n j other (inr same) =
          let insn : i ≡ j = unsome i j (sym at ∙ ap (λ (k : ℕ). instruction_at env k) (sym same) ∙ other) in
          subst (λ (k : ℕ). IsTypeSafe env maps f k j) (sym same) (subst (λ (k : Instruction). IsTypeSafe env maps f pc k) insn safe_here)

-- ---- what is type safe below an offset speaks of the frames below it alone

module _ (env : Environment) (maps : List PlacedFrame) (f g : Assignment) (end : ℕ) (same : (pc : ℕ) → pc < end → f pc ≡ g pc) where
  alike : (pc : ℕ) → pc < end → (n : ℕ) (i : Instruction) → instruction_at env n ≡ Some i → n < pc → f n ≡ g n
  alike pc lt n i at less = same n (omega (arith, lt, less))

  turned : (pc : ℕ) → pc < end → (n : ℕ) (i : Instruction) → instruction_at env n ≡ Some i → n < pc → g n ≡ f n
  turned pc lt n i at less = sym (alike pc lt n i at less)

  assigned_so : (pc : ℕ) (o : Option Frame) → pc < end → IsAssignedBy env f pc o → IsAssignedBy env g pc o
  assigned_so pc (Some map) lt a = sym (same pc lt) ∙ a
  assigned_so pc None lt a = λ (x : Frame) (h : FallsInto env g pc x). sym (same pc lt) ∙ a x (fall env maps g f pc x (turned pc lt) h)

  safe_so : (pc : ℕ) (i : Instruction) → pc < end → IsTypeSafe env maps f pc i → IsTypeSafe env maps g pc i
  safe_so pc i lt h = record {
    assigned = assigned_so pc (frame_at maps pc) lt h.assigned;
    merges = merge env maps f g pc (frame_at maps pc) (alike pc lt) h.merges;
    handled = subst (λ (x : Frame). IsTrue (handlers_hold env maps pc i x)) (same pc lt) h.handled;
    leaves = subst (λ (x : Frame). IsTrue (instruction_holds env pc i x)) (same pc lt) h.leaves;
    targets = subst (λ (x : Frame). IsTrue (targets_hold env maps pc i x)) (same pc lt) h.targets;
  }

  pub local : IsTypingBelow env maps end f → IsTypingBelow env maps end g
  local h = λ (pc : ℕ) (i : Instruction) (at : instruction_at env pc ≡ Some i) (lt : pc < end). safe_so pc i lt (h pc i at lt)

-- ---- laws

pub one_falls_law : StandsInList → StartsApart → OneFalls
one_falls_law stands apart env f pc x y is h k = one_falls stands apart env is f pc x y h k

pub grows_law : StandsInList → StartsApart → TypingGrows
grows_law stands apart env maps f pc i is at below safe_here = grows stands apart env is maps f pc i at below safe_here

pub local_law : TypingIsLocal
local_law env maps f g end same h = local env maps f g end same h
