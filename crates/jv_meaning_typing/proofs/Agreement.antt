-- Two assignments that are typings below an offset agree at the instructions below it.
use Rattle.std.proofs.Common.{◌≡◌, ℕ, zero, suc, ◌<◌, ◌≤◌, Bool, true, false, Option, Some, None, List, refl, sym, subst, ◌∙◌, inl, inr, arith}
use Rattle.std.specs.Prelude.{IsTrue, not}
use Rattle.jv_stackmap.specs.Frames.{Frame, PlacedFrame}
use Rattle.jv_code.specs.Insns.{Instruction}
use Rattle.jv_code.proofs.Sizes.{some_bytes}
use Rattle.jv_meaning_typing.specs.declared.verdict.VerifyRule.{VerifyRule}
use Rattle.jv_meaning_typing.specs.declared.verdict.VerifyRule.TheVariants as rules
use Rattle.jv_meaning_typing.specs.Environment.{Environment, instruction_at}
use Rattle.jv_meaning_typing.specs.Rule.{rule}
use Rattle.jv_meaning_typing.specs.Typing.{Assignment, FallsInto, GoesOnInto, IsAssignedBy, Merges, frame_at, handlers_hold, instruction_holds, targets_hold, IsTypeSafe, IsTypingBelow}
use Rattle.jv_meaning_typing.specs.Judgement.{BreaksAt}

-- two assignments have the same frames at all instructions below an offset
abbrev pub Agree : Environment → ℕ → Assignment → Assignment → Type 0
Agree env end f g = (pc : ℕ) (insn : Instruction) → instruction_at env pc ≡ Some insn → pc < end → f pc ≡ g pc

pub turned : (env : Environment) (end : ℕ) (f g : Assignment) → Agree env end f g → Agree env end g f
turned env end f g same pc insn at lt = sym (same pc insn at lt)

module _ (env : Environment) (maps : List PlacedFrame) where
  -- ---- what falls into an offset is what is left by an instruction below it

  go_on : (f g : Assignment) (pc : ℕ) (frame : Frame) → Agree env pc f g → GoesOnInto env f pc frame → GoesOnInto env g pc frame
  go_on f g pc frame same h = record {
    before = h.before;
    insn = h.insn;
    starts = h.starts;
    next = h.next;
    goes_on = h.goes_on;
    left = subst (λ (x : Frame). rule env h.before h.insn x ≡ Some frame) (same h.before h.insn h.starts (omega (arith, h.next, some_bytes h.insn))) h.left;
  }

  pub fall : (f g : Assignment) (pc : ℕ) (frame : Frame) → Agree env pc f g → FallsInto env f pc frame → FallsInto env g pc frame
  fall f g pc frame same (inl h) = inl h
  fall f g pc frame same (inr h) = inr (go_on f g pc frame same h)

  pub merge : (f g : Assignment) (pc : ℕ) (o : Option Frame) → Agree env pc f g → Merges env f pc o → Merges env g pc o
  merge f g pc (Some map) same h = λ frame falls. h frame (fall g f pc frame (turned env pc f g same) falls)
  merge f g pc None same h = (h.0, fall f g pc h.0 same h.1)

  -- ---- so is the frame there, where it is merged

  assigned_same : (f g : Assignment) (pc : ℕ) (o : Option Frame) → Agree env pc f g → Merges env f pc o → IsAssignedBy env f pc o → IsAssignedBy env g pc o → f pc ≡ g pc
  assigned_same f g pc (Some map) same h a b = a ∙ sym b
  assigned_same f g pc None same h a b = a h.0 h.1 ∙ sym (b h.0 (fall f g pc h.0 same h.1))

  agree_below : (f g : Assignment) (end : ℕ) → IsTypingBelow env maps end f → IsTypingBelow env maps end g → (k : ℕ) → k ≤ end → Agree env k f g
  agree_below f g end p q zero le pc insn at lt = absurd (omega (arith, lt))
  agree_below f g end p q (suc k) le pc insn at lt =
      let safe = p pc insn at (omega (arith, lt, le)) in
      let other = q pc insn at (omega (arith, lt, le)) in
      let below : Agree env pc f g = λ (n : ℕ) (i : Instruction) (e : instruction_at env n ≡ Some i) (less : n < pc). agree_below f g end p q k (omega (arith, le)) n i e (omega (arith, less, lt)) in
      assigned_same f g pc (frame_at maps pc) below safe.merges safe.assigned other.assigned

  pub agree : (f g : Assignment) (end : ℕ) → IsTypingBelow env maps end f → IsTypingBelow env maps end g → Agree env end f g
  agree f g end p q = agree_below f g end p q end (omega arith)

  -- ---- a rule that is broken in one of two such assignments

  unlike : (b : Bool) → IsTrue b → IsTrue (not b) → ⊥
  unlike true h n = absurd cc
  unlike false h n = absurd cc

  -- holds in no other
  pub safe_not_broken : (f g : Assignment) (pc : ℕ) (insn : Instruction) (broken : VerifyRule) → Agree env pc f g
      → IsTypeSafe env maps g pc insn → IsAssignedBy env f pc (frame_at maps pc) → BreaksAt env maps f pc insn broken → ⊥
  safe_not_broken f g pc insn broken same safe a b = by_rule broken b
    where
      merges : Merges env f pc (frame_at maps pc)
      merges = merge g f pc (frame_at maps pc) (turned env pc f g same) safe.merges

      alike : g pc ≡ f pc
      alike = sym (assigned_same f g pc (frame_at maps pc) same merges a safe.assigned)

      by_rule : (broken : VerifyRule) → BreaksAt env maps f pc insn broken → ⊥
      by_rule rules.Merge b = b merges
      by_rule rules.CoveredHandler b = unlike (handlers_hold env maps pc insn (f pc)) (subst (λ (x : Frame). IsTrue (handlers_hold env maps pc insn x)) alike safe.handled) b.1
      by_rule rules.Instruction b = unlike (instruction_holds env pc insn (f pc)) (subst (λ (x : Frame). IsTrue (instruction_holds env pc insn x)) alike safe.leaves) b.2
      by_rule rules.BranchTarget b = unlike (targets_hold env maps pc insn (f pc)) (subst (λ (x : Frame). IsTrue (targets_hold env maps pc insn x)) alike safe.targets) b.3
      by_rule rules.Code b = b
      by_rule rules.HandlerTable b = b
      by_rule rules.MapFrames b = b
      by_rule rules.EndOfCode b = b

  -- is broken in the other
  moved_break : (f g : Assignment) (pc : ℕ) (insn : Instruction) (broken : VerifyRule) → Agree env pc f g
      → IsAssignedBy env f pc (frame_at maps pc) → IsAssignedBy env g pc (frame_at maps pc) → BreaksAt env maps f pc insn broken → BreaksAt env maps g pc insn broken
  moved_break f g pc insn broken same a b h = by_rule broken h
    where
      merges : Merges env f pc (frame_at maps pc) → Merges env g pc (frame_at maps pc)
      merges m = merge f g pc (frame_at maps pc) same m

      alike : Merges env f pc (frame_at maps pc) → f pc ≡ g pc
      alike m = assigned_same f g pc (frame_at maps pc) same m a b

      by_rule : (broken : VerifyRule) → BreaksAt env maps f pc insn broken → BreaksAt env maps g pc insn broken
      by_rule rules.Merge h = λ m. h (merge g f pc (frame_at maps pc) (turned env pc f g same) m)
      by_rule rules.CoveredHandler h = (merges h.0, subst (λ (x : Frame). IsTrue (not (handlers_hold env maps pc insn x))) (alike h.0) h.1)
      by_rule rules.Instruction h = (
        merges h.0,
        subst (λ (x : Frame). IsTrue (handlers_hold env maps pc insn x)) (alike h.0) h.1,
        subst (λ (x : Frame). IsTrue (not (instruction_holds env pc insn x))) (alike h.0) h.2,
      )
      by_rule rules.BranchTarget h = (
        merges h.0,
        subst (λ (x : Frame). IsTrue (handlers_hold env maps pc insn x)) (alike h.0) h.1,
        subst (λ (x : Frame). IsTrue (instruction_holds env pc insn x)) (alike h.0) h.2,
        subst (λ (x : Frame). IsTrue (not (targets_hold env maps pc insn x))) (alike h.0) h.3,
      )
      by_rule rules.Code h = absurd h
      by_rule rules.HandlerTable h = absurd h
      by_rule rules.MapFrames h = absurd h
      by_rule rules.EndOfCode h = absurd h

  -- one rule is the first that is broken in an assignment at an instruction
  one_in : (f : Assignment) (pc : ℕ) (insn : Instruction) (one other : VerifyRule) → BreaksAt env maps f pc insn one → BreaksAt env maps f pc insn other → one ≡ other
  one_in f pc insn rules.Code other h k = absurd h
  one_in f pc insn rules.HandlerTable other h k = absurd h
  one_in f pc insn rules.MapFrames other h k = absurd h
  one_in f pc insn rules.EndOfCode other h k = absurd h
  one_in f pc insn rules.Merge rules.Merge h k = refl
  one_in f pc insn rules.Merge rules.CoveredHandler h k = absurd (h k.0)
  one_in f pc insn rules.Merge rules.Instruction h k = absurd (h k.0)
  one_in f pc insn rules.Merge rules.BranchTarget h k = absurd (h k.0)
  one_in f pc insn rules.Merge _ h k = absurd k
  one_in f pc insn rules.CoveredHandler rules.Merge h k = absurd (k h.0)
  one_in f pc insn rules.CoveredHandler rules.CoveredHandler h k = refl
  one_in f pc insn rules.CoveredHandler rules.Instruction h k = absurd (unlike (handlers_hold env maps pc insn (f pc)) k.1 h.1)
  one_in f pc insn rules.CoveredHandler rules.BranchTarget h k = absurd (unlike (handlers_hold env maps pc insn (f pc)) k.1 h.1)
  one_in f pc insn rules.CoveredHandler _ h k = absurd k
  one_in f pc insn rules.Instruction rules.Merge h k = absurd (k h.0)
  one_in f pc insn rules.Instruction rules.CoveredHandler h k = absurd (unlike (handlers_hold env maps pc insn (f pc)) h.1 k.1)
  one_in f pc insn rules.Instruction rules.Instruction h k = refl
  one_in f pc insn rules.Instruction rules.BranchTarget h k = absurd (unlike (instruction_holds env pc insn (f pc)) k.2 h.2)
  one_in f pc insn rules.Instruction _ h k = absurd k
  one_in f pc insn rules.BranchTarget rules.Merge h k = absurd (k h.0)
  one_in f pc insn rules.BranchTarget rules.CoveredHandler h k = absurd (unlike (handlers_hold env maps pc insn (f pc)) h.1 k.1)
  one_in f pc insn rules.BranchTarget rules.Instruction h k = absurd (unlike (instruction_holds env pc insn (f pc)) h.2 k.2)
  one_in f pc insn rules.BranchTarget rules.BranchTarget h k = refl
  one_in f pc insn rules.BranchTarget _ h k = absurd k

  pub one_break : (f g : Assignment) (pc : ℕ) (insn : Instruction) (one other : VerifyRule) → Agree env pc f g
      → IsAssignedBy env f pc (frame_at maps pc) → IsAssignedBy env g pc (frame_at maps pc)
      → BreaksAt env maps f pc insn one → BreaksAt env maps g pc insn other → one ≡ other
  one_break f g pc insn one other same a b h k = one_in g pc insn one other (moved_break f g pc insn one same a b h) k
