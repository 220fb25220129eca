-- A walk over the code: from an offset to the next, or to the first rule that is broken.
use Rattle.std.proofs.Common.{◌≡◌, ℕ, ◌<◌, ◌≤◌, Bool, true, false, List, Option, Some, None, refl, sym, ap, subst, ◌∙◌, ◌⊎◌, inl, inr, length, arith}
use Rattle.std.specs.Prelude.{IsTrue, not, is_some, unwrap_or, ◌==◌, if◌then◌else◌}
use Rattle.std.specs.Option.{option_map}
use Rattle.std.proofs.lemmas.Bool.{cases_order}
use Rattle.std.proofs.lemmas.Bool.Decides.{Decides-eqb}
use Rattle.jv_stackmap.specs.Frames.{Frame, PlacedFrame}
use Rattle.jv_code.specs.Insns.{Instruction}
use Rattle.jv_code.specs.Places.{IsAt, StandsInList, StartsApart}
use Rattle.jv_code.specs.Successors.{falls_through}
use Rattle.jv_code.proofs.Sizes.{some_bytes}
use Rattle.jv_meaning_world.specs.FrameFlow.{frame_flows}
use Rattle.jv_meaning_typing.specs.declared.verdict.VerifyRule.TheVariants as rules
use Rattle.jv_meaning_typing.specs.Environment.{Environment, IsEnvironment, instruction_at, offset_behind}
use Rattle.jv_meaning_typing.specs.Rule.{rule}
use Rattle.jv_meaning_typing.specs.Typing.{Assignment, FallsInto, IsAssignedBy, Merges, IsTypeSafe, IsTypingBelow, frame_at, handlers_hold, targets_hold, ends_code, last_instruction, first_frame}
use Rattle.jv_meaning_typing.specs.Judgement.{BreaksFirst, GoesOnBehind}
use Rattle.jv_meaning_typing.proofs.Starts.{instruction_at_is, last_there}
use Rattle.jv_meaning_typing.proofs.Agreement.{fall}
use Rattle.jv_meaning_typing.proofs.Falling.{one_falls, grows, local}
use Rattle.jv_verify_pass.specs.Found.{IsTyped}
use Rattle.jv_verify_pass.specs.Before.{Falls}
use Rattle.jv_verify_pass.specs.Inside.Walk.{Reaches, Stands, Progress, merged, when_falls, all_hold}

-- ---- an assignment with another frame at one offset

abbrev with_frame : Assignment → ℕ → Frame → Assignment
with_frame frames pc x = λ n. if n == pc then x else frames n

chosen : (b : Bool) (x y : Frame) → b ≡ true → (if b then x else y) ≡ x
chosen true x y e = refl
chosen false x y e = absurd cc

passed : (b : Bool) (x y : Frame) → (b ≡ true → ⊥) → (if b then x else y) ≡ y
passed true x y n = absurd (n refl)
passed false x y n = refl

there : (frames : Assignment) (pc : ℕ) (x : Frame) → with_frame frames pc x pc ≡ x
there frames pc x = chosen (pc == pc) x (frames pc) ((Decides-eqb pc pc).1 refl)

elsewhere : (frames : Assignment) (pc : ℕ) (x : Frame) (n : ℕ) → n < pc → frames n ≡ with_frame frames pc x n
elsewhere frames pc x n lt = sym (passed (n == pc) x (frames n) (λ e. omega (arith, lt, (Decides-eqb n pc).0 e)))

unsome : {A : Type 0} (x y : A) → Some x ≡ Some y → x ≡ y
unsome x y e = cc

-- where a frame flows to that of the map, the frame of the map stands there
map_stands : (b : Bool) (x map : Frame) → (if b then Some map else None) ≡ Some x → (b ≡ true) × (map ≡ x)
map_stands true x map e = (refl, unsome map x e)
map_stands false x map e = absurd cc

flows_not : (b : Bool) (map : Frame) → (if b then Some map else None) ≡ None → IsTrue b → ⊥
flows_not true map e h = absurd cc
flows_not false map e h = absurd cc

module _ (stands : StandsInList) (apart : StartsApart) (env : Environment) (is : IsEnvironment env) (maps : List PlacedFrame) where
  -- what falls into an offset does not hang on the frame there
  falls_there : (frames : Assignment) (pc : ℕ) (x y : Frame) → FallsInto env (with_frame frames pc x) pc y → FallsInto env frames pc y
  falls_there frames pc x y h =
      fall env maps (with_frame frames pc x) frames pc y (λ (n : ℕ) (i : Instruction) (at : instruction_at env n ≡ Some i) (lt : n < pc). sym (elsewhere frames pc x n lt)) h

  falls_also : (frames : Assignment) (pc : ℕ) (x y : Frame) → FallsInto env frames pc y → FallsInto env (with_frame frames pc x) pc y
  falls_also frames pc x y h =
      fall env maps frames (with_frame frames pc x) pc y (λ (n : ℕ) (i : Instruction) (at : instruction_at env n ≡ Some i) (lt : n < pc). elsewhere frames pc x n lt) h

  below_also : (frames : Assignment) (pc : ℕ) (x : Frame) → IsTypingBelow env maps pc frames → IsTypingBelow env maps pc (with_frame frames pc x)
  below_also frames pc x h = local env maps frames (with_frame frames pc x) pc (elsewhere frames pc x) h

  -- ---- the first frame

  pub begins : Reaches env maps 0 (Some (first_frame env))
  begins = record {
    frames = λ n. first_frame env;
    below = λ (n : ℕ) (i : Instruction) (at : instruction_at env n ≡ Some i) (lt : n < 0). absurd (omega (arith, lt));
    falls = inl (refl, refl);
  }

  -- ---- the frame before an instruction

  assigned_there : (frames : Assignment) (pc : ℕ) (x : Frame) (falling o : Option Frame) → Falls env frames pc falling → merged env.world falling o ≡ Some x
      → IsAssignedBy env (with_frame frames pc x) pc o
  assigned_there frames pc x None (Some map) f e = there frames pc x ∙ sym (unsome map x e)
  assigned_there frames pc x (Some y) (Some map) f e = there frames pc x ∙ sym (map_stands (frame_flows env.world y map) x map e).1
  assigned_there frames pc x None None f e = absurd cc
  assigned_there frames pc x (Some y) None f e = λ (z : Frame) (h : FallsInto env (with_frame frames pc x) pc z).
      there frames pc x ∙ (sym (unsome y x e) ∙ one_falls stands apart env is frames pc y z f (falls_there frames pc x z h))

  merges_there : (frames : Assignment) (pc : ℕ) (x : Frame) (falling o : Option Frame) → Falls env frames pc falling → merged env.world falling o ≡ Some x
      → Merges env (with_frame frames pc x) pc o
  merges_there frames pc x None (Some map) f e = λ (z : Frame) (h : FallsInto env (with_frame frames pc x) pc z). absurd (f z (falls_there frames pc x z h))
  merges_there frames pc x (Some y) (Some map) f e = λ (z : Frame) (h : FallsInto env (with_frame frames pc x) pc z).
      subst (λ (w : Frame). IsTrue (frame_flows env.world w map)) (one_falls stands apart env is frames pc y z f (falls_there frames pc x z h))
      (map_stands (frame_flows env.world y map) x map e).0
  merges_there frames pc x None None f e = absurd cc
  merges_there frames pc x (Some y) None f e = (y, falls_also frames pc x y f)

  pub stand : (pc : ℕ) (x : Frame) (falling : Option Frame) → Reaches env maps pc falling → merged env.world falling (frame_at maps pc) ≡ Some x → Stands env maps pc x
  stand pc x falling r e = record {
    frames = with_frame r.frames pc x;
    below = below_also r.frames pc x r.below;
    assigned = assigned_there r.frames pc x falling (frame_at maps pc) r.falls e;
    merges = merges_there r.frames pc x falling (frame_at maps pc) r.falls e;
    is = there r.frames pc x;
  }

  -- none is there

  -- some assignment in which nothing is merged there
  record Unmerged (pc : ℕ) (o : Option Frame) : Type 0 where
    frames : Assignment
    below : IsTypingBelow env maps pc frames
    assigned : IsAssignedBy env frames pc o
    not : Merges env frames pc o → ⊥

  unmerged : (frames : Assignment) (pc : ℕ) (falling o : Option Frame) → Falls env frames pc falling → merged env.world falling o ≡ None
      → IsTypingBelow env maps pc frames → Unmerged pc o
  unmerged frames pc None (Some map) f e b = absurd cc
  unmerged frames pc (Some y) (Some map) f e b = record {
    frames = with_frame frames pc map;
    below = below_also frames pc map b;
    assigned = there frames pc map;
    not = λ m. flows_not (frame_flows env.world y map) map e (m y (falls_also frames pc map y f));
  }
  unmerged frames pc None None f e b = record {
    frames = frames;
    below = b;
    assigned = λ (z : Frame) (h : FallsInto env frames pc z). absurd (f z h);
    not = λ m. f m.0 m.1;
  }
  unmerged frames pc (Some y) None f e b = absurd cc

  pub merge_broken : (pc : ℕ) (insn : Instruction) (falling : Option Frame) → instruction_at env pc ≡ Some insn → Reaches env maps pc falling
      → merged env.world falling (frame_at maps pc) ≡ None → BreaksFirst env maps pc rules.Merge
  merge_broken pc insn falling at r e =
      let n = unmerged r.frames pc falling (frame_at maps pc) r.falls e r.below in
      record { frames = n.frames; below = n.below; insn = insn; starts = at; assigned = n.assigned; breaks = n.not }

  -- ---- the rules at an instruction

  not_true : (b : Bool) → b ≡ false → IsTrue (not b)
  not_true true e = absurd cc
  not_true false e = refl

  handled_here : (frames : Assignment) (pc : ℕ) (insn : Instruction) (x : Frame) (b : Bool) → frames pc ≡ x → b ≡ handlers_hold env maps pc insn x
      → handlers_hold env maps pc insn (frames pc) ≡ b
  handled_here frames pc insn x b e h = ap (λ (y : Frame). handlers_hold env maps pc insn y) e ∙ sym h

  pub handler_broken : (pc : ℕ) (insn : Instruction) (x : Frame) → instruction_at env pc ≡ Some insn → Stands env maps pc x
      → false ≡ handlers_hold env maps pc insn x → BreaksFirst env maps pc rules.CoveredHandler
  handler_broken pc insn x at s h = record {
    frames = s.frames;
    below = s.below;
    insn = insn;
    starts = at;
    assigned = s.assigned;
    breaks = (s.merges, not_true (handlers_hold env maps pc insn (s.frames pc)) (handled_here s.frames pc insn x false s.is h));
  }

  no_rule : (o : Option Frame) → o ≡ None → IsTrue (not (is_some o))
  no_rule None e = refl
  no_rule (Some x) e = absurd cc

  some_rule : (o : Option Frame) (x : Frame) → o ≡ Some x → IsTrue (is_some o)
  some_rule None x e = absurd cc
  some_rule (Some y) x e = refl

  handled : (frames : Assignment) (pc : ℕ) (insn : Instruction) (x : Frame) → frames pc ≡ x → true ≡ handlers_hold env maps pc insn x
      → IsTrue (handlers_hold env maps pc insn (frames pc))
  handled frames pc insn x e h = handled_here frames pc insn x true e h

  ruled : (frames : Assignment) (pc : ℕ) (insn : Instruction) (x : Frame) (o : Option Frame) → frames pc ≡ x → rule env pc insn x ≡ o → rule env pc insn (frames pc) ≡ o
  ruled frames pc insn x o e h = ap (λ (y : Frame). rule env pc insn y) e ∙ h

  pub instruction_broken : (pc : ℕ) (insn : Instruction) (x : Frame) → instruction_at env pc ≡ Some insn → Stands env maps pc x
      → true ≡ handlers_hold env maps pc insn x → rule env pc insn x ≡ None → BreaksFirst env maps pc rules.Instruction
  instruction_broken pc insn x at s h e = record {
    frames = s.frames;
    below = s.below;
    insn = insn;
    starts = at;
    assigned = s.assigned;
    breaks = (s.merges, handled s.frames pc insn x s.is h, no_rule (rule env pc insn (s.frames pc)) (ruled s.frames pc insn x None s.is e));
  }

  -- the targets, behind a frame that is left
  targets_are : (pc : ℕ) (insn : Instruction) (x left : Frame) → rule env pc insn x ≡ Some left → targets_hold env maps pc insn x ≡ all_hold env maps left pc insn
  targets_are pc insn x left e =
      ap (λ (o : Option Frame). unwrap_or (option_map (λ (l : Frame). all_hold env maps l pc insn) o) false) e

  targets_here : (frames : Assignment) (pc : ℕ) (insn : Instruction) (x left : Frame) (b : Bool) → frames pc ≡ x → rule env pc insn x ≡ Some left
      → b ≡ all_hold env maps left pc insn → targets_hold env maps pc insn (frames pc) ≡ b
  targets_here frames pc insn x left b e r h = targets_are pc insn (frames pc) left (ruled frames pc insn x (Some left) e r) ∙ sym h

  pub target_broken : (pc : ℕ) (insn : Instruction) (x left : Frame) → instruction_at env pc ≡ Some insn → Stands env maps pc x
      → true ≡ handlers_hold env maps pc insn x → rule env pc insn x ≡ Some left → false ≡ all_hold env maps left pc insn → BreaksFirst env maps pc rules.BranchTarget
  target_broken pc insn x left at s h r t = record {
    frames = s.frames;
    below = s.below;
    insn = insn;
    starts = at;
    assigned = s.assigned;
    breaks = (
      s.merges,
      handled s.frames pc insn x s.is h,
      some_rule (rule env pc insn (s.frames pc)) left (ruled s.frames pc insn x (Some left) s.is r),
      not_true (targets_hold env maps pc insn (s.frames pc)) (targets_here s.frames pc insn x left false s.is r t),
    );
  }

  -- ---- the next instruction

  safe : (pc : ℕ) (insn : Instruction) (x left : Frame) (s : Stands env maps pc x) → true ≡ handlers_hold env maps pc insn x → rule env pc insn x ≡ Some left
      → true ≡ all_hold env maps left pc insn → IsTypeSafe env maps s.frames pc insn
  safe pc insn x left s h r t = record {
    assigned = s.assigned;
    merges = s.merges;
    handled = handled s.frames pc insn x s.is h;
    leaves = some_rule (rule env pc insn (s.frames pc)) left (ruled s.frames pc insn x (Some left) s.is r);
    targets = targets_here s.frames pc insn x left true s.is r t;
  }

  one_before : (p q : ℕ) (i j : Instruction) → instruction_at env p ≡ Some i → instruction_at env q ≡ Some j → offset_behind p i ≡ offset_behind q j → p ≡ q
  one_before p q i j at other e = by_order (cases_order p q)
    where
      start : (n : ℕ) (k : Instruction) → instruction_at env n ≡ Some k → IsAt env.code.code n k
      start n k h = (instruction_at_is stands env n k is).1 h

      by_order : (p ≡ q) ⊎ ((p < q) ⊎ (q < p)) → p ≡ q
      by_order (inl same) = same
      by_order (inr (inl lt)) = absurd (omega (arith, apart env.code.code p q i j (start p i at) (start q j other) (omega (arith, lt)), e, some_bytes j))
      by_order (inr (inr lt)) = absurd (omega (arith, apart env.code.code q p j i (start q j other) (start p i at) (omega (arith, lt)), e, some_bytes i))

  falls_not : (frames : Assignment) (pc : ℕ) (insn : Instruction) (y : Frame) → instruction_at env pc ≡ Some insn → falls_through insn ≡ false
      → FallsInto env frames (offset_behind pc insn) y → ⊥
  falls_not frames pc insn y at n (inl h) = omega (arith, h.0, some_bytes insn)
  falls_not frames pc insn y at n (inr g) =
      let place : pc ≡ g.before = one_before pc g.before insn g.insn at g.starts g.next in
      let same : insn ≡ g.insn = unsome insn g.insn (sym at ∙ (ap (λ (k : ℕ). instruction_at env k) place ∙ g.starts)) in
      no_both (sym n ∙ (ap (λ (i : Instruction). falls_through i) same ∙ g.goes_on))
    where
      no_both : false ≡ true → ⊥
      no_both e = absurd cc

  falling_on : (frames : Assignment) (pc : ℕ) (insn : Instruction) (left : Frame) (b : Bool) → falls_through insn ≡ b → instruction_at env pc ≡ Some insn
      → rule env pc insn (frames pc) ≡ Some left → Falls env frames (offset_behind pc insn) (when_falls b left)
  falling_on frames pc insn left true e at r = inr (record { before = pc; insn = insn; starts = at; next = refl; goes_on = e; left = r })
  falling_on frames pc insn left false e at r = λ (y : Frame) (h : FallsInto env frames (offset_behind pc insn) y). falls_not frames pc insn y at e h

  pub goes_on : (pc : ℕ) (insn : Instruction) (x left : Frame) → instruction_at env pc ≡ Some insn → Stands env maps pc x
      → true ≡ handlers_hold env maps pc insn x → rule env pc insn x ≡ Some left → true ≡ all_hold env maps left pc insn
      → Reaches env maps (offset_behind pc insn) (when_falls (falls_through insn) left)
  goes_on pc insn x left at s h r t = record {
    frames = s.frames;
    below = grows stands apart env is maps s.frames pc insn at s.below (safe pc insn x left s h r t);
    falls = falling_on s.frames pc insn left (falls_through insn) refl at (ruled s.frames pc insn x (Some left) s.is r);
  }

  -- ---- the end of the code

  below_end : (n : ℕ) (falling : Option Frame) → n ≡ length env.code.code → (r : Reaches env maps n falling) → IsTypingBelow env maps (length env.code.code) r.frames
  below_end n falling e r = subst (λ (k : ℕ). IsTypingBelow env maps k r.frames) e r.below

  pub end_broken : (pc : ℕ) (insn : Instruction) (falling : Option Frame) → instruction_at env pc ≡ Some insn → offset_behind pc insn ≡ length env.code.code
      → falls_through insn ≡ true → Reaches env maps (offset_behind pc insn) falling → GoesOnBehind env maps pc
  end_broken pc insn falling at end e r = record {
    frames = r.frames;
    below = below_end (offset_behind pc insn) falling end r;
    insn = insn;
    starts = at;
    last = end;
    goes_on = ap (λ (b : Bool). not (not b)) e;
  }

  ends : (o : Option Instruction) (insn : Instruction) → o ≡ Some insn → falls_through insn ≡ false → IsTrue (ends_code o)
  ends None insn e n = absurd cc
  ends (Some i) insn e n = ap (λ (b : Bool). not b) (ap (λ (k : Instruction). falls_through k) (unsome i insn e) ∙ n)

  -- behind an instruction the walk has made progress, where it isn't the last, from which control goes on
  pub further : (pc : ℕ) (insn : Instruction) (falling : Option Frame) → instruction_at env pc ≡ Some insn → Reaches env maps (offset_behind pc insn) falling
      → (falls_through insn ≡ true → offset_behind pc insn ≡ length env.code.code → ⊥) → Progress env maps (offset_behind pc insn) falling
  further pc insn falling at r n = record { reaches = r; end = λ end. by_fall (falls_through insn) refl end }
    where
      by_fall : (b : Bool) → falls_through insn ≡ b → offset_behind pc insn ≡ length env.code.code → IsTrue (ends_code (last_instruction env))
      by_fall true e end = absurd (n e end)
      by_fall false e end = ends (last_instruction env) insn (last_there env pc insn is at end) e

  pub whole : (n : ℕ) (falling : Option Frame) → n ≡ length env.code.code → Progress env maps n falling → IsTyped env maps
  whole n falling e p = record { frames = p.reaches.frames; below = below_end n falling e p.reaches; end = p.end e }

  -- at the start nothing is behind the last
  pub starting : (falling : Option Frame) → 1 ≤ length env.code.code → Reaches env maps 0 falling → Progress env maps 0 falling
  starting falling some r = record { reaches = r; end = λ end. absurd (omega (arith, some, end)) }
