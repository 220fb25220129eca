-- Code that passes the walk has a typing: its frames are those of the walk.
use Rattle.std.proofs.Common.{◌≡◌, ℕ, ◌<◌, ◌≤◌, Bool, true, false, List, [], ◌∷◌, Option, Some, None, refl, sym, ap, subst, ◌∙◌, inl, inr, arith}
use Rattle.std.specs.Prelude.{◌==◌, ◌&&◌, IsTrue, if◌then◌else◌}
use Rattle.std.proofs.lemmas.Bool.{and_parts}
use Rattle.jv_stackmap.specs.Frames.{Frame, PlacedFrame}
use Rattle.jv_code.specs.Insns.{Instruction}
use Rattle.jv_code.proofs.Sizes.{some_bytes}
use Rattle.jv_meaning_world.specs.FrameFlow.{frame_flows}
use Rattle.jv_meaning_typing.specs.Environment.{Environment, offset_behind, instruction_from, instruction_at}
use Rattle.jv_meaning_typing.specs.Typing.{Assignment, FallsInto, IsAssignedBy, Merges, IsTypeSafe, IsTypingBelow, frame_at, first_frame, handlers_hold, instruction_holds, targets_hold}
use Rattle.jv_sound_system.specs.Walk.{frame_here, merges_into, holds_at, left_behind, with_frame, walks}
use Rattle.jv_sound_system.proofs.Falling.{Split, split, at_first, else_of, Falls, first_falls, next_falls}

-- ---- the frames of the walk

abbrev pub frame_or : Option Frame → Frame → Frame
frame_or None other = other
frame_or (Some frame) other = frame

-- where there is none, any
abbrev pub walked : Environment → List PlacedFrame → ℕ → Option Frame → List Instruction → Assignment
walked env maps start falls [] pc = first_frame env
walked env maps start falls (insn ∷ more) pc =
    if start == pc then frame_or (frame_here (frame_at maps start) falls) (first_frame env)
    else walked env maps (offset_behind start insn) (left_behind env start insn
    (frame_or (frame_here (frame_at maps start) falls) (first_frame env))) more pc

walked_first : (env : Environment) (maps : List PlacedFrame) (start : ℕ) (falls : Option Frame) (insn : Instruction)
    (more : List Instruction) (frame : Frame)
    → frame_here (frame_at maps start) falls ≡ Some frame → walked env maps start falls (insn ∷ more) start ≡ frame
walked_first env maps start falls insn more frame e =
    first start (frame_or (frame_here (frame_at maps start) falls) (first_frame env)) _ ∙ ap
    (λ (o : Option Frame). frame_or o (first_frame env)) e
  where
    first : (n : ℕ) (x y : Frame) → (if n == n then x else y) ≡ x
    first n x y = by_test (n == n) ((Rattle.std.proofs.lemmas.Bool.Decides.Decides-eqb n n).1 refl)
      where
        by_test : (b : Bool) → b ≡ true → (if b then x else y) ≡ x
        by_test true h = refl
        by_test false h = absurd cc

-- ---- one instruction

module _ (env : Environment) (maps : List PlacedFrame) (frames : Assignment) where
  assigned : (pc : ℕ) (map falls : Option Frame) → frame_here map falls ≡ Some (frames pc) → Falls env frames pc falls
      → IsAssignedBy env frames pc map
  assigned pc (Some map) falls e h = let same : map ≡ frames pc = cc in sym same
  assigned pc None None e h = absurd cc
  assigned pc None (Some frame) e h = λ (x : Frame) (k : FallsInto env frames pc x). let same : frame ≡ frames pc = cc in sym same ∙ sym
      (h.1 x k)

  merges : (pc : ℕ) (map falls : Option Frame) → frame_here map falls ≡ Some (frames pc) → Falls env frames pc falls
      → IsTrue (merges_into env.world falls map) → Merges env frames pc map
  merges pc (Some map) None e h t = λ (x : Frame) (k : FallsInto env frames pc x). absurd (h x k)
  merges pc (Some map) (Some frame) e h t = λ (x : Frame) (k : FallsInto env frames pc x). subst
      (λ (y : Frame). IsTrue (frame_flows env.world y map)) (sym (h.1 x k)) t
  merges pc None None e h t = absurd cc
  merges pc None (Some frame) e h t = (frame, h.0)

  safe : (pc : ℕ) (insn : Instruction) (falls : Option Frame) → frame_here (frame_at maps pc) falls ≡ Some (frames pc)
      → Falls env frames pc falls
      → IsTrue (merges_into env.world falls (frame_at maps pc)) → IsTrue (holds_at env maps pc insn (frames pc))
      → IsTypeSafe env maps frames pc insn
  safe pc insn falls e h m t =
      let handled = and_parts (handlers_hold env maps pc insn (frames pc))
      (instruction_holds env pc insn (frames pc) && targets_hold env maps pc insn (frames pc)) t in
      let rest = and_parts (instruction_holds env pc insn (frames pc)) (targets_hold env maps pc insn (frames pc)) handled.1 in
      record {
        assigned = assigned pc (frame_at maps pc) falls e h;
        merges = merges pc (frame_at maps pc) falls e h m;
        handled = handled.0;
        leaves = rest.0;
        targets = rest.1;
      }

  -- ---- all

  -- from an offset on the instructions and the frames are those of the walk
  record IsBehind (start : ℕ) (falls : Option Frame) (insns : List Instruction) : Type 0 where
    insns_are : (pc : ℕ) → start ≤ pc → instruction_at env pc ≡ instruction_from start insns pc
    frames_are : (pc : ℕ) → start ≤ pc → frames pc ≡ walked env maps start falls insns pc
    falls_in : Falls env frames start falls

  record IsStep (start : ℕ) (falls : Option Frame) (insn : Instruction) (more : List Instruction) : Type 0 where
    frame_is : frame_here (frame_at maps start) falls ≡ Some (frames start)
    merged : IsTrue (merges_into env.world falls (frame_at maps start))
    holds : IsTrue (holds_at env maps start insn (frames start))
    rest : IsTrue (walks env maps (offset_behind start insn) (left_behind env start insn (frames start)) more)

  abbrev Test : ℕ → Option Frame → Instruction → List Instruction → Frame → Bool
  Test start falls insn more frame =
      merges_into env.world falls (frame_at maps start)
      && (holds_at env maps start insn frame && walks env maps (offset_behind start insn) (left_behind env start insn frame) more)

  step : (start : ℕ) (falls : Option Frame) (insn : Instruction) (more : List Instruction) → IsBehind start falls (insn ∷ more)
      → IsTrue (walks env maps start falls (insn ∷ more)) → IsStep start falls insn more
  step start falls insn more at h = by_frame (frame_here (frame_at maps start) falls) refl h
    where
      by_frame : (o : Option Frame) → frame_here (frame_at maps start) falls ≡ o → IsTrue (with_frame o (Test start falls insn more))
          → IsStep start falls insn more
      by_frame None e t = absurd cc
      by_frame (Some frame) e t =
          let here : frames start ≡ frame = at.frames_are start (omega arith) ∙ walked_first env maps start falls insn more frame e in
          let t2 : IsTrue (Test start falls insn more (frames start)) = subst (λ (x : Frame). IsTrue (Test start falls insn more x))
          (sym here) t in
          let parts = and_parts _ _ t2 in
          let more_parts = and_parts _ _ parts.1 in
          record { frame_is = e ∙ ap Some (sym here); merged = parts.0; holds = more_parts.0; rest = more_parts.1 }

  behind : (start : ℕ) (falls : Option Frame) (insn : Instruction) (more : List Instruction) → IsBehind start falls (insn ∷ more)
      → IsStep start falls insn more → IsBehind (offset_behind start insn) (left_behind env start insn (frames start)) more
  behind start falls insn more at s = record {
    insns_are = λ (pc : ℕ) (le : offset_behind start insn ≤ pc).
        at.insns_are pc (omega (arith, le)) ∙ else_of start pc (Some insn) (instruction_from (offset_behind start insn) more pc)
        (omega (arith, le, some_bytes insn));
    frames_are = λ (pc : ℕ) (le : offset_behind start insn ≤ pc).
        at.frames_are pc (omega (arith, le))
        ∙ else_of start pc (frame_or (frame_here (frame_at maps start) falls) (first_frame env))
        (walked env maps (offset_behind start insn) (left_behind env start insn
        (frame_or (frame_here (frame_at maps start) falls) (first_frame env))) more pc) (omega (arith, le, some_bytes insn))
        ∙ ap (λ (o : Option Frame). walked env maps (offset_behind start insn)
        (left_behind env start insn (frame_or o (first_frame env))) more pc) s.frame_is;
    falls_in = next_falls env frames start insn (at.insns_are start (omega arith) ∙ at_first start insn more);
  }

  all_safe : (start : ℕ) (falls : Option Frame) (insns : List Instruction) → IsBehind start falls insns
      → IsTrue (walks env maps start falls insns)
      → (pc : ℕ) (insn : Instruction) → instruction_from start insns pc ≡ Some insn → IsTypeSafe env maps frames pc insn
  all_safe start falls [] at h pc insn e = absurd cc
  all_safe start falls (x ∷ more) at h pc insn e =
      let s = step start falls x more at h in
      by_part s (split start pc x more insn e) (λ k. all_safe (offset_behind start x) (left_behind env start x (frames start)) more
      (behind start falls x more at s) s.rest pc insn k)
    where
      by_part : IsStep start falls x more → Split start pc x more insn
          → (instruction_from (offset_behind start x) more pc ≡ Some insn → IsTypeSafe env maps frames pc insn)
          → IsTypeSafe env maps frames pc insn
      by_part s (inl here) again =
          subst (λ (n : ℕ). IsTypeSafe env maps frames n insn) here.0
          (subst (λ (i : Instruction). IsTypeSafe env maps frames start i) here.1
          (safe start x falls s.frame_is at.falls_in s.merged s.holds))
      by_part s (inr there) again = again there

abbrev pub frames_of_walk : Environment → List PlacedFrame → Assignment
frames_of_walk env maps = walked env maps 0 (Some (first_frame env)) env.instructions

pub walk_types : (env : Environment) (maps : List PlacedFrame) (end : ℕ)
    → IsTrue (walks env maps 0 (Some (first_frame env)) env.instructions)
    → IsTypingBelow env maps end (frames_of_walk env maps)
walk_types env maps end h = λ (pc : ℕ) (insn : Instruction) (at : instruction_at env pc ≡ Some insn) (lt : pc < end).
    all_safe env maps (frames_of_walk env maps) 0 (Some (first_frame env)) env.instructions (record {
      insns_are = λ (pc : ℕ) (le : 0 ≤ pc). refl;
      frames_are = λ (pc : ℕ) (le : 0 ≤ pc). refl;
      falls_in = first_falls env (frames_of_walk env maps);
    }) h pc insn at
