-- Where control leads from an instruction of a typed method: to an instruction that the typing has a frame for.
use Rattle.std.proofs.Common.{◌≡◌, ◌⊎◌, inl, inr, ℕ, Bool, true, false, not, ◌&&◌, ◌||◌, ◌==◌, List, [], ◌∷◌, Option, Some, None, refl, sym, ap, subst, ◌∙◌}
use Rattle.std.specs.Prelude.{IsTrue, IsSome, unwrap_or, if◌then◌else◌}
use Rattle.std.specs.List.{All, Contains, find, list_all}
use Rattle.std.specs.Option.{option_map}
use Rattle.std.proofs.lemmas.Bool.{eqb-true}
use Rattle.std.proofs.lemmas.List.Elements.{All-head, All-tail}
use Rattle.jv_format.specs.declared.handlers.Handler.{Handler}
use Rattle.jv_stackmap.specs.Types.{FrameType}
use Rattle.jv_stackmap.specs.Frames.{Frame, PlacedFrame}
use Rattle.jv_code.specs.Insns.{Instruction}
use Rattle.jv_code.specs.Places.{StandsInList, NextStarts, IsStartOrEnd}
use Rattle.jv_code.specs.Successors.{falls_through, jump_targets}
use Rattle.jv_sound.specs.Following.{IsSuccessor}
use Rattle.jv_meaning_world.proofs.OrderChains.{all_at}
use Rattle.jv_meaning_world.specs.FrameFlow.{frame_flows}
use Rattle.jv_meaning_typing.specs.Environment.{Environment, IsEnvironment, instruction_at, offset_behind}
use Rattle.jv_meaning_typing.specs.Rule.{rule, handler_frame}
use Rattle.jv_meaning_typing.specs.Typing.{Assignment, FrameStands, IsAssignedBy, Merges, IsTypeSafe, IsTyping, frame_at, first_frame, flows_into, covers, handles, catch_type, target_holds, last_instruction, ends_code}
use Rattle.jv_meaning_typing.proofs.Starts.{instruction_at_is, start_within, last_there}
use Rattle.jv_sound.proofs.Logic.{clash}

-- a frame leads to an offset: an instruction is there, and the typing has that frame or one to which it flows
pub record Leads (env : Environment) (frames : Assignment) (g : Frame) (to : ℕ) : Type 0 where
  pub insn : Instruction
  pub stands : instruction_at env to ≡ Some insn
  pub goes : (frames to ≡ g) ⊎ IsTrue (frame_flows env.world g (frames to))

some_is : {A : Type 0} (o : Option A) → IsSome o → (a : A) × (o ≡ Some a)
some_is None h = absurd (clash h)
some_is (Some a) h = (a, refl)

and_both : (a b : Bool) → (a && b) ≡ true → (a ≡ true) × (b ≡ true)
and_both true b e = (refl, e)
and_both false b e = absurd (clash e)

module _ (env : Environment) (maps : List PlacedFrame) (frames : Assignment) (is : IsEnvironment env)
    (typing : IsTyping env maps frames) where
  safe : (pc : ℕ) (insn : Instruction) → instruction_at env pc ≡ Some insn → IsTypeSafe env maps frames pc insn
  safe pc insn e = typing.below pc insn e (start_within env pc insn is e)

  -- at a frame of the map an instruction stands
  map_stands : (all : List PlacedFrame) → All (FrameStands env) all → (pc : ℕ) (map : Frame) → frame_at all pc ≡ Some map
      → IsSome (instruction_at env pc)
  map_stands [] h pc map e = absurd cc
  map_stands (f ∷ all) h pc map e = by_test (f.offset == pc) refl e (λ k. map_stands all (All-tail (FrameStands env) f all h) pc map k)
    where
      by_test : (b : Bool) → (f.offset == pc) ≡ b → option_map (λ (x : PlacedFrame). x.frame)
          (if b then Some f else find (λ (x : PlacedFrame). x.offset == pc) all) ≡ Some map
          → (frame_at all pc ≡ Some map → IsSome (instruction_at env pc)) → IsSome (instruction_at env pc)
      by_test true k e next = subst (λ (n : ℕ). IsSome (instruction_at env n)) (eqb-true f.offset pc k)
          (All-head (FrameStands env) f all h).at
      by_test false k e next = next e

  into_map : (g : Frame) (to : ℕ) (o : Option Frame) → frame_at maps to ≡ o → IsTrue (flows_into env g o) → Leads env frames g to
  into_map g to None e h = absurd (clash h)
  into_map g to (Some map) e h =
      let there = some_is (instruction_at env to) (map_stands maps typing.stack_map.stand to map e) in
      let assigned : frames to ≡ map = subst (λ (o : Option Frame). IsAssignedBy env frames to o) e (safe to there.0 there.1).assigned in
      record { insn = there.0; stands = there.1; goes = inr (subst (λ (x : Frame). IsTrue (frame_flows env.world g x)) (sym assigned) h) }

  -- to a target
  to_target : (pc : ℕ) (insn : Instruction) (g : Frame) (to : ℕ) → instruction_at env pc ≡ Some insn → rule env pc insn (frames pc) ≡ Some g
      → Contains (jump_targets pc insn) (Some to) → Leads env frames g to
  to_target pc insn g to e r h =
      let all : list_all (target_holds env maps g) (jump_targets pc insn) ≡ true =
      subst (λ (o : Option Frame). IsTrue (unwrap_or (option_map
      (λ (left : Frame). list_all (target_holds env maps left) (jump_targets pc insn)) o) false)) r (safe pc insn e).targets in
      into_map g to (frame_at maps to) refl (all_at (target_holds env maps g) (jump_targets pc insn) (Some to) all h)

  -- each target is an offset
  pub target_there : (pc : ℕ) (insn : Instruction) (g : Frame) (o : Option ℕ) → instruction_at env pc ≡ Some insn
      → rule env pc insn (frames pc) ≡ Some g
      → Contains (jump_targets pc insn) o → IsSome o
  target_there pc insn g None e r h =
      let all : list_all (target_holds env maps g) (jump_targets pc insn) ≡ true =
      subst (λ (o : Option Frame). IsTrue (unwrap_or (option_map
      (λ (left : Frame). list_all (target_holds env maps left) (jump_targets pc insn)) o) false)) r (safe pc insn e).targets in
      absurd (clash (all_at (target_holds env maps g) (jump_targets pc insn) None all h))
  target_there pc insn g (Some to) e r h = refl

  module _ (next_starts : NextStarts) (stands_in_list : StandsInList) where
    -- control that goes on finds an instruction
    next_there : (pc : ℕ) (insn : Instruction) → instruction_at env pc ≡ Some insn → IsTrue (falls_through insn)
        → IsSome (instruction_at env (offset_behind pc insn))
    next_there pc insn e falls = by_place (next_starts env.code.code pc insn ((instruction_at_is stands_in_list env pc insn is).1 e))
      where
        by_place : IsStartOrEnd env.code.code (offset_behind pc insn) → IsSome (instruction_at env (offset_behind pc insn))
        by_place (inl start) = subst (λ (o : Option Instruction). IsSome o)
            (sym ((instruction_at_is stands_in_list env (offset_behind pc insn) start.0 is).0 start.1)) refl
        by_place (inr end) =
            let last : last_instruction env ≡ Some insn = last_there env pc insn is e end in
            let ends : not (falls_through insn) ≡ true = subst (λ (o : Option Instruction). IsTrue (ends_code o)) last typing.end in
            absurd (clash (ap not (sym falls) ∙ ends))

    to_next : (pc : ℕ) (insn : Instruction) (g : Frame) → instruction_at env pc ≡ Some insn → rule env pc insn (frames pc) ≡ Some g
        → IsTrue (falls_through insn)
        → Leads env frames g (offset_behind pc insn)
    to_next pc insn g e r falls =
        let there = some_is (instruction_at env (offset_behind pc insn)) (next_there pc insn e falls) in
        let at_next = safe (offset_behind pc insn) there.0 there.1 in
        by_map there.0 there.1 (frame_at maps (offset_behind pc insn)) at_next.assigned at_next.merges
      where
        by_map : (next : Instruction) → instruction_at env (offset_behind pc insn) ≡ Some next → (o : Option Frame)
            → IsAssignedBy env frames (offset_behind pc insn) o → Merges env frames (offset_behind pc insn) o
            → Leads env frames g (offset_behind pc insn)
        by_map next k None assigned merges =
            record {
              insn = next;
              stands = k;
              goes = inl (assigned g
                  (inr (record { before = pc; insn = insn; starts = e; next = refl; goes_on = falls; left = r })));
            }
        by_map next k (Some map) assigned merges =
            record {
              insn = next;
              stands = k;
              goes = inr (subst (λ (x : Frame). IsTrue (frame_flows env.world g x)) (sym assigned)
                  (merges g (inr (record { before = pc; insn = insn; starts = e; next = refl; goes_on = falls; left = r }))));
            }

    pub follows : (pc : ℕ) (insn : Instruction) (g : Frame) (to : ℕ) → instruction_at env pc ≡ Some insn
        → rule env pc insn (frames pc) ≡ Some g → IsSuccessor pc insn to
        → Leads env frames g to
    follows pc insn g to e r (inl h) = to_target pc insn g to e r h
    follows pc insn g to e r (inr h) = subst (λ (n : ℕ). Leads env frames g n) (sym h.1) (to_next pc insn g e r h.0)

  -- a method begins with its first frame
  pub begins : (insn : Instruction) → instruction_at env 0 ≡ Some insn → Leads env frames (first_frame env) 0
  begins insn e = by_map (frame_at maps 0) (safe 0 insn e).assigned (safe 0 insn e).merges
    where
      by_map : (o : Option Frame) → IsAssignedBy env frames 0 o → Merges env frames 0 o → Leads env frames (first_frame env) 0
      by_map None assigned merges = record { insn = insn; stands = e; goes = inl (assigned (first_frame env) (inl (refl, refl))) }
      by_map (Some map) assigned merges =
          record {
            insn = insn;
            stands = e;
            goes = inr (subst (λ (x : Frame). IsTrue (frame_flows env.world (first_frame env) x))
                (sym assigned) (merges (first_frame env) (inl (refl, refl))));
          }

  -- a handler that covers an instruction begins with the handler's frame
  pub record IsHandled (pc : ℕ) (insn : Instruction) (h : Handler) : Type 0 where
    pub type : FrameType
    pub caught : catch_type env h.catch_type ≡ Some type
    pub leads : Leads env frames (record (handler_frame env insn (frames pc)) { stack = type ∷ [] }) h.handler_pc

  pub handled : (pc : ℕ) (insn : Instruction) (h : Handler) → instruction_at env pc ≡ Some insn → Contains env.code.exception_table h
      → covers h pc ≡ true → IsHandled pc insn h
  handled pc insn h e there covering =
      by_type (catch_type env h.catch_type) refl
      (reached (covers h pc) (handles env maps (handler_frame env insn (frames pc)) h) covering
      (all_at (λ (h : Handler). not (covers h pc) || handles env maps (handler_frame env insn (frames pc)) h) env.code.exception_table h
      (safe pc insn e).handled there))
    where
      reached : (a b : Bool) → a ≡ true → (not a || b) ≡ true → b ≡ true
      reached true b e k = k
      reached false b e k = absurd (clash e)

      by_type : (o : Option FrameType) → catch_type env h.catch_type ≡ o
          → unwrap_or (option_map (λ (thrown : Frame). flows_into env thrown (frame_at maps h.handler_pc))
          (option_map (λ (type : FrameType). record (handler_frame env insn (frames pc)) { stack = type ∷ [] }) o)) false ≡ true
          → IsHandled pc insn h
      by_type None k f = absurd (clash f)
      by_type (Some type) k f = record {
        type = type;
        caught = k;
        leads = into_map
            (record (handler_frame env insn (frames pc)) { stack = type ∷ [] }) h.handler_pc (frame_at maps h.handler_pc) refl f;
      }
