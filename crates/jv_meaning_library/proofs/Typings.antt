-- A typing of a method (JVMS 4.10.1.6) in a world is one in a world with the same answers, and a rule that is broken is broken there too.
use Rattle.std.proofs.Common.{◌≡◌, ℕ, zero, suc, ◌≤◌, ◌<◌, Bool, true, false, ◌&&◌, ◌||◌, not, List, [], ◌∷◌, length, Option, Some, None, refl, sym, ap, ◌∙◌, subst, ◌⊎◌, inl, inr, arith}
use Rattle.std.specs.Prelude.{IfSome, IsTrue, is_some, unwrap_or, if◌then◌else◌, ◌==◌}
use Rattle.std.specs.List.{AllByRecursion, find, list_all}
use Rattle.std.specs.Option.{option_map}
use Rattle.std.proofs.lemmas.Bool.{cases_lt}
use Rattle.std.proofs.lemmas.List.Elements.{All-weaker}
use Rattle.jv_format.specs.Format.{◌>>=◌}
use Rattle.jv_format.specs.declared.handlers.Handler.{Handler}
use Rattle.jv_pool.specs.Constants.{class_name_at}
use Rattle.jv_stackmap.specs.Types.{FrameType, reference_type}
use Rattle.jv_stackmap.specs.Frames.{Frame, PlacedFrame}
use Rattle.jv_code.specs.Insns.{Instruction}
use Rattle.jv_code.specs.Successors.{jump_targets}
use Rattle.jv_code.proofs.Sizes.{some_bytes}
use Rattle.jv_meaning_world.specs.Flow.{flows}
use Rattle.jv_meaning_world.specs.World.{World}
use Rattle.jv_meaning_typing.specs.Environment.{Environment, current_class, offset_behind, instruction_at}
use Rattle.jv_meaning_typing.specs.FrameChanges.{with_stack}
use Rattle.jv_meaning_typing.specs.Named.{throwable_type}
use Rattle.jv_meaning_typing.specs.Rule.{rule, handler_frame}
use Rattle.jv_meaning_typing.specs.declared.verdict.VerifyRule.{VerifyRule}
use Rattle.jv_meaning_typing.specs.declared.verdict.VerifyRule.TheVariants as rules
use Rattle.jv_meaning_typing.specs.Typing.{catch_type, catches_throwable, HandlersKeepRules, FrameStands, AreFrames, frame_at, Assignment, FallsInto, IsAssignedBy, Merges, covers, flows_into, with_thrown, handles, handlers_hold, instruction_holds, target_holds, targets_hold, IsTypeSafe, IsTypingBelow, IsTyping}
use Rattle.jv_meaning_typing.specs.Judgement.{BreaksAt, BreaksFirst, GoesOnBehind}
use Rattle.jv_meaning_library.proofs.Answers.{KnownType, Answers}
use Rattle.jv_meaning_library.proofs.Steps.{SameIf, known_of, each_found}
use Rattle.jv_meaning_library.proofs.Frames.{KnownFrame, frame_same}
use Rattle.jv_meaning_library.proofs.Operands.{if_bound, if_mapped, KnownText, reference_known}
use Rattle.jv_meaning_library.proofs.Rules.{in_world, KnownEnvironment, rule_same, handler_known}
use Rattle.jv_meaning_library.proofs.Maps.{KnownPlaced, first_known, maps_known}

all_equal : {X : Type 0} (one other : X → Bool) → ((x : X) → one x ≡ other x) → (xs : List X) → list_all one xs ≡ list_all other xs
all_equal one other same [] = refl
all_equal one other same (x ∷ xs) = ap (λ b. b && list_all one xs) (same x) ∙ ap (λ b. other x && b) (all_equal one other same xs)

-- the same method there
pub environment_too : (known : List ℕ → Bool) (w : World) (env : Environment) → KnownEnvironment known env → KnownEnvironment known (in_world w env)
environment_too known w env k = record { names = k.names; descriptor = k.descriptor; object = k.object; string = k.string; throwable = k.throwable }

pub stands_too : (w : World) (env : Environment) (f : PlacedFrame) → FrameStands env f → FrameStands (in_world w env) f
stands_too w env f h = record { at = h.at; locals = h.locals; stack = h.stack }

pub frames_too : (w : World) (env : Environment) (maps : List PlacedFrame) → AreFrames env maps → AreFrames (in_world w env) maps
frames_too w env maps h =
    record { spelled = h.spelled; stand = All-weaker (FrameStands env) (FrameStands (in_world w env)) (stands_too w env) maps h.stand }

-- ---- handlers

module _ (known : List ℕ → Bool) (w : World) (env : Environment) (answers : Answers known env.world w env.site.by) (k : KnownEnvironment known env) where
  caught_known : (index : ℕ) → IfSome (catch_type env index) (KnownType known)
  caught_known index = by_test (index == 0)
    where
      by_test : (b : Bool) → IfSome (if b then Some throwable_type else class_name_at (current_class env).constant_pool index >>= reference_type) (KnownType known)
      by_test true = k.throwable
      by_test false =
          if_bound (KnownText known) (KnownType known) (class_name_at (current_class env).constant_pool index) reference_type (k.names.texts index) (reference_known known)

  throwable_same : (handler : Handler) → catches_throwable env handler ≡ catches_throwable (in_world w env) handler
  throwable_same handler = by_type (catch_type env handler.catch_type) (caught_known handler.catch_type)
    where
      by_type : (o : Option FrameType) → IfSome o (KnownType known)
          → unwrap_or (option_map (λ type. flows env.world type throwable_type) o) false ≡ unwrap_or (option_map (λ type. flows w type throwable_type) o) false
      by_type None h = refl
      by_type (Some type) h = answers.flow type throwable_type h k.throwable

  pub handlers_too : HandlersKeepRules env → HandlersKeepRules (in_world w env)
  handlers_too h = record {
    fit = h.fit;
    catch = subst IsTrue (all_equal (catches_throwable env) (catches_throwable (in_world w env)) throwable_same env.code.exception_table) h.catch;
  }

  -- ---- frames at offsets

  module _ (maps : List PlacedFrame) (placed : AllByRecursion (KnownPlaced known) maps) where
    at_known : (pc : ℕ) → IfSome (frame_at maps pc) (KnownFrame known)
    at_known pc = if_mapped (KnownPlaced known) (KnownFrame known) (find (λ f. f.offset == pc) maps) (λ f. f.frame) (each_found (KnownPlaced known) (λ f. f.offset == pc) maps placed) (λ f h. h)

    into_same : (frame : Frame) (o : Option Frame) → KnownFrame known frame → IfSome o (KnownFrame known) → flows_into env frame o ≡ flows_into (in_world w env) frame o
    into_same frame None f h = refl
    into_same frame (Some map) f h = frame_same known env.world w answers.flow frame map f h

    thrown_known : (handler : Handler) (frame : Frame) → KnownFrame known frame → IfSome (with_thrown env handler frame) (KnownFrame known)
    thrown_known handler frame f =
        if_mapped (KnownType known) (KnownFrame known) (catch_type env handler.catch_type) (λ type. with_stack frame (type ∷ [])) (caught_known handler.catch_type)
        (λ type t. record { locals = f.locals; stack = (t, tt) })

    handles_same : (frame : Frame) → KnownFrame known frame → (handler : Handler) → handles env maps frame handler ≡ handles (in_world w env) maps frame handler
    handles_same frame f handler = by_thrown (with_thrown env handler frame) (thrown_known handler frame f)
      where
        by_thrown : (o : Option Frame) → IfSome o (KnownFrame known)
            → unwrap_or (option_map (λ thrown. flows_into env thrown (frame_at maps handler.handler_pc)) o) false
            ≡ unwrap_or (option_map (λ thrown. flows_into (in_world w env) thrown (frame_at maps handler.handler_pc)) o) false
        by_thrown None h = refl
        by_thrown (Some thrown) h = into_same thrown (frame_at maps handler.handler_pc) h (at_known handler.handler_pc)

    handlers_same : (pc : ℕ) (insn : Instruction) (frame : Frame) → KnownFrame known frame
        → handlers_hold env maps pc insn frame ≡ handlers_hold (in_world w env) maps pc insn frame
    handlers_same pc insn frame f =
        all_equal (λ h. not (covers h pc) || handles env maps (handler_frame env insn frame) h) (λ h. not (covers h pc) || handles (in_world w env) maps (handler_frame env insn frame) h)
        (λ h. ap (λ b. not (covers h pc) || b) (handles_same (handler_frame env insn frame) (handler_known known w env answers k insn frame f) h)) env.code.exception_table

    leaves_same : (pc : ℕ) (insn : Instruction) (frame : Frame) → KnownFrame known frame → instruction_holds env pc insn frame ≡ instruction_holds (in_world w env) pc insn frame
    leaves_same pc insn frame f = ap is_some (rule_same known w env answers k pc insn frame f).same

    target_same : (left : Frame) → KnownFrame known left → (o : Option ℕ) → target_holds env maps left o ≡ target_holds (in_world w env) maps left o
    target_same left f None = refl
    target_same left f (Some target) = into_same left (frame_at maps target) f (at_known target)

    targets_same : (pc : ℕ) (insn : Instruction) (frame : Frame) → KnownFrame known frame → targets_hold env maps pc insn frame ≡ targets_hold (in_world w env) maps pc insn frame
    targets_same pc insn frame f =
        by_left (rule env pc insn frame) left.has
        ∙ ap (λ o. unwrap_or (option_map (λ left. list_all (target_holds (in_world w env) maps left) (jump_targets pc insn)) o) false) left.same
      where
        left : SameIf (KnownFrame known) (rule env pc insn frame) (rule (in_world w env) pc insn frame)
        left = rule_same known w env answers k pc insn frame f

        by_left : (o : Option Frame) → IfSome o (KnownFrame known)
            → unwrap_or (option_map (λ left. list_all (target_holds env maps left) (jump_targets pc insn)) o) false
            ≡ unwrap_or (option_map (λ left. list_all (target_holds (in_world w env) maps left) (jump_targets pc insn)) o) false
        by_left None h = refl
        by_left (Some x) h = all_equal (target_holds env maps x) (target_holds (in_world w env) maps x) (target_same x h) (jump_targets pc insn)

    -- ---- what falls into an offset

    abbrev pub KnownBelow : Assignment → ℕ → Type 0
    KnownBelow frames pc = (n : ℕ) (insn : Instruction) → instruction_at env n ≡ Some insn → n < pc → KnownFrame known (frames n)

    came_before : (pc n : ℕ) (insn : Instruction) → pc ≡ offset_behind n insn → n < pc
    came_before pc n insn e = omega (arith, e, some_bytes insn)

    falls_known : (frames : Assignment) (pc : ℕ) (frame : Frame) → KnownBelow frames pc → FallsInto env frames pc frame → KnownFrame known frame
    falls_known frames pc frame below (inl h) = subst (KnownFrame known) (sym h.1) (first_known known env k)
    falls_known frames pc frame below (inr g) =
        known_of (KnownFrame known) (rule env g.before g.insn (frames g.before)) (rule (in_world w env) g.before g.insn (frames g.before)) frame
        (rule_same known w env answers k g.before g.insn (frames g.before) (below g.before g.insn g.starts (came_before pc g.before g.insn g.next))) g.left

    falls_too : (frames : Assignment) (pc : ℕ) (frame : Frame) → KnownBelow frames pc → FallsInto env frames pc frame → FallsInto (in_world w env) frames pc frame
    falls_too frames pc frame below (inl h) = inl h
    falls_too frames pc frame below (inr g) =
        inr (record {
          before = g.before;
          insn = g.insn;
          starts = g.starts;
          next = g.next;
          goes_on = g.goes_on;
          left = sym (rule_same known w env answers k g.before g.insn (frames g.before) (below g.before g.insn g.starts (came_before pc g.before g.insn g.next))).same ∙ g.left;
        })

    falls_back : (frames : Assignment) (pc : ℕ) (frame : Frame) → KnownBelow frames pc → FallsInto (in_world w env) frames pc frame → FallsInto env frames pc frame
    falls_back frames pc frame below (inl h) = inl h
    falls_back frames pc frame below (inr g) =
        inr (record {
          before = g.before;
          insn = g.insn;
          starts = g.starts;
          next = g.next;
          goes_on = g.goes_on;
          left = (rule_same known w env answers k g.before g.insn (frames g.before) (below g.before g.insn g.starts (came_before pc g.before g.insn g.next))).same ∙ g.left;
        })

    -- ---- so the frames of a typing are of known types

    here_known : (frames : Assignment) (pc : ℕ) → KnownBelow frames pc → IsAssignedBy env frames pc (frame_at maps pc) → Merges env frames pc (frame_at maps pc)
        → KnownFrame known (frames pc)
    here_known frames pc below a m = by_map (frame_at maps pc) (at_known pc) a m
      where
        by_map : (o : Option Frame) → IfSome o (KnownFrame known) → IsAssignedBy env frames pc o → Merges env frames pc o → KnownFrame known (frames pc)
        by_map None h a m = subst (KnownFrame known) (sym (a m.0 m.1)) (falls_known frames pc m.0 below m.1)
        by_map (Some map) h a m = subst (KnownFrame known) (sym a) h

    below_known : (frames : Assignment) (end : ℕ) → IsTypingBelow env maps end frames → (pc : ℕ) → pc ≤ end → KnownBelow frames pc
    below_known frames end typed zero le n insn at lt = absurd (omega (arith, lt))
    below_known frames end typed (suc pc) le n insn at lt =
        by_order (λ m i e l. below_known frames end typed pc (omega (arith, le)) m i e l) (cases_lt n pc)
      where
        by_order : KnownBelow frames pc → (n < pc) ⊎ (pc ≤ n) → KnownFrame known (frames n)
        by_order again (inl less) = again n insn at less
        by_order again (inr more) =
            let safe = typed n insn at (omega (arith, le, lt)) in
            here_known frames n (λ m i e l. again m i e (omega (arith, l, lt))) safe.assigned safe.merges

    -- ---- the rules at an offset

    assigned_too : (frames : Assignment) (pc : ℕ) → KnownBelow frames pc → (o : Option Frame) → IsAssignedBy env frames pc o → IsAssignedBy (in_world w env) frames pc o
    assigned_too frames pc below (Some map) a = a
    assigned_too frames pc below None a = λ frame h. a frame (falls_back frames pc frame below h)

    merges_by : (frames : Assignment) (pc : ℕ) → KnownBelow frames pc → (o : Option Frame) → IfSome o (KnownFrame known) → Merges env frames pc o → Merges (in_world w env) frames pc o
    merges_by frames pc below (Some map) h m = λ frame j.
        let back = falls_back frames pc frame below j in
        subst IsTrue (frame_same known env.world w answers.flow frame map (falls_known frames pc frame below back) h) (m frame back)
    merges_by frames pc below None h m = (m.0, falls_too frames pc m.0 below m.1)

    merges_from : (frames : Assignment) (pc : ℕ) → KnownBelow frames pc → (o : Option Frame) → IfSome o (KnownFrame known) → Merges (in_world w env) frames pc o → Merges env frames pc o
    merges_from frames pc below (Some map) h m = λ frame j.
        subst IsTrue (sym (frame_same known env.world w answers.flow frame map (falls_known frames pc frame below j) h)) (m frame (falls_too frames pc frame below j))
    merges_from frames pc below None h m = (m.0, falls_back frames pc m.0 below m.1)

    merges_too : (frames : Assignment) (pc : ℕ) → KnownBelow frames pc → Merges env frames pc (frame_at maps pc) → Merges (in_world w env) frames pc (frame_at maps pc)
    merges_too frames pc below m = merges_by frames pc below (frame_at maps pc) (at_known pc) m

    safe_too : (frames : Assignment) (pc : ℕ) (insn : Instruction) → KnownBelow frames pc → IsTypeSafe env maps frames pc insn → IsTypeSafe (in_world w env) maps frames pc insn
    safe_too frames pc insn below s =
        let f = here_known frames pc below s.assigned s.merges in
        record {
          assigned = assigned_too frames pc below (frame_at maps pc) s.assigned;
          merges = merges_too frames pc below s.merges;
          handled = subst IsTrue (handlers_same pc insn (frames pc) f) s.handled;
          leaves = subst IsTrue (leaves_same pc insn (frames pc) f) s.leaves;
          targets = subst IsTrue (targets_same pc insn (frames pc) f) s.targets;
        }

    pub below_too : (frames : Assignment) (end : ℕ) → IsTypingBelow env maps end frames → IsTypingBelow (in_world w env) maps end frames
    below_too frames end typed pc insn at lt = safe_too frames pc insn (below_known frames end typed pc (omega (arith, lt))) (typed pc insn at lt)

    -- ---- rules that are broken

    breaks_too : (frames : Assignment) (pc : ℕ) (insn : Instruction) (broken : VerifyRule) → KnownBelow frames pc → IsAssignedBy env frames pc (frame_at maps pc)
        → BreaksAt env maps frames pc insn broken → BreaksAt (in_world w env) maps frames pc insn broken
    breaks_too frames pc insn rules.Merge below a h = λ m. h (merges_from frames pc below (frame_at maps pc) (at_known pc) m)
    breaks_too frames pc insn rules.CoveredHandler below a h =
        let f = here_known frames pc below a h.0 in
        (merges_too frames pc below h.0, subst (λ b. IsTrue (not b)) (handlers_same pc insn (frames pc) f) h.1)
    breaks_too frames pc insn rules.Instruction below a h =
        let f = here_known frames pc below a h.0 in (
          merges_too frames pc below h.0,
          subst IsTrue (handlers_same pc insn (frames pc) f) h.1,
          subst (λ b. IsTrue (not b)) (leaves_same pc insn (frames pc) f) h.2,
        )
    breaks_too frames pc insn rules.BranchTarget below a h =
        let f = here_known frames pc below a h.0 in (
          merges_too frames pc below h.0,
          subst IsTrue (handlers_same pc insn (frames pc) f) h.1,
          subst IsTrue (leaves_same pc insn (frames pc) f) h.2,
          subst (λ b. IsTrue (not b)) (targets_same pc insn (frames pc) f) h.3,
        )
    breaks_too frames pc insn rules.Code below a h = absurd h
    breaks_too frames pc insn rules.HandlerTable below a h = absurd h
    breaks_too frames pc insn rules.MapFrames below a h = absurd h
    breaks_too frames pc insn rules.EndOfCode below a h = absurd h

    pub first_too : (pc : ℕ) (broken : VerifyRule) → BreaksFirst env maps pc broken → BreaksFirst (in_world w env) maps pc broken
    first_too pc broken h =
        let below = below_known h.frames pc h.below pc (omega arith) in
        record {
          frames = h.frames;
          below = below_too h.frames pc h.below;
          insn = h.insn;
          starts = h.starts;
          assigned = assigned_too h.frames pc below (frame_at maps pc) h.assigned;
          breaks = breaks_too h.frames pc h.insn broken below h.assigned h.breaks;
        }

    pub behind_too : (pc : ℕ) → GoesOnBehind env maps pc → GoesOnBehind (in_world w env) maps pc
    behind_too pc h = record {
      frames = h.frames;
      below = below_too h.frames (length env.code.code) h.below;
      insn = h.insn;
      starts = h.starts;
      last = h.last;
      goes_on = h.goes_on;
    }

  -- ---- a typing

  pub frames_are_known : (maps : List PlacedFrame) → AreFrames env maps → AllByRecursion (KnownPlaced known) maps
  frames_are_known maps h = maps_known known env k env.code.stack_map_table maps h.spelled

  pub typing_too : (maps : List PlacedFrame) (frames : Assignment) → IsTyping env maps frames → IsTyping (in_world w env) maps frames
  typing_too maps frames t = record {
    arguments = t.arguments;
    handlers = handlers_too t.handlers;
    stack_map = frames_too w env maps t.stack_map;
    below = below_too maps (frames_are_known maps t.stack_map) frames (length env.code.code) t.below;
    end = t.end;
  }
