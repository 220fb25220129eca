-- Verdicts on classes whose one method has a stack map.
use Rattle.std.proofs.Common.{◌≡◌, ℕ, zero, suc, true, false, List, [], ◌∷◌, Some, None, refl, sym, ap, subst, inl, inr, arith, pos, codes}
use Rattle.std.specs.Prelude.{IsTrue}
use Rattle.std.proofs.lemmas.List.Elements.{All-cons}
use Rattle.jv_class_structure.specs.Parts.{CodeSeen}
use Rattle.jv_stackmap.specs.declared.item.Item.TheVariants as items
use Rattle.jv_stackmap.specs.declared.form.Form.TheVariants.{Same, SameItem, Full}
use Rattle.jv_stackmap.specs.declared.verification.VerificationTypeOf.TheVariants as types
use Rattle.jv_stackmap.specs.Frames.{Frame, PlacedFrame, map_frame}
use Rattle.jv_code.specs.declared.insn.Insn.TheVariants as insns
use Rattle.jv_code.specs.declared.kinds.Invocation.TheVariants as invocations
use Rattle.jv_code.specs.declared.kinds.JumpForm.TheVariants as jump
use Rattle.jv_code.specs.declared.kinds.LocalForm.TheVariants as local
use Rattle.jv_code.specs.declared.kinds.ValueKind.TheVariants as kinds
use Rattle.jv_code.specs.Handlers.{HandlerFits}
use Rattle.jv_code.specs.Insns.{Instruction}
use Rattle.jv_code.specs.Places.{IsStart, StandsInList, StartsApart}
use Rattle.jv_code.specs.Successors.{falls_through}
use Rattle.jv_code.proofs.Sizes.{some_bytes}
use Rattle.jv_meaning_world.specs.FrameFlow.{frame_flows}
use Rattle.jv_meaning_world.specs.Verdicts.{declared_by}
use Rattle.jv_meaning_typing.specs.Rows.LinkingSamples.{world_with, guest}
use Rattle.jv_meaning_typing.specs.declared.verdict.VerifyRule.TheVariants as rules
use Rattle.jv_meaning_typing.specs.declared.verdict.Verdict.TheVariants as verdicts
use Rattle.jv_meaning_typing.specs.Environment.{Environment, IsEnvironment, instruction_at, offset_behind}
use Rattle.jv_meaning_typing.specs.Named.{throwable_type}
use Rattle.jv_meaning_typing.specs.Typing.{HandlersKeepRules, AreFrames, FrameStands, Assignment, FallsInto, IsTypeSafe, IsTypingBelow, first_frame}
use Rattle.jv_meaning_typing.specs.Rows.Samples.{frame, flagged}
use Rattle.jv_meaning_typing.specs.Rows.Verdicts.{coded, mapped, constructing, constructor, covered_code, covered_super, HasVerdict, broken, MapVerdictRows, SuperVerdictRows}
use Rattle.jv_meaning_typing.proofs.Falling.{assigned, merged, below_one}
use Rattle.jv_meaning_typing.proofs.Verdicts.{no_arguments, env_of, empty, always, none_in, no_handlers, first_fault, typed, unsome_insn, behind_first}

abbrev placed_at : ℕ → Frame → PlacedFrame
placed_at offset frame = record { offset = offset; frame = frame }

-- ---- goto 0

abbrev loop_env : Environment
loop_env = env_of (codes "()V") no_arguments (coded [] (Some (0 ∷ 1 ∷ 0 ∷ [])) (insns.Goto (pos 0) jump.Half ∷ [])) (insns.Goto (pos 0) jump.Half ∷ [])

loop_is : IsEnvironment loop_env
loop_is = record { descriptor = refl; code = refl; instructions = record { spelled = refl; fit = refl; some = omega arith; few = omega arith } }

loop_maps : AreFrames loop_env (placed_at 0 empty ∷ [])
loop_maps = record {
  spelled = record { forms = Same 0 ∷ []; spelled = refl; counted = omega arith; fit = refl; entries = map_frame 0 [] [] ∷ []; made = refl; expand = refl };
  stand = All-cons (FrameStands loop_env) (placed_at 0 empty) [] (record { at = refl; locals = refl; stack = refl }) (none_in _);
}

-- what falls into 0 is the initial frame
first_falls : (env : Environment) (f : Assignment) (x : Frame) → FallsInto env f 0 x → x ≡ first_frame env
first_falls env f x (inl h) = h.1
first_falls env f x (inr h) = absurd (omega (arith, h.next, some_bytes h.insn))

loop_safe : IsTypeSafe loop_env (placed_at 0 empty ∷ []) always 0 (insns.Goto (pos 0) jump.Half)
loop_safe = record {
  assigned = refl;
  merges = λ (x : Frame) (h : FallsInto loop_env always 0 x). subst (λ (y : Frame). IsTrue (frame_flows loop_env.world y empty)) (sym (first_falls loop_env always x h)) refl;
  handled = refl;
  leaves = refl;
  targets = refl;
}

loop_below : IsTypingBelow loop_env (placed_at 0 empty ∷ []) 3 always
loop_below zero insn at lt = subst (λ (i : Instruction). IsTypeSafe loop_env (placed_at 0 empty ∷ []) always 0 i) (unsome_insn (insns.Goto (pos 0) jump.Half) insn at) loop_safe
loop_below (suc zero) insn at lt = let found : None ≡ Some insn = at in absurd cc
loop_below (suc (suc zero)) insn at lt = let found : None ≡ Some insn = at in absurd cc
loop_below (suc (suc (suc n))) insn at lt = absurd (omega (arith, lt))

loop : HasVerdict (mapped (0 ∷ 1 ∷ 0 ∷ []) (insns.Goto (pos 0) jump.Half ∷ [])) verdicts.Accepted
loop = typed (codes "()V") (coded [] (Some (0 ∷ 1 ∷ 0 ∷ [])) (insns.Goto (pos 0) jump.Half ∷ [])) (record {
  env = loop_env;
  of = (refl, refl);
  is = loop_is;
  maps = placed_at 0 empty ∷ [];
  frames = always;
  typing = record { arguments = omega arith; handlers = no_handlers _ refl; stack_map = loop_maps; below = loop_below; end = refl };
})

-- ---- return, return

abbrev two_env : Environment
two_env = env_of (codes "()V") no_arguments (coded [] (Some (0 ∷ 1 ∷ 1 ∷ [])) (insns.Return ∷ insns.Return ∷ [])) (insns.Return ∷ insns.Return ∷ [])

two_is : IsEnvironment two_env
two_is = record { descriptor = refl; code = refl; instructions = record { spelled = refl; fit = refl; some = omega arith; few = omega arith } }

two_maps : AreFrames two_env (placed_at 1 empty ∷ [])
two_maps = record {
  spelled = record { forms = Same 1 ∷ []; spelled = refl; counted = omega arith; fit = refl; entries = map_frame 1 [] [] ∷ []; made = refl; expand = refl };
  stand = All-cons (FrameStands two_env) (placed_at 1 empty) [] (record { at = refl; locals = refl; stack = refl }) (none_in _);
}

behind_return : (n : ℕ) (i : Instruction) → instruction_at two_env n ≡ Some i → 1 ≡ offset_behind n i → IsTrue (falls_through i) → ⊥
behind_return zero i at e h = let stops : false ≡ falls_through i = ap (λ (x : Instruction). falls_through x) (unsome_insn insns.Return i at) in cc
behind_return (suc n) i at e h = omega (arith, e, some_bytes i)

nothing_falls : (x : Frame) → FallsInto two_env always 1 x → ⊥
nothing_falls x (inl h) = let one_is : 1 ≡ 0 = h.0 in omega (arith, one_is)
nothing_falls x (inr h) = behind_return h.before h.insn h.starts h.next h.goes_on

module _ (stands : StandsInList) (apart : StartsApart) where
  two_below : IsTypingBelow two_env (placed_at 1 empty ∷ []) 2 always
  two_below zero insn at lt =
      subst (λ (i : Instruction). IsTypeSafe two_env (placed_at 1 empty ∷ []) always 0 i) (unsome_insn insns.Return insn at)
      (record {
        assigned = assigned stands apart two_env two_is always 0 (inl (refl, refl));
        merges = merged stands apart two_env two_is always 0 (inl (refl, refl));
        handled = refl;
        leaves = refl;
        targets = refl;
      })
  two_below (suc zero) insn at lt =
      subst (λ (i : Instruction). IsTypeSafe two_env (placed_at 1 empty ∷ []) always 1 i) (unsome_insn insns.Return insn at)
      (record { assigned = refl; merges = λ (x : Frame) (h : FallsInto two_env always 1 x). absurd (nothing_falls x h); handled = refl; leaves = refl; targets = refl })
  two_below (suc (suc n)) insn at lt = absurd (omega (arith, lt))

  unreached : HasVerdict (mapped (0 ∷ 1 ∷ 1 ∷ []) (insns.Return ∷ insns.Return ∷ [])) verdicts.Accepted
  unreached = typed (codes "()V") (coded [] (Some (0 ∷ 1 ∷ 1 ∷ [])) (insns.Return ∷ insns.Return ∷ [])) (record {
    env = two_env;
    of = (refl, refl);
    is = two_is;
    maps = placed_at 1 empty ∷ [];
    frames = always;
    typing = record { arguments = omega arith; handlers = no_handlers _ refl; stack_map = two_maps; below = two_below; end = refl };
  })

-- ---- nop, return, with an int in the map

abbrev unlike_code : CodeSeen
unlike_code = coded [] (Some (0 ∷ 1 ∷ 65 ∷ 1 ∷ [])) (insns.Nop ∷ insns.Return ∷ [])

abbrev unlike_env : Environment
unlike_env = env_of (codes "()V") no_arguments unlike_code (insns.Nop ∷ insns.Return ∷ [])

unlike_is : IsEnvironment unlike_env
unlike_is = record { descriptor = refl; code = refl; instructions = record { spelled = refl; fit = refl; some = omega arith; few = omega arith } }

abbrev int_map : List PlacedFrame
int_map = placed_at 1 (frame [] (types.Int ∷ [])) ∷ []

unlike_maps : AreFrames unlike_env int_map
unlike_maps = record {
  spelled = record { forms = SameItem 1 items.Integer ∷ []; spelled = refl; counted = omega arith; fit = refl; entries = map_frame 1 [] (types.Int ∷ []) ∷ []; made = refl; expand = refl };
  stand = All-cons (FrameStands unlike_env) (placed_at 1 (frame [] (types.Int ∷ []))) [] (record { at = refl; locals = refl; stack = refl }) (none_in _);
}

abbrev unlike_frames : Assignment
unlike_frames = behind_first empty (frame [] (types.Int ∷ []))

nop_falls : FallsInto unlike_env unlike_frames 1 empty
nop_falls = inr (record { before = 0; insn = insns.Nop; starts = refl; next = refl; goes_on = refl; left = refl })

module _ (stands : StandsInList) (apart : StartsApart) where
  unlike : HasVerdict (mapped (0 ∷ 1 ∷ 65 ∷ 1 ∷ []) (insns.Nop ∷ insns.Return ∷ [])) (broken 1 rules.Merge)
  unlike = first_fault (codes "()V") unlike_code 1 rules.Merge (record {
    env = unlike_env;
    world_is = refl;
    site_is = refl;
    code = record { is = unlike_is; arguments = omega arith };
    handlers = no_handlers _ refl;
    maps = int_map;
    frames = unlike_maps;
    holds = record {
      frames = unlike_frames;
      below = below_one stands apart unlike_env unlike_is int_map unlike_frames insns.Nop refl (record {
        assigned = assigned stands apart unlike_env unlike_is unlike_frames 0 (inl (refl, refl));
        merges = merged stands apart unlike_env unlike_is unlike_frames 0 (inl (refl, refl));
        handled = refl;
        leaves = refl;
        targets = refl;
      });
      insn = insns.Return;
      starts = refl;
      assigned = refl;
      breaks = λ (h : (x : Frame) → FallsInto unlike_env unlike_frames 1 x → IsTrue (frame_flows unlike_env.world x (frame [] (types.Int ∷ [])))).
          let flows : false ≡ true = h empty nop_falls in absurd cc;
    };
  })

  pub map_verdict_rows : MapVerdictRows
  map_verdict_rows = record { loop = loop; unreached = unreached stands apart; unlike = unlike }

-- ---- a constructor

abbrev super_env : Environment
super_env = record {
  world = world_with (constructing ∷ []);
  site = declared_by (guest constructing) constructor;
  descriptor = no_arguments;
  code = covered_code;
  instructions = covered_super;
}

super_is : IsEnvironment super_env
super_is = record { descriptor = refl; code = refl; instructions = record { spelled = refl; fit = refl; some = omega arith; few = omega arith } }

abbrev this_alone : Frame
this_alone = flagged (types.UninitializedThis ∷ []) []

abbrev this_on_stack : Frame
this_on_stack = flagged (types.UninitializedThis ∷ []) (types.UninitializedThis ∷ [])

abbrev super_frames : Assignment
super_frames = behind_first this_alone this_on_stack

abbrev super_maps : List PlacedFrame
super_maps = placed_at 5 (flagged (types.UninitializedThis ∷ []) (throwable_type ∷ [])) ∷ []

super_maps_are : AreFrames super_env super_maps
super_maps_are = record {
  spelled = record {
    forms = Full 5 (items.UninitializedThis ∷ []) (items.Object 8 ∷ []) ∷ [];
    spelled = refl;
    counted = omega arith;
    fit = refl;
    entries = map_frame 5 (types.UninitializedThis ∷ []) (throwable_type ∷ []) ∷ [];
    made = refl;
    expand = refl;
  };
  stand = All-cons (FrameStands super_env) (placed_at 5 (flagged (types.UninitializedThis ∷ []) (throwable_type ∷ []))) [] (record { at = refl; locals = refl; stack = refl }) (none_in _);
}

abbrev load_this : Instruction
load_this = insns.Load kinds.Reference 0 local.Opcode

abbrev call_super : Instruction
call_super = insns.Invoke invocations.Special 6

start_at_0 : IsStart covered_code.code 0
start_at_0 = (load_this, record { before = []; after = call_super ∷ insns.Return ∷ insns.Throw ∷ []; code = super_is.instructions; place = refl })

start_at_4 : IsStart covered_code.code 4
start_at_4 = (insns.Return, record { before = load_this ∷ call_super ∷ []; after = insns.Throw ∷ []; code = super_is.instructions; place = refl })

start_at_5 : IsStart covered_code.code 5
start_at_5 = (insns.Throw, record { before = load_this ∷ call_super ∷ insns.Return ∷ []; after = []; code = super_is.instructions; place = refl })

super_handlers : HandlersKeepRules super_env
super_handlers = record {
  fit = All-cons (HandlerFits covered_code.code) (record { start_pc = 0; end_pc = 4; handler_pc = 5; catch_type = 0 }) []
      (record { covers = omega arith; start = start_at_0; end = inl start_at_4; target = start_at_5 }) (none_in _);
  catch = refl;
}

load_falls : FallsInto super_env super_frames 1 this_on_stack
load_falls = inr (record { before = 0; insn = load_this; starts = refl; next = refl; goes_on = refl; left = refl })

module _ (stands : StandsInList) (apart : StartsApart) where
  handler_over_super : HasVerdict constructing (broken 1 rules.CoveredHandler)
  handler_over_super = record {
    method = constructor;
    at = refl;
    has_code = refl;
    before = none_in _;
    breaks = record {
      env = super_env;
      world_is = refl;
      site_is = refl;
      code = record { is = super_is; arguments = omega arith };
      handlers = super_handlers;
      maps = super_maps;
      frames = super_maps_are;
      holds = record {
        frames = super_frames;
        below = below_one stands apart super_env super_is super_maps super_frames load_this refl (record {
          assigned = assigned stands apart super_env super_is super_frames 0 (inl (refl, refl));
          merges = merged stands apart super_env super_is super_frames 0 (inl (refl, refl));
          handled = refl;
          leaves = refl;
          targets = refl;
        });
        insn = call_super;
        starts = refl;
        assigned = assigned stands apart super_env super_is super_frames 1 load_falls;
        breaks = (merged stands apart super_env super_is super_frames 1 load_falls, refl);
      };
    };
  }

  pub super_verdict_rows : SuperVerdictRows
  super_verdict_rows = record { handler_over_super = handler_over_super }
