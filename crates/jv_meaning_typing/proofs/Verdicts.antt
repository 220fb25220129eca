-- Verdicts on classes with one method.
use Rattle.std.proofs.Common.{◌≡◌, ℕ, zero, suc, ◌<◌, ◌≤◌, false, List, [], ◌∷◌, Option, Some, None, IsSome, refl, sym, ap, subst, inl, inr, arith, pos, codes}
use Rattle.std.specs.Prelude.{IsTrue}
use Rattle.std.specs.List.{All, list_all}
use Rattle.std.proofs.lemmas.List.Elements.{All-cons}
use Rattle.jv_format.specs.declared.handlers.Handler.{Handler}
use Rattle.jv_code.specs.Handlers.{HandlerFits, HandlersFit}
use Rattle.jv_class_structure.specs.Parts.{CodeSeen}
use Rattle.jv_class.specs.Class.{Method}
use Rattle.jv_text.specs.Descriptor.{MethodDescriptor}
use Rattle.jv_text.specs.declared.descriptor.Base.TheVariants as bases
use Rattle.jv_text.specs.declared.descriptor.Element.TheVariants as elements
use Rattle.jv_stackmap.specs.declared.verification.VerificationTypeOf.TheVariants as types
use Rattle.jv_stackmap.specs.Bytes.{stack_map_bytes}
use Rattle.jv_stackmap.specs.Frames.{Frame, PlacedFrame}
use Rattle.jv_code.specs.Successors.{falls_through}
use Rattle.jv_code.specs.declared.insn.Insn.TheVariants as insns
use Rattle.jv_code.specs.declared.kinds.JumpForm.TheVariants as jump
use Rattle.jv_code.specs.declared.kinds.ValueKind.TheVariants as kinds
use Rattle.jv_code.specs.Insns.{Instruction}
use Rattle.jv_code.specs.Places.{IsStart, OneList, StandsInList, StartsApart}
use Rattle.jv_code.proofs.Sizes.{some_bytes}
use Rattle.jv_meaning_world.specs.World.{World}
use Rattle.jv_meaning_world.specs.Verdicts.{declared_by}
use Rattle.jv_meaning_typing.specs.Rows.LinkingSamples.{world_with, guest}
use Rattle.jv_meaning_typing.specs.Uses.{Site}
use Rattle.jv_meaning_typing.specs.declared.verdict.VerifyRule.{VerifyRule}
use Rattle.jv_meaning_typing.specs.declared.verdict.VerifyRule.TheVariants as rules
use Rattle.jv_meaning_typing.specs.declared.verdict.Verdict.TheVariants as verdicts
use Rattle.jv_meaning_typing.specs.Environment.{Environment, IsEnvironment, instruction_at, offset_behind}
use Rattle.jv_meaning_typing.specs.Rule.{rule}
use Rattle.jv_meaning_typing.specs.Typing.{argument_words, catches_throwable, HasFrames, FrameStands, HandlersKeepRules, AreFrames, Assignment, FallsInto, Merges, HasTyping}
use Rattle.jv_meaning_typing.specs.Judgement.{AreTyped, WithFrames, BreaksFirst, IsCodeOf, BreaksRule, IsFirstFault}
use Rattle.jv_meaning_typing.specs.Rows.Methods.{iconst}
use Rattle.jv_meaning_typing.specs.Rows.Samples.{frame}
use Rattle.jv_meaning_typing.specs.Rows.Verdicts.{coded, method_with, class_of, void, handling, handler, HasVerdict, broken, PlainVerdictRows}
use Rattle.jv_meaning_typing.proofs.Falling.{assigned, merged, safe, below_none, below_one}
use Rattle.jv_meaning_typing.proofs.OneFault.{one_environment}

-- ---- environments of these methods

abbrev pub no_arguments : MethodDescriptor
no_arguments = record { parameters = []; result = None }

abbrev pub env_of : List ℕ → MethodDescriptor → CodeSeen → List Instruction → Environment
env_of descriptor type code instructions = record {
  world = world_with (class_of descriptor code ∷ []);
  site = declared_by (guest (class_of descriptor code)) (method_with descriptor code);
  descriptor = type;
  code = code;
  instructions = instructions;
}

abbrev void_env : List Instruction → Environment
void_env instructions = env_of (codes "()V") no_arguments (coded [] None instructions) instructions

abbrev pub empty : Frame
empty = frame [] []

abbrev pub always : Assignment
always pc = empty

pub none_in : {X : Type 0} (P : X → Type 0) → All P []
none_in P = λ k d lt. absurd (omega (arith, lt))

pub no_handlers : (env : Environment) → env.code.exception_table ≡ [] → HandlersKeepRules env
no_handlers env e = record {
  fit = subst (λ (hs : List Handler). HandlersFit env.code.code hs) (sym e) (none_in (HandlerFits env.code.code));
  catch = subst (λ (hs : List Handler). IsTrue (list_all (catches_throwable env) hs)) (sym e) refl;
}

no_frames : (env : Environment) → env.code.stack_map_table ≡ None → AreFrames env []
no_frames env e = record {
  spelled = subst (λ (o : Option (List ℕ)). HasFrames env o []) (sym e) refl;
  stand = none_in (FrameStands env);
}

returns_is : IsEnvironment (void_env (insns.Return ∷ []))
returns_is = record { descriptor = refl; code = refl; instructions = record { spelled = refl; fit = refl; some = omega arith; few = omega arith } }

-- the first method is broken
pub first_fault : (descriptor : List ℕ) (code : CodeSeen) (offset : ℕ) (rule : VerifyRule)
    → BreaksRule (world_with (class_of descriptor code ∷ [])) (declared_by (guest (class_of descriptor code)) (method_with descriptor code)) offset rule
    → IsFirstFault (world_with (class_of descriptor code ∷ [])) (guest (class_of descriptor code)) (record { method = 0; offset = offset; rule = rule })
first_fault descriptor code offset rule breaks = record {
  method = method_with descriptor code;
  at = refl;
  has_code = refl;
  before = none_in _;
  breaks = breaks;
}

-- ---- the rows

abbrev world_of_row : List ℕ → CodeSeen → World
world_of_row descriptor code = world_with (class_of descriptor code ∷ [])

abbrev site_of_row : List ℕ → CodeSeen → Site
site_of_row descriptor code = declared_by (guest (class_of descriptor code)) (method_with descriptor code)

-- the one method has a typing
pub typed : (descriptor : List ℕ) (code : CodeSeen) → HasTyping (world_of_row descriptor code) (site_of_row descriptor code)
    → AreTyped (world_of_row descriptor code) (guest (class_of descriptor code)) (method_with descriptor code ∷ [])
typed descriptor code typing =
    All-cons (λ (m : Method). IsSome m.code → HasTyping (world_of_row descriptor code) (declared_by (guest (class_of descriptor code)) m))
    (method_with descriptor code) [] (λ (has : IsSome (method_with descriptor code).code). typing) (none_in _)

-- what is broken at an instruction of a method without handlers or maps
at_instruction : (descriptor : List ℕ) (type : MethodDescriptor) (instructions : List Instruction) (offset : ℕ) (rule : VerifyRule)
    → IsCodeOf (env_of descriptor type (coded [] None instructions) instructions)
    → BreaksFirst (env_of descriptor type (coded [] None instructions) instructions) [] offset rule
    → WithFrames (world_of_row descriptor (coded [] None instructions)) (site_of_row descriptor (coded [] None instructions)) (λ env maps. BreaksFirst env maps offset rule)
at_instruction descriptor type instructions offset rule code breaks = record {
  env = env_of descriptor type (coded [] None instructions) instructions;
  world_is = refl;
  site_is = refl;
  code = code;
  handlers = no_handlers _ refl;
  maps = [];
  frames = no_frames _ refl;
  holds = breaks;
}

return_here : IsStart (177 ∷ []) 0
return_here = (insns.Return, record { before = []; after = []; code = returns_is.instructions; place = refl })

abbrev int_and_void : MethodDescriptor
int_and_void = record { parameters = record { dimensions = 0; element = elements.Base bases.Int } ∷ []; result = None }

abbrev taking : Environment
taking = env_of (codes "(I)V") int_and_void (coded [] None (insns.Return ∷ [])) (insns.Return ∷ [])

abbrev gives_object : MethodDescriptor
gives_object = record { parameters = []; result = Some (record { dimensions = 0; element = elements.Class (codes "java/lang/Object") }) }

abbrev object_env : Environment
object_env = env_of (codes "()Ljava/lang/Object;") gives_object (coded [] None (iconst ∷ insns.ReturnValue kinds.Reference ∷ [])) (iconst ∷ insns.ReturnValue kinds.Reference ∷ [])

abbrev pub behind_first : Frame → Frame → Assignment
behind_first first other zero = first
behind_first first other (suc n) = other

pub unsome_insn : (x y : Instruction) → Some x ≡ Some y → x ≡ y
unsome_insn x y e = cc

module _ (lists : OneList) (stands : StandsInList) (apart : StartsApart) where
  accepted : HasVerdict (void (insns.Return ∷ [])) verdicts.Accepted
  accepted = typed (codes "()V") (coded [] None (insns.Return ∷ [])) (record {
    env = void_env (insns.Return ∷ []);
    of = (refl, refl);
    is = returns_is;
    maps = [];
    frames = always;
    typing = record {
      arguments = omega arith;
      handlers = no_handlers _ refl;
      stack_map = no_frames _ refl;
      below = below_one stands apart (void_env (insns.Return ∷ [])) returns_is [] always insns.Return refl
          (safe stands apart (void_env (insns.Return ∷ [])) returns_is always 0 insns.Return (inl (refl, refl)) refl refl refl);
      end = refl;
    };
  })

  -- a descriptor with an argument is of one type, and so no environment has none
  arguments : HasVerdict (class_of (codes "(I)V") (coded [] None (insns.Return ∷ []))) (broken 0 rules.Code)
  arguments = first_fault (codes "(I)V") (coded [] None (insns.Return ∷ [])) 0 rules.Code (refl, none)
    where
      one_word : argument_words taking ≤ 0 → ⊥
      one_word h = let words : 1 ≤ 0 = h in omega (arith, words)

      none : (env : Environment) → env.world ≡ world_of_row (codes "(I)V") (coded [] None (insns.Return ∷ [])) → env.site ≡ site_of_row (codes "(I)V")
          (coded [] None (insns.Return ∷ [])) → IsCodeOf env → ⊥
      none env w s code =
          one_word (subst (λ (e : Environment). argument_words e ≤ e.code.max_locals)
          (one_environment lists env taking w s code.is
          (record { descriptor = refl; code = refl; instructions = returns_is.instructions }))
          code.arguments)

  handlers : HasVerdict (handling (handler 0)) (broken 0 rules.HandlerTable)
  handlers = first_fault (codes "()V") (coded (handler 0 ∷ []) None (insns.Return ∷ [])) 0 rules.HandlerTable (
    refl,
    record {
      env = env_of (codes "()V") no_arguments (coded (handler 0 ∷ []) None (insns.Return ∷ [])) (insns.Return ∷ []);
      world_is = refl;
      site_is = refl;
      code = record { is = record { descriptor = refl; code = refl; instructions = returns_is.instructions }; arguments = omega arith };
      holds = none;
    },
  )
    where
      none : HandlersKeepRules (env_of (codes "()V") no_arguments (coded (handler 0 ∷ []) None (insns.Return ∷ [])) (insns.Return ∷ [])) → ⊥
      none h = let covers : 0 < 0 = (h.fit 0 (handler 0) (omega arith)).covers in omega (arith, covers)

  map : HasVerdict (class_of (codes "()V") (coded [] (Some []) (insns.Return ∷ []))) (broken 0 rules.MapFrames)
  map = first_fault (codes "()V") (coded [] (Some []) (insns.Return ∷ [])) 0 rules.MapFrames (
    refl,
    record {
      env = env_of (codes "()V") no_arguments (coded [] (Some []) (insns.Return ∷ [])) (insns.Return ∷ []);
      world_is = refl;
      site_is = refl;
      code = record { is = record { descriptor = refl; code = refl; instructions = returns_is.instructions }; arguments = omega arith };
      holds = (no_handlers _ refl, none);
    },
  )
    where
      none : (maps : List PlacedFrame) → AreFrames (env_of (codes "()V") no_arguments (coded [] (Some []) (insns.Return ∷ [])) (insns.Return ∷ [])) maps → ⊥
      none maps are = let spelled : [] ≡ stack_map_bytes are.spelled.forms = are.spelled.spelled in cc

  behind_return : HasVerdict (void (insns.Return ∷ insns.Return ∷ [])) (broken 1 rules.Merge)
  behind_return = first_fault (codes "()V") (coded [] None (insns.Return ∷ insns.Return ∷ [])) 1 rules.Merge
      (at_instruction (codes "()V") no_arguments (insns.Return ∷ insns.Return ∷ []) 1 rules.Merge (record { is = is; arguments = omega arith }) (record {
        frames = always;
        below = below_one stands apart (void_env (insns.Return ∷ insns.Return ∷ [])) is [] always insns.Return refl
            (safe stands apart (void_env (insns.Return ∷ insns.Return ∷ [])) is always 0 insns.Return (inl (refl, refl)) refl refl refl);
        insn = insns.Return;
        starts = refl;
        assigned = λ (x : Frame) (h : FallsInto (void_env (insns.Return ∷ insns.Return ∷ [])) always 1 x). absurd (nothing x h);
        breaks = λ (h : Merges (void_env (insns.Return ∷ insns.Return ∷ [])) always 1 None). nothing h.0 h.1;
      }))
    where
      is : IsEnvironment (void_env (insns.Return ∷ insns.Return ∷ []))
      is = record { descriptor = refl; code = refl; instructions = record { spelled = refl; fit = refl; some = omega arith; few = omega arith } }

      behind : (n : ℕ) (i : Instruction) → instruction_at (void_env (insns.Return ∷ insns.Return ∷ [])) n ≡ Some i → 1 ≡ offset_behind n i → IsTrue (falls_through i) → ⊥
      behind zero i at e h = let same : insns.Return ≡ i = unsome_insn insns.Return i at in let stops : false ≡ falls_through i = ap (λ (x : Instruction). falls_through x) same in cc
      behind (suc n) i at e h = omega (arith, e, some_bytes i)

      nothing : (x : Frame) → FallsInto (void_env (insns.Return ∷ insns.Return ∷ [])) always 1 x → ⊥
      nothing x (inl h) = let zero_is : 1 ≡ 0 = h.0 in omega (arith, zero_is)
      nothing x (inr h) = behind h.before h.insn h.starts h.next h.goes_on

  at_handler : HasVerdict (handling (handler 1)) (broken 0 rules.CoveredHandler)
  at_handler = first_fault (codes "()V") (coded (handler 1 ∷ []) None (insns.Return ∷ [])) 0 rules.CoveredHandler (record {
    env = env_of (codes "()V") no_arguments (coded (handler 1 ∷ []) None (insns.Return ∷ [])) (insns.Return ∷ []);
    world_is = refl;
    site_is = refl;
    code = record { is = is; arguments = omega arith };
    handlers = record { fit = All-cons (HandlerFits (177 ∷ [])) (handler 1) [] (record { covers = omega arith; start = return_here; end = inr refl; target = return_here }) (none_in _); catch = refl };
    maps = [];
    frames = no_frames _ refl;
    holds = record {
      frames = always;
      below = below_none stands apart (env_of (codes "()V") no_arguments (coded (handler 1 ∷ []) None (insns.Return ∷ [])) (insns.Return ∷ [])) is [] always;
      insn = insns.Return;
      starts = refl;
      assigned = assigned stands apart (env_of (codes "()V") no_arguments (coded (handler 1 ∷ []) None (insns.Return ∷ [])) (insns.Return ∷ [])) is always 0 (inl (refl, refl));
      breaks = (merged stands apart (env_of (codes "()V") no_arguments (coded (handler 1 ∷ []) None (insns.Return ∷ [])) (insns.Return ∷ [])) is always 0 (inl (refl, refl)), refl);
    };
  })
    where
      is : IsEnvironment (env_of (codes "()V") no_arguments (coded (handler 1 ∷ []) None (insns.Return ∷ [])) (insns.Return ∷ []))
      is = record { descriptor = refl; code = refl; instructions = returns_is.instructions }

  at_target : HasVerdict (void (insns.Goto (pos 3) jump.Half ∷ insns.Return ∷ [])) (broken 0 rules.BranchTarget)
  at_target = first_fault (codes "()V") (coded [] None (insns.Goto (pos 3) jump.Half ∷ insns.Return ∷ [])) 0 rules.BranchTarget
      (at_instruction (codes "()V") no_arguments (insns.Goto (pos 3) jump.Half ∷ insns.Return ∷ []) 0 rules.BranchTarget (record { is = is; arguments = omega arith }) (record {
        frames = always;
        below = below_none stands apart (void_env (insns.Goto (pos 3) jump.Half ∷ insns.Return ∷ [])) is [] always;
        insn = insns.Goto (pos 3) jump.Half;
        starts = refl;
        assigned = assigned stands apart (void_env (insns.Goto (pos 3) jump.Half ∷ insns.Return ∷ [])) is always 0 (inl (refl, refl));
        breaks = (merged stands apart (void_env (insns.Goto (pos 3) jump.Half ∷ insns.Return ∷ [])) is always 0 (inl (refl, refl)), refl, refl, refl);
      }))
    where
      is : IsEnvironment (void_env (insns.Goto (pos 3) jump.Half ∷ insns.Return ∷ []))
      is = record { descriptor = refl; code = refl; instructions = record { spelled = refl; fit = refl; some = omega arith; few = omega arith } }

  int_as_object :
      HasVerdict (class_of (codes "()Ljava/lang/Object;") (coded [] None (iconst ∷ insns.ReturnValue kinds.Reference ∷ []))) (broken 1 rules.Instruction)
  int_as_object = first_fault (codes "()Ljava/lang/Object;") (coded [] None (iconst ∷ insns.ReturnValue kinds.Reference ∷ [])) 1 rules.Instruction
      (at_instruction (codes "()Ljava/lang/Object;") gives_object (iconst ∷ insns.ReturnValue kinds.Reference ∷ []) 1 rules.Instruction (record { is = is; arguments = omega arith }) (record {
        frames = behind_first empty (frame [] (types.Int ∷ []));
        below = below_one stands apart object_env is [] (behind_first empty (frame [] (types.Int ∷ []))) iconst refl
            (safe stands apart object_env is (behind_first empty (frame [] (types.Int ∷ []))) 0 iconst (inl (refl, refl)) refl refl refl);
        insn = insns.ReturnValue kinds.Reference;
        starts = refl;
        assigned = assigned stands apart object_env is (behind_first empty (frame [] (types.Int ∷ []))) 1 falls;
        breaks = (merged stands apart object_env is (behind_first empty (frame [] (types.Int ∷ []))) 1 falls, refl, refl);
      }))
    where
      is : IsEnvironment object_env
      is = record { descriptor = refl; code = refl; instructions = record { spelled = refl; fit = refl; some = omega arith; few = omega arith } }

      falls : FallsInto object_env (behind_first empty (frame [] (types.Int ∷ []))) 1 (frame [] (types.Int ∷ []))
      falls = inr (record { before = 0; insn = iconst; starts = refl; next = refl; goes_on = refl; left = refl })

  goes_on : HasVerdict (void (insns.Nop ∷ [])) (broken 0 rules.EndOfCode)
  goes_on = first_fault (codes "()V") (coded [] None (insns.Nop ∷ [])) 0 rules.EndOfCode (record {
    env = void_env (insns.Nop ∷ []);
    world_is = refl;
    site_is = refl;
    code = record { is = is; arguments = omega arith };
    handlers = no_handlers _ refl;
    maps = [];
    frames = no_frames _ refl;
    holds = record {
      frames = always;
      below = below_one stands apart (void_env (insns.Nop ∷ [])) is [] always insns.Nop refl
          (safe stands apart (void_env (insns.Nop ∷ [])) is always 0 insns.Nop (inl (refl, refl)) refl refl refl);
      insn = insns.Nop;
      starts = refl;
      last = refl;
      goes_on = refl;
    };
  })
    where
      is : IsEnvironment (void_env (insns.Nop ∷ []))
      is = record { descriptor = refl; code = refl; instructions = record { spelled = refl; fit = refl; some = omega arith; few = omega arith } }

  pub plain_verdict_rows : PlainVerdictRows
  plain_verdict_rows = record {
    accepted = accepted;
    arguments = arguments;
    handlers = handlers;
    map = map;
    behind_return = behind_return;
    at_handler = at_handler;
    at_target = at_target;
    int_as_object = int_as_object;
    goes_on = goes_on;
  }
