-- What is found of a method, from what its parts come to.
use Rattle.std.proofs.Common.{◌≡◌, ℕ, List, Option, Some, None, Result, Ok, Err, refl, sym, subst}
use Rattle.std.specs.Prelude.{IfOk}
use Rattle.jv_class_structure.specs.Parts.{CodeSeen, MethodSeen}
use Rattle.jv_stackmap.specs.Frames.{PlacedFrame}
use Rattle.jv_meaning_world.specs.World.{World}
use Rattle.jv_meaning_typing.specs.Uses.{Site}
use Rattle.jv_meaning_typing.specs.declared.verdict.VerifyRule.{VerifyRule}
use Rattle.jv_meaning_typing.specs.declared.verdict.VerifyRule.TheVariants as rules
use Rattle.jv_meaning_typing.specs.Environment.{Environment}
use Rattle.jv_meaning_typing.specs.Typing.{AreFrames, HandlersKeepRules}
use Rattle.jv_meaning_typing.specs.Judgement.{BreaksRule, IsCodeOf, WithFrames}
use Rattle.jv_verify_types.specs.Current.{CurrentClass}
use Rattle.jv_verify_pass.specs.declared.fault.CodeFault.{CodeFault}
use Rattle.jv_verify_pass.specs.Found.{IsBroken, IsFound}
use Rattle.jv_verify.specs.Judged.{IsVerdictOnMethod, IsMethodOf}
use Rattle.jv_verify.specs.Inside.Known.{IsEnvironmentOf}

-- ---- a rule that is broken at offset 0

pub judged_at_start : (world : World) (site : Site) (fault : CodeFault) (broken : VerifyRule) → fault.offset ≡ 0 → fault.rule ≡ broken →
    BreaksRule world site 0 broken → IsVerdictOnMethod world site (Some fault)
judged_at_start world site fault broken start is breaks =
    subst (λ (n : ℕ). BreaksRule world site n fault.rule) (sym start) (subst (λ (r : VerifyRule). BreaksRule world site 0 r) (sym is) breaks)

pub breaks_code : (class : CurrentClass) (shown : MethodSeen) (body : CodeSeen) (site : Site) → IsMethodOf class shown body site →
    ((env : Environment) → IsEnvironmentOf class shown body env → IsCodeOf env → ⊥)
    → BreaksRule class.types.world site 0 rules.Code
breaks_code class shown body site of none = (
  refl,
  λ env world there is. none env (record { world = world; method = subst (IsMethodOf class shown body) (sym there) of; is = is.is }) is,
)

pub breaks_handlers : (world : World) (env : Environment) → env.world ≡ world → IsCodeOf env → (HandlersKeepRules env → ⊥) → BreaksRule world env.site 0 rules.HandlerTable
breaks_handlers world env same code none = (refl, record { env = env; world_is = same; site_is = refl; code = code; holds = none })

pub breaks_map : (world : World) (env : Environment) → env.world ≡ world → IsCodeOf env → HandlersKeepRules env →
    ((maps : List PlacedFrame) → AreFrames env maps → ⊥) → BreaksRule world env.site 0 rules.MapFrames
breaks_map world env same code right none = (refl, record { env = env; world_is = same; site_is = refl; code = code; holds = (right, none) })

-- ---- a rule that is broken at an instruction

module _ (world : World) (env : Environment) (maps : List PlacedFrame) (same : env.world ≡ world) (code : IsCodeOf env) (right : HandlersKeepRules env) (frames : AreFrames env maps) where
  pub with_frames : (P : Environment → List PlacedFrame → Type 0) → P env maps → WithFrames world env.site P
  with_frames P holds = record { env = env; world_is = same; site_is = refl; code = code; handlers = right; maps = maps; frames = frames; holds = holds }

  breaks : (offset : ℕ) (broken : VerifyRule) → IsBroken env maps offset broken → BreaksRule world env.site offset broken
  breaks offset rules.Code h = absurd h.breaks
  breaks offset rules.HandlerTable h = absurd h.breaks
  breaks offset rules.MapFrames h = absurd h.breaks
  breaks offset rules.Merge h = with_frames _ h
  breaks offset rules.CoveredHandler h = with_frames _ h
  breaks offset rules.Instruction h = with_frames _ h
  breaks offset rules.BranchTarget h = with_frames _ h
  breaks offset rules.EndOfCode h = with_frames _ h

  pub judged : {E : Type 0} (result : Result (Option CodeFault) E) → IfOk result (IsFound env maps) → IfOk result (IsVerdictOnMethod world env.site)
  judged (Err e) h = tt
  judged (Ok None) h = record {
    env = env;
    of = (same, refl);
    is = code.is;
    maps = maps;
    frames = h.frames;
    typing = record { arguments = code.arguments; handlers = right; stack_map = frames; below = h.below; end = h.end };
  }
  judged (Ok (Some fault)) h = breaks fault.offset fault.rule h
