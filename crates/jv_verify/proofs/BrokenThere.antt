-- Where a rule is broken at an instruction, or behind the last one, those below it are type safe.
use Rattle.std.proofs.Common.{◌≡◌, ℕ, ◌<◌, Option, Some, refl, sym, subst, arith}
use Rattle.std.specs.Prelude.{IsSome}
use Rattle.jv_code.specs.Insns.{Instruction}
use Rattle.jv_meaning_world.specs.World.{World}
use Rattle.jv_meaning_typing.specs.Uses.{Site}
use Rattle.jv_meaning_typing.specs.declared.verdict.VerifyRule.{VerifyRule}
use Rattle.jv_meaning_typing.specs.Environment.{instruction_at}
use Rattle.jv_meaning_typing.specs.Judgement.{BreaksFirst, GoesOnBehind, WithFrames}
use Rattle.jv_meaning_typing.proofs.Starts.{start_within}
use Rattle.jv_verify_pass.specs.Before.{IsTypedTo}

there_is : (o : Option Instruction) (insn : Instruction) → o ≡ Some insn → IsSome o
there_is o insn e = subst (λ (x : Option Instruction). IsSome x) (sym e) refl

module _ (world : World) (site : Site) (pc : ℕ) where
  pub below_first : (broken : VerifyRule) → WithFrames world site (λ env maps. BreaksFirst env maps pc broken) → WithFrames world site (λ env maps. IsTypedTo env maps pc)
  below_first broken w = record {
    env = w.env;
    world_is = w.world_is;
    site_is = w.site_is;
    code = w.code;
    handlers = w.handlers;
    maps = w.maps;
    frames = w.frames;
    holds = record { frames = w.holds.frames; below = w.holds.below; starts = there_is (instruction_at w.env pc) w.holds.insn w.holds.starts };
  }

  pub below_end : WithFrames world site (λ env maps. GoesOnBehind env maps pc) → WithFrames world site (λ env maps. IsTypedTo env maps pc)
  below_end w =
      let lt = start_within w.env pc w.holds.insn w.code.is w.holds.starts in
      record {
        env = w.env;
        world_is = w.world_is;
        site_is = w.site_is;
        code = w.code;
        handlers = w.handlers;
        maps = w.maps;
        frames = w.frames;
        holds = record {
          frames = w.holds.frames;
          below = λ (n : ℕ) (i : Instruction) (at : instruction_at w.env n ≡ Some i) (less : n < pc). w.holds.below n i at (omega (arith, lt, less));
          starts = there_is (instruction_at w.env pc) w.holds.insn w.holds.starts;
        };
      }
