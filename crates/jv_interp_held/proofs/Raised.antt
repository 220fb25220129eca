-- An exception that the machine raises, and a frame that goes on over the same memory: they stand, where all else is as it was.
use Rattle.std.proofs.Common.{◌≡◌, ℕ, List, [], ◌++◌, refl, sym, subst, ◌∙◌, append-nil}
use Rattle.jv_meaning_machine.specs.Values.{Value}
use Rattle.jv_meaning_machine.specs.State.{Memory}
use Rattle.jv_meaning_machine.specs.Effects.{Effect, Context, Outcome}
use Rattle.jv_meaning_machine.specs.Effects.Effect.{Goes, Raises}
use Rattle.jv_interp_words.specs.declared.registers.Registers.{Registers}
use Rattle.jv_interp_words.specs.FramesInWords.{in_use, FrameStands}
use Rattle.jv_interp_heap.specs.ObjectsInBlocks.{HasNumber}
use Rattle.jv_interp_held.specs.declared.effect.Effect.TheVariants as effects
use Rattle.jv_interp_held.specs.EffectsInWords.{EffectStands}
use Rattle.jv_interp_held.specs.Executing.{Place, Executes, Did}
use Rattle.jv_interp_held.specs.HeldInWords.{MemoryStands}
use Rattle.jv_interp_held.specs.Growing.{DidIn}
use Rattle.jv_interp_held.proofs.Growths.{grows_not}

module _ (part : Context → Outcome) (texts : List (List ℕ)) (next : ℕ) (here : Place) (c : Context) (addresses : List ℕ) (done : Memory × Effect) (below : List ℕ)
    (h : Executes part texts next here c addresses done below) where
  same_memory : MemoryStands c.program.world texts c.memory (addresses ++ []) here.held here.blocks
  same_memory = subst (λ (l : List ℕ). MemoryStands c.program.world texts c.memory l here.held here.blocks) (sym (append-nil addresses)) h.memory

  -- no block was written
  pub raised_in :
      (class : List ℕ) (number : ℕ) → done ≡ (c.memory, Raises class) → HasNumber c.program.world class number
      → DidIn here.blocks texts here (effects.Raises number) c addresses done below
  raised_in class number is has =
      subst (λ (x : Memory × Effect). DidIn here.blocks texts here (effects.Raises number) c addresses x below) (sym is)
      (record {
        did = record {
          more = [];
          effect_stands =
              subst (λ (l : List ℕ). EffectStands c.program.world l c.frame (Raises class) (effects.Raises number) here.at (in_use here.words here.at.top) below)
              (sym (append-nil addresses)) (has, record { pc_is = h.pc_is; stand = h.frame });
          memory = same_memory;
        };
        grows = grows_not addresses here.blocks;
      })

  pub raised : (class : List ℕ) (number : ℕ) → done ≡ (c.memory, Raises class) → HasNumber c.program.world class number → Did texts here (effects.Raises number) c addresses done below
  raised class number is has = (raised_in class number is has).did

  -- it goes on with another stack
  pub went_on :
      (at : Registers) (words : List ℕ) (stack : List Value) → done ≡ (c.memory, Goes c.next c.frame.locals stack) → at.pc ≡ next
      → FrameStands addresses c.frame.locals stack (in_use words at.top) below
      → Did texts (record { at = at; words = words; held = here.held; blocks = here.blocks }) effects.Goes c addresses done below
  went_on at words stack is pc_is stands =
      subst (λ (x : Memory × Effect). Did texts (record { at = at; words = words; held = here.held; blocks = here.blocks }) effects.Goes c addresses x below) (sym is)
      (record {
        more = [];
        effect_stands =
            subst (λ (l : List ℕ). EffectStands c.program.world l c.frame (Goes c.next c.frame.locals stack) effects.Goes at (in_use words at.top) below)
            (sym (append-nil addresses)) (record { pc_is = pc_is ∙ h.next_is; count = refl; stand = stands });
        memory = same_memory;
      })
