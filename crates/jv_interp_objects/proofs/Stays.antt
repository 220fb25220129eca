-- An effect that leaves memory, words and registers as they were: it stands, and no block is written.
use Rattle.std.proofs.Common.{◌≡◌, ℕ, List, [], Ok, sym, subst, append-nil}
use Rattle.jv_meaning_machine.specs.State.{Memory}
use Rattle.jv_meaning_machine.specs.Effects.{Effect, Context, Outcome}
use Rattle.jv_interp_words.specs.FramesInWords.{in_use}
use Rattle.jv_interp_held.specs.declared.effect.Effect.{Effect as EffectInWords}
use Rattle.jv_interp_held.specs.EffectsInWords.{OutcomeStands}
use Rattle.jv_interp_held.specs.Executing.{Place, Executes}
use Rattle.jv_interp_held.specs.HeldInWords.{MemoryStands}
use Rattle.jv_interp_held.specs.Growing.{DidIn}
use Rattle.jv_interp_held.proofs.Growths.{grows_not}

module _ (part : Context → Outcome) (texts : List (List ℕ)) (next : ℕ) (here : Place) (c : Context) (addresses : List ℕ) (done : Memory × Effect) (below : List ℕ)
    (h : Executes part texts next here c addresses done below) where
  pub stays_in :
      (effect : Effect) (in_words : EffectInWords) → done ≡ (c.memory, effect)
      → OutcomeStands c.program.world addresses c.frame (c.memory, effect) in_words here.at (in_use here.words here.at.top) below
      → DidIn here.blocks texts here in_words c addresses done below
  stays_in effect in_words is stands =
      subst (λ (x : Memory × Effect). DidIn here.blocks texts here in_words c addresses x below) (sym is)
      (record {
        did = record {
          more = [];
          effect_stands =
              subst (λ (l : List ℕ). OutcomeStands c.program.world l c.frame (c.memory, effect) in_words here.at (in_use here.words here.at.top) below)
              (sym (append-nil addresses)) stands;
          memory =
              subst (λ (l : List ℕ). MemoryStands c.program.world texts c.memory l here.held here.blocks) (sym (append-nil addresses)) h.memory;
        };
        grows = grows_not addresses here.blocks;
      })

  -- another part does the same there
  pub executed : (other : Context → Outcome) → other c ≡ Ok done → Executes other texts next here c addresses done below
  executed other does =
      record {
        does = does;
        frame = h.frame;
        memory = h.memory;
        base_is = h.base_is;
        pc_is = h.pc_is;
        next_is = h.next_is;
        top_within = h.top_within;
      }
