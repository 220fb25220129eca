-- A frame that goes on over a memory with more objects, and one that lacks cells for them.
use Rattle.std.proofs.Common.{◌≡◌, ℕ, ◌+◌, ◌-◌, ◌<◌, ◌≤◌, nat_le, Bool, true, false, List, [], ◌∷◌, ◌++◌, Some, None, Ok, length, refl, sym, ap, subst, ◌∙◌, append-nil, if◌then◌else◌, arith}
use Rattle.std.proofs.lemmas.List.Sums.{sum_by-cons}
use Rattle.jv_meaning_machine.specs.Faults.{OrFault}
use Rattle.jv_meaning_machine.specs.Values.{Value, value_words}
use Rattle.jv_meaning_machine.specs.State.{Memory}
use Rattle.jv_meaning_machine.specs.Costs.{paid}
use Rattle.jv_meaning_machine.specs.Effects.{Effect, Context, Outcome, out_of_memory}
use Rattle.jv_meaning_machine.specs.Effects.Effect.{Goes, Throws, Raises}
use Rattle.jv_interp_words.specs.declared.registers.Registers.{Registers}
use Rattle.jv_interp_words.specs.FramesInWords.{in_use, FrameStands}
use Rattle.jv_interp_words.proofs.InUse.{length-in_use}
use Rattle.jv_interp_words.proofs.FramesStand.{frame_length}
use Rattle.jv_interp_heap.specs.ObjectsInBlocks.{Blocks, HasNumber}
use Rattle.jv_interp_held.specs.declared.held.Held.{Held}
use Rattle.jv_interp_held.specs.declared.effect.Effect.TheVariants as effects
use Rattle.jv_interp_held.specs.EffectsInWords.{EffectStands}
use Rattle.jv_interp_held.specs.Executing.{Place, place, Executes, HasRoom}
use Rattle.jv_interp_held.specs.HeldInWords.{MemoryStands}
use Rattle.jv_interp_held.specs.Growing.{Grows, DidIn}
use Rattle.jv_interp_held.proofs.Growths.{grows_not}

pub done_same : (a b : Memory × Effect) → ◌≡◌ {A = OrFault (Memory × Effect)} (Ok a) (Ok b) → b ≡ a
done_same a b e = cc

-- ---- payments

pub paid_lacks : (cost : ℕ) (memory : Memory) → memory.cells < cost → paid cost memory ≡ None
paid_lacks cost memory h =
    ap (λ (b : Bool). if b then Some (record memory { cells = memory.cells - cost }) else None) (lacks memory.cells cost h)
  where
    lacks : (cells cost : ℕ) → cells < cost → nat_le cost cells ≡ false
    lacks cells cost h = grind arith

pub paid_left : (cost : ℕ) (memory : Memory) → cost ≤ memory.cells → paid cost memory ≡ Some (record memory { cells = memory.cells - cost })
paid_left cost memory h =
    ap (λ (b : Bool). if b then Some (record memory { cells = memory.cells - cost }) else None) (left memory.cells cost h)
  where
    left : (cells cost : ℕ) → cost ≤ cells → nat_le cost cells ≡ true
    left cells cost h = grind arith

-- ---- effects

module _ (part : Context → Outcome) (texts : List (List ℕ)) (next : ℕ) (here : Place) (c : Context) (addresses : List ℕ) (done : Memory × Effect) (below : List ℕ)
    (h : Executes part texts next here c addresses done below) where
  same_memory : MemoryStands c.program.world texts c.memory (addresses ++ []) here.held here.blocks
  same_memory = subst (λ (l : List ℕ). MemoryStands c.program.world texts c.memory l here.held here.blocks) (sym (append-nil addresses)) h.memory

  -- nothing is made
  pub lacks_in :
      (cells : ℕ) (after : Blocks) → done ≡ (c.memory, Throws out_of_memory) → cells ≡ here.held.cells → after ≡ here.blocks
      → DidIn here.blocks texts (place here.at here.words (record here.held { cells = cells }) after) (effects.Throws here.held.out_of_memory) c addresses done below
  lacks_in cells after is same_cells same =
      subst (λ (x : Memory × Effect). DidIn here.blocks texts (place here.at here.words (record here.held { cells = cells }) after)
      (effects.Throws here.held.out_of_memory) c addresses x below) (sym is)
      (subst (λ (b : Blocks). DidIn here.blocks texts (place here.at here.words (record here.held { cells = cells }) b)
      (effects.Throws here.held.out_of_memory) c addresses (c.memory, Throws out_of_memory) below) (sym same)
      (subst (λ (n : ℕ). DidIn here.blocks texts (place here.at here.words (record here.held { cells = n }) here.blocks)
      (effects.Throws here.held.out_of_memory) c addresses (c.memory, Throws out_of_memory) below) (sym same_cells)
      (record {
        did = record {
          more = [];
          effect_stands =
              subst (λ (l : List ℕ). EffectStands c.program.world l c.frame (Throws out_of_memory) (effects.Throws here.held.out_of_memory) here.at (in_use here.words here.at.top) below)
              (sym (append-nil addresses)) (h.memory.error_stands, record { pc_is = h.pc_is; stand = h.frame });
          memory = same_memory;
        };
        grows = grows_not addresses here.blocks;
      })))

  pub raises_in :
      (class : List ℕ) (number : ℕ) → done ≡ (c.memory, Raises class) → HasNumber c.program.world class number
      → DidIn here.blocks texts here (effects.Raises number) c addresses done below
  raises_in class number is has =
      subst (λ (x : Memory × Effect). DidIn here.blocks texts here (effects.Raises number) c addresses x below) (sym is)
      (record {
        did = record {
          more = [];
          effect_stands =
              subst (λ (l : List ℕ). EffectStands c.program.world l c.frame (Raises class) (effects.Raises number) here.at (in_use here.words here.at.top) below)
              (sym (append-nil addresses)) (has, record { pc_is = h.pc_is; stand = h.frame });
          memory = same_memory;
        };
        grows = grows_not addresses here.blocks;
      })

  pub goes_in :
      (at : Registers) (words : List ℕ) (held : Held) (after : Blocks) (more : List ℕ) (memory : Memory) (stack : List Value)
      → done ≡ (memory, Goes c.next c.frame.locals stack) → at.pc ≡ next
      → FrameStands (addresses ++ more) c.frame.locals stack (in_use words at.top) below
      → MemoryStands c.program.world texts memory (addresses ++ more) held after → Grows addresses more here.blocks after
      → DidIn here.blocks texts (place at words held after) effects.Goes c addresses done below
  goes_in at words held after more memory stack is pc_is frame stands grows =
      subst (λ (x : Memory × Effect). DidIn here.blocks texts (place at words held after) effects.Goes c addresses x below) (sym is)
      (record {
        did = record {
          more = more;
          effect_stands = record { pc_is = pc_is ∙ h.next_is; count = refl; stand = frame };
          memory = stands;
        };
        grows = grows;
      })

  -- there is room for a value more
  pub room_for :
      (value : Value) (memory : Memory) → done ≡ (memory, Goes c.next c.frame.locals (value ∷ c.frame.stack)) → HasRoom c below (length here.words) done
      → here.at.top + value_words value ≤ length here.words
  room_for value memory is room =
      let fits = subst (λ (x : Memory × Effect). HasRoom c below (length here.words) x) is room in
      let sum = sum_by-cons value_words value c.frame.stack in
      let size = frame_length addresses c.frame.locals c.frame.stack (in_use here.words here.at.top) below h.frame in
      let used = length-in_use here.words here.at.top h.top_within in
      omega (arith, fits, sum, size, used)
