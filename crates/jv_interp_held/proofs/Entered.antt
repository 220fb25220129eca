-- A method that is entered, an initialization that is begun and an object that is thrown: they stand, where all else is as it was.
use Rattle.std.proofs.Common.{◌≡◌, ℕ, ◌≤◌, List, [], ◌++◌, Option, Some, Ok, length, reverse, sym, ap, subst, append-nil, arith, slice_get}
use Rattle.std.specs.List.{flat_map}
use Rattle.std.proofs.lemmas.List.Sums.{sum_by-append}
use Rattle.jv_meaning_world.specs.World.{Loaded}
use Rattle.jv_meaning_world.specs.Overriding.{Declared}
use Rattle.jv_meaning_machine.specs.Values.{Value, value_words, words_of_values}
use Rattle.jv_meaning_machine.specs.Objects.{Instance}
use Rattle.jv_meaning_machine.specs.Objects.Object.{InstanceOf}
use Rattle.jv_meaning_machine.specs.Frames.{local_words}
use Rattle.jv_meaning_machine.specs.State.{Memory}
use Rattle.jv_meaning_machine.specs.Effects.{Effect, Context, Outcome}
use Rattle.jv_meaning_machine.specs.Faults.{OrFault}
use Rattle.jv_meaning_machine.specs.Effects.Effect.{Enters, Constructs, Throws, Begins}
use Rattle.jv_meaning_machine.specs.Entering.{passed_values}
use Rattle.jv_interp_words.specs.ValuesInWords.{AreOnTop}
use Rattle.jv_interp_words.specs.FramesInWords.{in_use, FrameStands, methods_of}
use Rattle.jv_interp_held.specs.declared.effect.Effect.{Effect as EffectInWords}
use Rattle.jv_interp_held.specs.declared.effect.Effect.TheVariants as effects
use Rattle.jv_interp_held.specs.EffectsInWords.{EntersWith, OutcomeStands}
use Rattle.jv_interp_held.specs.Executing.{Place, Executes, Did}
use Rattle.jv_interp_held.specs.HeldInWords.{MemoryStands}

pub done_same : (a b : Memory × Effect) → ◌≡◌ {A = OrFault (Memory × Effect)} (Ok a) (Ok b) → b ≡ a
done_same a b e = cc

-- what is left of a stack has no more words than all of it
pub left_within : (front rest stack : List Value) → stack ≡ front ++ rest → words_of_values rest ≤ words_of_values stack
left_within front rest stack e =
    let all : words_of_values stack ≡ words_of_values (front ++ rest) = ap words_of_values e in
    omega (arith, all, sum_by-append value_words front rest)

module _ (part : Context → Outcome) (texts : List (List ℕ)) (next : ℕ) (here : Place) (c : Context) (addresses : List ℕ) (done : Memory × Effect) (below : List ℕ)
    (h : Executes part texts next here c addresses done below) where
  stands :
      (effect : Effect) (in_words : EffectInWords) → done ≡ (c.memory, effect)
      → OutcomeStands c.program.world addresses c.frame (c.memory, effect) in_words here.at (in_use here.words here.at.top) below
      → Did texts here in_words c addresses done below
  stands effect in_words is e =
      subst (λ (x : Memory × Effect). Did texts here in_words c addresses x below) (sym is)
      (record {
        more = [];
        effect_stands =
            subst (λ (l : List ℕ). OutcomeStands c.program.world l c.frame (c.memory, effect) in_words here.at (in_use here.words here.at.top) below)
            (sym (append-nil addresses)) e;
        memory =
            subst (λ (l : List ℕ). MemoryStands c.program.world texts c.memory l here.held here.blocks) (sym (append-nil addresses)) h.memory;
      })

  pub record Enterable (d : Declared) (passed stack : List Value) (number words : ℕ) : Type 0 where
    pub has_number : slice_get (methods_of c.program.world) number ≡ Some d
    pub words_are : words ≡ length (flat_map local_words passed)
    pub under : List ℕ
    pub on_top : AreOnTop addresses (reverse passed) (in_use here.words here.at.top) under
    pub left : FrameStands addresses c.frame.locals stack under below
    pub no_more : words_of_values stack ≤ words_of_values c.frame.stack

  enters_with :
      (d : Declared) (passed stack : List Value) (number words : ℕ) → Enterable d passed stack number words
      → EntersWith c.program.world addresses c.frame d passed stack number words here.at (in_use here.words here.at.top) below
  enters_with d passed stack number words e =
      record {
        pc_is = h.pc_is;
        has_number = e.has_number;
        words_are = e.words_are;
        under = e.under;
        on_top = e.on_top;
        left = e.left;
        no_more = e.no_more;
      }

  pub entered :
      (d : Declared) (receiver : Option ℕ) (arguments stack : List Value) (number words : ℕ)
      → done ≡ (c.memory, Enters d receiver arguments stack) → Enterable d (passed_values receiver arguments) stack number words
      → Did texts here (effects.Enters number words) c addresses done below
  entered d receiver arguments stack number words is e =
      stands (Enters d receiver arguments stack) (effects.Enters number words) is (enters_with d (passed_values receiver arguments) stack number words e)

  pub constructed :
      (d : Declared) (object : ℕ) (instance : Instance) (arguments stack : List Value) (number words : ℕ)
      → done ≡ (c.memory, Constructs d object instance arguments stack) → slice_get c.memory.objects object ≡ Some (InstanceOf instance)
      → Enterable d (passed_values (Some object) arguments) stack number words → Did texts here (effects.Enters number words) c addresses done below
  constructed d object instance arguments stack number words is there e =
      stands (Constructs d object instance arguments stack) (effects.Enters number words) is
      (there, enters_with d (passed_values (Some object) arguments) stack number words e)

  pub begun : (l : Loaded) (number : ℕ) → done ≡ (c.memory, Begins l) → slice_get c.program.world number ≡ Some l → Did texts here (effects.Begins number) c addresses done below
  begun l number is at = stands (Begins l) (effects.Begins number) is (at, record { pc_is = h.pc_is; stand = h.frame })

  pub thrown : (object address : ℕ) → done ≡ (c.memory, Throws object) → slice_get addresses object ≡ Some address → Did texts here (effects.Throws address) c addresses done below
  thrown object address is at = stands (Throws object) (effects.Throws address) is (at, record { pc_is = h.pc_is; stand = h.frame })
