-- The method that ran an instruction waits, and what is done above it (JVMS 2.6, 2.10, 5.5).
use Rattle.std.proofs.Common.{◌≡◌, ℕ, ◌+◌, ◌-◌, ◌≤◌, Bool, List, ◌∷◌, Ok, length, reverse, refl, sym, ap, subst, ◌∙◌, arith, length-append}
use Rattle.std.proofs.lemmas.List.{length-reverse}
use Rattle.std.specs.List.{flat_map}
use Rattle.jv_meaning_world.specs.World.{World}
use Rattle.jv_meaning_machine.specs.Values.{words_of_values}
use Rattle.jv_meaning_machine.specs.Frames.{local_words, MethodFrame}
use Rattle.jv_meaning_machine.specs.Frames.Frame.{Runs}
use Rattle.jv_meaning_machine.specs.State.{Program, State, state_of}
use Rattle.jv_meaning_machine.specs.Effects.{Effect as EffectOfNames}
use Rattle.jv_meaning_machine.specs.Entering.{passed_values}
use Rattle.jv_meaning_machine.specs.Step.{act}
use Rattle.jv_interp_words.specs.declared.registers.Registers.{Registers}
use Rattle.jv_interp_words.specs.ValuesInWords.{AreOnTop}
use Rattle.jv_interp_words.specs.FramesInWords.{in_use}
use Rattle.jv_interp_words.proofs.InUse.{length-in_use}
use Rattle.jv_interp_words.proofs.Passed.{all_first}
use Rattle.jv_interp_words.proofs.Stored.{same_length}
use Rattle.jv_interp_words.proofs.Tops.{falls}
use Rattle.jv_interp_heap.specs.ObjectsInBlocks.{Blocks}
use Rattle.jv_interp_held.specs.declared.held.Held.{Held}
use Rattle.jv_interp_held.specs.declared.effect.Effect.{Effect}
use Rattle.jv_interp_held.specs.declared.effect.Effect.TheVariants as effects
use Rattle.jv_interp_held.specs.EffectsInWords.{Stays}
use Rattle.jv_interp_control.specs.declared.frames.Frames.{Frames}
use Rattle.jv_interp_control.specs.declared.control.Control.{Control}
use Rattle.jv_interp_control.specs.FramesStand.{FramesStand}
use Rattle.jv_interp_control.specs.Moves.{Entering, AreVerified}
use Rattle.jv_interp_control.specs.Standing.{kept, Moves}
use Rattle.jv_interp_control.specs.Suspending.{Suspending, CanSuspend, Suspends}
use Rattle.jv_interp_control.specs.Acting.{Acting}
use Rattle.jv_interp_control.specs.Inside.Above.{IsAbove, IsWithin, top_without, Doing}
use Rattle.jv_interp_control.proofs.GivenEffects.{throws_given, raises_given, begins_given, EntersNow, enters_given}
use Rattle.jv_interp_control.proofs.Acts.{now, method_now, suspending}

-- ---- it waits, and this is done above it

pub record Waits (verified : List Bool) (world : World) (at : Registers) (effect : Effect) (program : Program) (texts : List (List ℕ)) (s t : State)
    (addresses : List ℕ) (frames : Frames) (control : Control) (held : Held) (blocks : Blocks)
    (h : Acting world at effect program texts s t addresses (kept frames control held blocks)) : Type 0 where
  pub frame : MethodFrame
  pub within : IsWithin effect at.top
  pub suspending : Suspending at (top_without effect at.top) frames program addresses frame h.others s.control.words
  pub does :
      (after : Frames) → after ≡ record frames { records = after.records; top = top_without effect at.top }
      → Doing effect verified after program addresses (state_of h.done.0 (Runs frame ∷ h.others) s.control) t

-- ---- where the frame is as it was

module _ (verified : List Bool) (world : World) (at : Registers) (effect : Effect) (program : Program) (texts : List (List ℕ)) (s t : State)
    (addresses : List ℕ) (frames : Frames) (control : Control) (held : Held) (blocks : Blocks)
    (h : Acting world at effect program texts s t addresses (kept frames control held blocks)) where
  stays_waiting : Stays addresses h.frame at (in_use frames.words.items at.top) h.below → Suspending at at.top frames program addresses h.frame h.others s.control.words
  stays_waiting stays =
      suspending world at effect program texts s t addresses frames control held blocks h h.frame.offset h.frame.locals h.frame.stack at.top h.top_within
      (method_now world at effect program texts s t addresses frames control held blocks h h.frame.offset h.frame.locals h.frame.stack
      (in_use frames.words.items at.top) stays.pc_is refl h.runs.stack_fits stays.stand)

  does_it : (e : EffectOfNames) → h.done.1 ≡ e → act program h.frame h.others s.control (h.done.0, e) ≡ Ok t
  does_it e is = subst (λ (e : EffectOfNames). act program h.frame h.others s.control (h.done.0, e) ≡ Ok t) is h.does

-- ---- where a method is entered

module _ (world : World) (at : Registers) (number words : ℕ) (program : Program) (texts : List (List ℕ)) (s t : State) (addresses : List ℕ)
    (frames : Frames) (control : Control) (held : Held) (blocks : Blocks)
    (h : Acting world at (effects.Enters number words) program texts s t addresses (kept frames control held blocks)) where
  abbrev ws : List ℕ
  ws = frames.words.items

  entered_now : EntersNow program addresses h.frame h.others s.control h.done.0 t number words at (in_use ws at.top) h.below
  entered_now =
      enters_given program addresses h.frame h.others s.control h.done.0 t number words at (in_use ws at.top) h.below h.done.1 h.effect_stands h.does

  -- what is passed, on what is left
  record Under : Type 0 where
    pub low : words ≤ at.top
    pub here : in_use ws (at.top - words) ≡ entered_now.enters.under

  under : Under
  under =
      let e = entered_now.enters in
      let passed = passed_values entered_now.receiver entered_now.arguments in
      let first = all_first addresses passed (in_use ws at.top) e.under e.on_top in
      let front = same_length addresses (flat_map local_words passed) first.words first.stand in
      let count = e.words_are in
      let turned = length-reverse first.words in
      let all = length-in_use ws at.top h.top_within in
      let sum : length (in_use ws at.top) ≡ length (reverse first.words) + length e.under =
      ap length first.place ∙ length-append (reverse first.words) e.under in
      let less : at.top - words ≤ at.top = omega arith in
      record {
        low = omega (arith, front, count, turned, all, sum);
        here =
            falls ws (in_use ws at.top) (reverse first.words) e.under at.top (at.top - words) refl less first.place
            (omega (arith, front, count, turned, all, sum));
      }

  waits_entering : (verified : List Bool) → Waits verified world at (effects.Enters number words) program texts s t addresses frames control held blocks h
  waits_entering verified =
      let n = entered_now in
      let e = n.enters in
      let top = at.top - words in
      let u = under in
      let low = u.low in
      let most = h.top_within in
      let before = h.runs.stack_fits in
      let less = e.no_more in
      let fit : words_of_values n.stack ≤ h.frame.method.code.max_stack = omega (arith, before, less) in
      let back : top + words ≡ at.top = omega (arith, low) in
      record {
        frame = now world at (effects.Enters number words) program texts s t addresses frames control held blocks h h.frame.offset h.frame.locals n.stack;
        within = low;
        suspending =
            suspending world at (effects.Enters number words) program texts s t addresses frames control held blocks h h.frame.offset h.frame.locals n.stack top
            (omega (arith, most))
            (method_now world at (effects.Enters number words) program texts s t addresses frames control held blocks h h.frame.offset h.frame.locals n.stack
            (in_use ws top) e.pc_is refl fit
            (subst (λ (used : List ℕ). Rattle.jv_interp_words.specs.FramesInWords.FrameStands addresses h.frame.locals n.stack used h.below) (sym u.here) e.left));
        does =
            λ after same.
            subst (λ (f : Frames). Entering number f program addresses (state_of h.done.0 (Runs (record h.frame { stack = n.stack }) ∷ h.others) s.control) t) (sym same)
            (record {
              d = n.d;
              receiver = n.receiver;
              arguments = n.arguments;
              has_number = e.has_number;
              count = words;
              count_is = e.words_are;
              within = omega (arith, back, most);
              on_top =
                  subst (λ (k : ℕ). AreOnTop addresses (reverse (passed_values n.receiver n.arguments)) (in_use ws k) (in_use ws top)) (sym back)
                  (subst (λ (used : List ℕ). AreOnTop addresses (reverse (passed_values n.receiver n.arguments)) (in_use ws at.top) used) (sym u.here) e.on_top);
              memory = n.noted;
              same_words = n.same_words;
              does = n.does;
            });
      }

-- ---- all of them

pub waits :
    (verified : List Bool) (world : World) (at : Registers) (effect : Effect) (program : Program) (texts : List (List ℕ)) (s t : State) (addresses : List ℕ) (frames : Frames)
    (control : Control) (held : Held) (blocks : Blocks) (h : Acting world at effect program texts s t addresses (kept frames control held blocks))
    → AreVerified program verified → IsAbove effect → Waits verified world at effect program texts s t addresses frames control held blocks h
waits verified world at effects.Goes program texts s t addresses frames control held blocks h are above = absurd above
waits verified world at (effects.Leaves words) program texts s t addresses frames control held blocks h are above = absurd above
waits verified world at (effects.Enters number words) program texts s t addresses frames control held blocks h are above =
    waits_entering world at number words program texts s t addresses frames control held blocks h verified
waits verified world at (effects.Throws address) program texts s t addresses frames control held blocks h are above =
    let g = throws_given program.world addresses h.frame h.done.0 at (in_use frames.words.items at.top) h.below h.done.1 address h.effect_stands in
    record {
      frame = h.frame;
      within = tt;
      suspending = stays_waiting verified world at (effects.Throws address) program texts s t addresses frames control held blocks h g.3;
      does = λ after same. record {
        object = g.0;
        at = g.2;
        does = does_it verified world at (effects.Throws address) program texts s t addresses frames control held blocks h _ g.1;
      };
    }
waits verified world at (effects.Raises number) program texts s t addresses frames control held blocks h are above =
    let g = raises_given program.world addresses h.frame h.done.0 at (in_use frames.words.items at.top) h.below h.done.1 number h.effect_stands in
    record {
      frame = h.frame;
      within = tt;
      suspending = stays_waiting verified world at (effects.Raises number) program texts s t addresses frames control held blocks h g.3;
      does = λ after same. record {
        name = g.0;
        has_number = g.2;
        does = does_it verified world at (effects.Raises number) program texts s t addresses frames control held blocks h _ g.1;
      };
    }
waits verified world at (effects.Begins number) program texts s t addresses frames control held blocks h are above =
    let g = begins_given program.world addresses h.frame h.done.0 at (in_use frames.words.items at.top) h.below h.done.1 number h.effect_stands in
    record {
      frame = h.frame;
      within = tt;
      suspending = stays_waiting verified world at (effects.Begins number) program texts s t addresses frames control held blocks h g.3;
      does = λ after same. record {
        l = g.0;
        at = g.2;
        are = are;
        does = does_it verified world at (effects.Begins number) program texts s t addresses frames control held blocks h _ g.1;
      };
    }

-- ---- the move from the frames that all stand in records

pub moves :
    (verified : List Bool) (world : World) (at : Registers) (effect : Effect) (program : Program) (texts : List (List ℕ)) (s t : State) (addresses : List ℕ) (frames : Frames)
    (control : Control) (held : Held) (blocks : Blocks) (h : Acting world at effect program texts s t addresses (kept frames control held blocks))
    (w : Waits verified world at effect program texts s t addresses frames control held blocks h) (after : Frames)
    → after ≡ record frames { records = after.records; top = top_without effect at.top }
    → FramesStand program addresses (Runs w.frame ∷ h.others) after s.control.words
    → Moves world (Doing effect verified after) program texts (state_of h.done.0 (Runs w.frame ∷ h.others) s.control) t addresses (kept after control held blocks)
moves verified world at effect program texts s t addresses frames control held blocks h w after same stand = record {
  world_is = h.world_is;
  guests = h.guests;
  stands = record { frames = stand; control = h.control; memory = h.memory };
  does = w.does after same;
}

-- ---- behind the suspension in code

module _ (verified : List Bool) (world : World) (at : Registers) (effect : Effect) (program : Program) (texts : List (List ℕ)) (s t : State)
    (addresses : List ℕ) (frames : Frames) (control : Control) (held : Held) (blocks : Blocks)
    (h : Acting world at effect program texts s t addresses (kept frames control held blocks)) (are : AreVerified program verified) (above : IsAbove effect) (top : ℕ)
    (top_is : top ≡ top_without effect at.top) where
  abbrev waiting : Waits verified world at effect program texts s t addresses frames control held blocks h
  waiting = waits verified world at effect program texts s t addresses frames control held blocks h are above

  pub can_suspend : CanSuspend at top frames
  can_suspend = record {
    program = program;
    addresses = addresses;
    frame = waiting.frame;
    others = h.others;
    left = s.control.words;
    suspending =
        subst (λ (n : ℕ). Suspending at n frames program addresses waiting.frame h.others s.control.words) (sym top_is) waiting.suspending;
  }

  abbrev pub between : State
  between = state_of h.done.0 (Runs waiting.frame ∷ h.others) s.control

  pub then_moves :
      (after : Frames) → Suspends at top frames after → after ≡ record frames { records = after.records; top = top }
      → Moves world (Doing effect verified after) program texts between t addresses (kept after control held blocks)
  then_moves after suspends same =
      moves verified world at effect program texts s t addresses frames control held blocks h waiting after
      (same ∙ ap (λ (n : ℕ). record frames { records = after.records; top = n }) top_is)
      (suspends program addresses waiting.frame h.others s.control.words
      (subst (λ (n : ℕ). Suspending at n frames program addresses waiting.frame h.others s.control.words) (sym top_is) waiting.suspending))
