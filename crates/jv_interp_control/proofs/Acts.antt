-- The method that ran an instruction goes on, or returns, or waits (JVMS 2.6, 2.11).
use Rattle.std.proofs.Common.{◌≡◌, ℕ, ◌+◌, ◌≤◌, nat_le, List, [], ◌∷◌, ◌++◌, Ok, length, reverse, refl, sym, ap, subst, ◌∙◌, arith, append-nil, length-append}
use Rattle.std.proofs.lemmas.List.Sums.{sum_by-cons}
use Rattle.jv_meaning_world.specs.World.{World}
use Rattle.jv_meaning_machine.specs.Faults.{tested}
use Rattle.jv_meaning_machine.specs.Faults.Fault.{StackFault}
use Rattle.jv_meaning_machine.specs.Values.{Value, words_of_values}
use Rattle.jv_meaning_machine.specs.Frames.{MethodFrame}
use Rattle.jv_meaning_machine.specs.Frames.Frame.{Runs}
use Rattle.jv_meaning_machine.specs.State.{Program, State, state_of}
use Rattle.jv_meaning_machine.specs.Effects.{Effect as EffectOfNames}
use Rattle.jv_meaning_machine.specs.Effects.Effect.{Goes}
use Rattle.jv_meaning_machine.specs.Entering.{at_offset}
use Rattle.jv_meaning_machine.specs.Step.{act}
use Rattle.jv_meaning_machine.specs.Laws.Shapes.{frame_words, used_words}
use Rattle.jv_interp_words.specs.declared.registers.Registers.{Registers}
use Rattle.jv_interp_words.specs.FramesInWords.{in_use, FrameStands, MethodStands, AreFrames}
use Rattle.jv_interp_words.specs.StatesInWords.{record_of}
use Rattle.jv_interp_words.proofs.Gave.{bound_gave, tested_gave}
use Rattle.jv_interp_words.proofs.InUse.{length-in_use}
use Rattle.jv_interp_words.proofs.Stacks.{stack_above}
use Rattle.jv_interp_words.proofs.Tops.{falls}
use Rattle.jv_interp_heap.specs.ObjectsInBlocks.{Blocks}
use Rattle.jv_interp_held.specs.declared.held.Held.{Held}
use Rattle.jv_interp_held.specs.declared.effect.Effect.{Effect}
use Rattle.jv_interp_held.specs.declared.effect.Effect.TheVariants as effects
use Rattle.jv_interp_held.proofs.Growths.{grows_not}
use Rattle.jv_interp_members.specs.declared.methods.Methods.{Methods}
use Rattle.jv_interp_members.specs.Methods.{AreMethods}
use Rattle.jv_interp_control.specs.declared.frames.Frames.{Frames}
use Rattle.jv_interp_control.specs.declared.control.Control.{Control}
use Rattle.jv_interp_control.specs.Leaving.{Left}
use Rattle.jv_interp_control.specs.Standing.{kept, StateStands, Reaches}
use Rattle.jv_interp_control.specs.Suspending.{Suspending}
use Rattle.jv_interp_control.proofs.Entered.{is_entered}
use Rattle.jv_interp_control.proofs.Unwound.{same_state, fits}
use Rattle.jv_interp_control.specs.Running.{StateRuns}
use Rattle.jv_interp_control.specs.Acting.{Acting}
use Rattle.jv_interp_control.specs.Inside.Returning.{Returning}
use Rattle.jv_interp_control.proofs.GivenEffects.{goes_given, leaves_given}

-- ---- what stands whatever the effect is

module _ (world : World) (at : Registers) (effect : Effect) (program : Program) (texts : List (List ℕ)) (s t : State) (addresses : List ℕ)
    (frames : Frames) (control : Control) (held : Held) (blocks : Blocks)
    (h : Acting world at effect program texts s t addresses (kept frames control held blocks)) where
  -- its frame, with other local variables and another stack
  abbrev pub now : ℕ → List Value → List Value → MethodFrame
  now offset locals stack = record h.frame { offset = offset; locals = locals; stack = stack }

  pub method_now :
      (offset : ℕ) (locals stack : List Value) (used : List ℕ) → at.pc ≡ offset → length locals ≡ length h.frame.locals
      → words_of_values stack ≤ h.frame.method.code.max_stack → FrameStands addresses locals stack used h.below
      → MethodStands program addresses (now offset locals stack) (record_of at) used h.below
  method_now offset locals stack used pc_is count fit stand = record {
    declared = h.runs.declared;
    has_number = h.runs.has_number;
    entered = h.runs.entered;
    words = stand;
    base_is = h.runs.base_is;
    pc_is = pc_is;
    locals_count = count ∙ h.runs.locals_count;
    stack_fits = fit;
  }

  -- it has as many words
  pub same_words : (offset : ℕ) (locals stack : List Value) → used_words (Runs (now offset locals stack) ∷ h.others) ≡ used_words s.frames
  same_words offset locals stack =
      sum_by-cons frame_words (Runs (now offset locals stack)) h.others ∙ sym (sum_by-cons frame_words (Runs h.frame) h.others)
      ∙ sym (ap used_words h.frames_are)

  pub suspending :
      (offset : ℕ) (locals stack : List Value) (top : ℕ) → top ≤ length frames.words.items
      → MethodStands program addresses (now offset locals stack) (record_of at) (in_use frames.words.items top) h.below
      → Suspending at top frames program addresses (now offset locals stack) h.others s.control.words
  suspending offset locals stack top within m = record {
    under = h.below;
    current = m;
    others_stand = h.others_stand;
    top_within = within;
    left_is = h.rooms.left_is;
    room = let a = h.rooms.room in let e = same_words offset locals stack in omega (arith, a, e);
    few = h.rooms.few;
    records_fit = h.rooms.records_fit;
  }

  -- what was reached from frames behind a suspension
  pub reached :
      (between after_frames : Frames) (after_control : Control) (after_held : Held) (after_blocks : Blocks)
      → Reaches program texts t addresses (kept between control held blocks) (kept after_frames after_control after_held after_blocks)
      → Reaches program texts t addresses (kept frames control held blocks) (kept after_frames after_control after_held after_blocks)
  reached between after_frames after_control after_held after_blocks r = record { more = r.more; stands = r.stands; grows = r.grows }

-- ---- it goes on

module _ (world : World) (at : Registers) (program : Program) (texts : List (List ℕ)) (s t : State) (addresses : List ℕ) (frames : Frames) (control : Control) (held : Held) (blocks : Blocks)
    (h : Acting world at effects.Goes program texts s t addresses (kept frames control held blocks)) where
  pub runs_on : StateRuns program texts t addresses at (kept frames control held blocks)
  runs_on =
      let g = goes_given program.world addresses h.frame h.done.0 at (in_use frames.words.items at.top) h.below h.done.1 h.effect_stands in
      let does : act program h.frame h.others s.control (h.done.0, Goes g.0 g.1 g.2) ≡ Ok t =
      subst (λ (e : EffectOfNames). act program h.frame h.others s.control (h.done.0, e) ≡ Ok t) g.3 h.does in
      let next =
      bound_gave (at_offset h.frame g.0 g.1 g.2) (λ (f : MethodFrame). Ok (state_of h.done.0 (Runs f ∷ h.others) s.control)) t does in
      let test =
      bound_gave (tested StackFault (nat_le (words_of_values g.2) h.frame.method.code.max_stack) h.frame)
      (λ (f : MethodFrame). Ok (record f { offset = g.0; locals = g.1; stack = g.2 })) next.0 next.1 in
      let passes = tested_gave StackFault (nat_le (words_of_values g.2) h.frame.method.code.max_stack) h.frame test.0 test.1 in
      let frame_now = now world at effects.Goes program texts s t addresses frames control held blocks h g.0 g.1 g.2 in
      let same : next.0 ≡ frame_now =
      sym (same_frame (record test.0 { offset = g.0; locals = g.1; stack = g.2 }) next.0 test.2)
      ∙ sym (ap (λ (f : MethodFrame). record f { offset = g.0; locals = g.1; stack = g.2 }) passes.1) in
      let is : state_of h.done.0 (Runs frame_now ∷ h.others) s.control ≡ t =
      ap (λ (f : MethodFrame). state_of h.done.0 (Runs f ∷ h.others) s.control) (sym same)
      ∙ same_state (state_of h.done.0 (Runs next.0 ∷ h.others) s.control) t next.2 in
      let size = same_words world at effects.Goes program texts s t addresses frames control held blocks h g.0 g.1 g.2 in
      subst (λ (t : State). StateRuns program texts t addresses at (kept frames control held blocks)) is
      (record {
        running = record {
          frame = frame_now;
          others = h.others;
          frames_are = refl;
          below = h.below;
          current =
              method_now world at effects.Goes program texts s t addresses frames control held blocks h g.0 g.1 g.2 (in_use frames.words.items at.top) g.4.pc_is
              g.4.count (fits (words_of_values g.2) h.frame.method.code.max_stack passes.0) g.4.stand;
          others_stand = h.others_stand;
          code_is = h.runs.code_is;
          top_within = h.top_within;
          room = let a = h.rooms.room in omega (arith, a, size);
        };
        rooms = record {
          left_is = h.rooms.left_is;
          room = let a = h.rooms.room in omega (arith, a, size);
          few = h.rooms.few;
          records_fit = h.rooms.records_fit;
        };
        control = h.control;
        memory = h.memory;
      })
    where
      same_frame : (a b : MethodFrame) → ◌≡◌ {A = Rattle.jv_meaning_machine.specs.Faults.OrFault MethodFrame} (Ok a) (Ok b) → a ≡ b
      same_frame a b e = cc

-- ---- it returns

module _ (world : World) (at : Registers) (words : ℕ) (program : Program) (texts : List (List ℕ)) (s t : State) (addresses : List ℕ) (frames : Frames)
    (control : Control) (held : Held) (blocks : Blocks)
    (h : Acting world at (effects.Leaves words) program texts s t addresses (kept frames control held blocks)) (methods : Methods) (are : AreMethods world methods) where
  pub record Returns : Type 0 where
    pub result : List Value
    pub returning : Returning methods at words frames control program addresses h.done.0 h.frame h.others s.control result t

  pub returns : Returns
  returns =
      let ws = frames.words.items in
      let g = leaves_given program.world addresses h.frame h.done.0 at (in_use ws at.top) h.below h.done.1 words h.effect_stands in
      let l = g.2 in
      let above = stack_above addresses g.0 (in_use ws at.top) (l.above ++ h.below) l.on_top in
      let place : in_use ws at.top ≡ (above.front ++ l.above) ++ h.below = above.place ∙ sym (Rattle.std.proofs.Common.append_assoc above.front l.above h.below) in
      let size = length-in_use ws at.top h.top_within in
      let sum : length (in_use ws at.top) ≡ length (above.front ++ l.above) + length h.below = ap length place ∙ length-append (above.front ++ l.above) h.below in
      let base = h.runs.base_is in
      let low : at.base ≤ at.top = omega (arith, size, sum, base) in
      let here : in_use ws at.base ≡ h.below = falls ws (in_use ws at.top) (above.front ++ l.above) h.below at.top at.base refl low place (sym base) in
      let known = (is_entered program h.runs.declared h.frame.method h.runs.entered).has_code in
      let total : used_words s.frames ≡ Rattle.jv_meaning_machine.specs.Costs.method_words h.frame + used_words h.others =
      ap used_words h.frames_are ∙ sum_by-cons frame_words (Runs h.frame) h.others in
      let are_here = subst (λ (w : World). AreMethods w methods) (sym h.world_is) are in
      record {
        result = g.0;
        returning = record {
          declared = h.runs.declared;
          code = record { are = are_here; at = h.runs.has_number; has_code = known };
          leaving = record {
            are = are_here;
            finds = h.finds;
            stand = record {
              stand = subst (λ (u : List ℕ). AreFrames program addresses h.others (reverse frames.records.items) u) (sym here) h.others_stand;
              top_within = let a = h.top_within in omega (arith, a, low);
              left_is = h.rooms.left_is;
              room = let a = h.rooms.room in omega (arith, a, total);
              few = h.rooms.few;
              records_fit = h.rooms.records_fit;
            };
            control_stands = h.control;
            given_is = refl;
            room = let a = h.rooms.room in omega (arith, a, total);
            count_is = l.words_are;
            within = h.top_within;
            above = l.above;
            on_top =
                subst (λ (u : List ℕ). Rattle.jv_interp_words.specs.ValuesInWords.AreOnTop addresses g.0 (in_use ws at.top) (l.above ++ u)) (sym here) l.on_top;
            does = subst (λ (e : EffectOfNames). act program h.frame h.others s.control (h.done.0, e) ≡ Ok t) g.1 h.does;
          };
        };
      }

  pub left_reaches :
      (frames_after : Frames) (control_after : Control) → Left program addresses h.done.0 t frames_after control_after
      → Reaches program texts t addresses (kept frames control held blocks) (kept frames_after control_after held blocks)
  left_reaches frames_after control_after l = record {
    more = [];
    stands =
        subst (λ (all : List ℕ). StateStands program texts t all (kept frames_after control_after held blocks)) (sym (append-nil addresses))
        (record {
          frames = l.stand;
          control = l.control_stands;
          memory = subst (λ m. Rattle.jv_interp_held.specs.HeldInWords.MemoryStands program.world texts m addresses held blocks) (sym l.same_memory) h.memory;
        });
    grows = grows_not addresses blocks;
  }
