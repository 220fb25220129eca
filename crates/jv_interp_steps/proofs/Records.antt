-- Where all frames stand in records, and where the newest goes on in registers (JVMS 2.5.1, 2.11, 5.5).
use Rattle.std.proofs.lemmas.Bool.{eqb-true}
use Rattle.std.proofs.lemmas.List.{length-reverse}
use Rattle.std.proofs.Common.{◌≡◌, ℕ, ◌+◌, ◌≤◌, ◌==◌, Bool, true, false, List, [], ◌∷◌, ◌++◌, Ok, length, reverse, slice_get, refl, sym, ap, subst, ◌∙◌, arith}
use Rattle.jv_meaning_world.specs.World.{World}
use Rattle.jv_meaning_machine.specs.Frames.{InitializationFrame, Frame}
use Rattle.jv_meaning_machine.specs.Frames.Frame.{Runs, Initializes}
use Rattle.jv_meaning_machine.specs.State.{Program, State}
use Rattle.jv_meaning_machine.specs.Step.{step, step_in}
use Rattle.jv_meaning_machine.specs.Laws.Shapes.{used_words}
use Rattle.jv_meaning_machine.specs.Laws.Runs.{StepKeeps}
use Rattle.jv_interp_words.specs.declared.records.FrameRecord.{FrameRecord}
use Rattle.jv_interp_words.specs.declared.registers.Registers.{Registers}
use Rattle.jv_interp_words.specs.FramesInWords.{in_use, methods_of, AreFrames}
use Rattle.jv_interp_words.specs.StatesInWords.{RunningStands}
use Rattle.jv_interp_held.specs.HeldInWords.{MemoryStands}
use Rattle.std.specs.Option.{option_and_then}
use Rattle.jv_interp_held.specs.ClassStates.{AreClassStates}
use Rattle.jv_interp_control.specs.ControlStands.{IsClassOf, PlaceStands, EndStands, ControlStands}
use Rattle.jv_interp_heap.specs.ObjectsInBlocks.{Blocks}
use Rattle.jv_interp_held.specs.declared.held.Held.{Held}
use Rattle.jv_interp_members.specs.declared.methods.Methods.{Methods}
use Rattle.jv_interp_members.specs.Methods.{AreMethods}
use Rattle.jv_interp_control.specs.declared.frames.Frames.{Frames}
use Rattle.jv_interp_control.specs.declared.control.Control.{Control}
use Rattle.jv_interp_control.specs.FramesStand.{FramesStand}
use Rattle.jv_interp_control.specs.Standing.{Kept, kept, Moves, StateStands, Reaches}
use Rattle.jv_interp_control.specs.Suspending.{Suspending, CanSuspend, Suspends}
use Rattle.jv_interp_control.specs.Running.{StateRuns}
use Rattle.jv_interp_held.specs.Growing.{Grows}
use Rattle.jv_interp_control.specs.Acting.{AreAsBefore}
use Rattle.jv_interp_control.specs.Resuming.{Resuming, CanResume, Resumed, NoneRuns}
use Rattle.jv_interp_control.specs.Initializing.{Initializing, IsAsBefore}
use Rattle.jv_interp_steps.specs.Guests.{IsLoadableOnTop, TakesStep}
use Rattle.jv_interp_steps.specs.Running.{RunsFrom, RunsIn, RanOn}
use Rattle.jv_interp_steps.proofs.Fewer.{cells_fall}

-- ---- the method that runs comes to stand in its record

module _ (program : Program) (texts : List (List ℕ)) (t : State) (addresses : List ℕ) (at : Registers) (frames : Frames) (control : Control) (held : Held) (blocks : Blocks)
    (h : StateRuns program texts t addresses at (kept frames control held blocks)) where
  pub suspending : Suspending at at.top frames program addresses h.running.frame h.running.others t.control.words
  suspending = record {
    under = h.running.below;
    current = h.running.current;
    others_stand = h.running.others_stand;
    top_within = h.running.top_within;
    left_is = h.rooms.left_is;
    room = subst (λ (fs : List Frame). used_words fs + t.control.words ≤ length frames.words.items) h.running.frames_are h.rooms.room;
    few = h.rooms.few;
    records_fit = h.rooms.records_fit;
  }

  pub can_suspend : CanSuspend at at.top frames
  can_suspend = record {
    program = program;
    addresses = addresses;
    frame = h.running.frame;
    others = h.running.others;
    left = t.control.words;
    suspending = suspending;
  }

  pub stands : (after : Frames) → Suspends at at.top frames after → StateStands program texts t addresses (kept after control held blocks)
  stands after suspends = record {
    frames =
        subst (λ (fs : List Frame). FramesStand program addresses fs after t.control.words) (sym h.running.frames_are)
        (suspends program addresses h.running.frame h.running.others t.control.words suspending);
    control = h.control;
    memory = h.memory;
  }

clash : false ≡ true → ⊥
clash e = cc

-- a list that is not empty, by the test of its length
pub some_there : {A : Type 0} (size : ℕ) (items : List A) → size ≡ length items → false ≡ (size == 0) → items ≡ [] → ⊥
some_there size items is test none = clash (subst (λ (n : ℕ). false ≡ (n == 0)) (is ∙ ap length none) test)

pub none_there : {A : Type 0} (size : ℕ) (items : List A) → size ≡ length items → true ≡ (size == 0) → items ≡ []
none_there size [] is test = refl
none_there size (x ∷ items) is test = let zero = eqb-true size 0 (sym test) in absurd (omega (arith, is, zero))

pub as_before_twice : (a b c : Frames) → AreAsBefore a b → AreAsBefore b c → AreAsBefore a c
as_before_twice a b c f g = record {
  words = g.words ∙ f.words;
  records = g.records ∙ f.records;
  capacity = g.capacity ∙ f.capacity;
  top = g.top ∙ f.top;
  left = g.left ∙ f.left;
}

-- a method runs as before where all is as before
pub runs_again :
    (program : Program) (texts : List (List ℕ)) (t : State) (addresses : List ℕ) (at at_after : Registers) (frames after : Frames) (control control_after : Control)
    (held held_after : Held) (blocks blocks_after : Blocks) → StateRuns program texts t addresses at (kept frames control held blocks) → at_after ≡ at
    → AreAsBefore frames after → control_after ≡ control → held_after ≡ held → blocks_after ≡ blocks
    → StateRuns program texts t addresses at_after (kept after control_after held_after blocks_after)
runs_again program texts t addresses at at_after frames after control control_after held held_after blocks blocks_after h at_is a control_is held_is blocks_are =
    subst (λ (r : Registers). StateRuns program texts t addresses r (kept after control_after held_after blocks_after)) (sym at_is)
    (record {
      running =
          subst (λ (ws : List ℕ). RunningStands program addresses t.frames at after.records.items ws t.control.words) (sym a.words)
          (subst (λ (rs : List FrameRecord). RunningStands program addresses t.frames at rs frames.words.items t.control.words) (sym a.records) h.running);
      rooms =
          let size = ap (λ (ws : List ℕ). length ws) a.words in
          let room = h.rooms.room in
          let few = h.rooms.few in
          let fit = h.rooms.records_fit in
          let capacity = a.capacity in
          record {
            left_is = h.rooms.left_is ∙ sym a.left;
            room = omega (arith, room, size);
            few = omega (arith, few, size);
            records_fit = omega (arith, fit, size, capacity);
          };
      control = subst (λ (c : Control). ControlStands program.world t.control c) (sym control_is) h.control;
      memory =
          subst (λ (m : Held). MemoryStands program.world texts t.memory addresses m blocks_after) (sym held_is)
          (subst (λ (b : Blocks). MemoryStands program.world texts t.memory addresses held b) (sym blocks_are) h.memory);
    })

-- ---- the newest frame's method goes on, or it is an initialization

module _ (world : World) (verified : List Bool) (program : Program) (texts : List (List ℕ)) (s : State) (addresses : List ℕ) (frames : Frames) (control : Control) (held : Held) (blocks : Blocks)
    (h : RunsFrom world verified program texts s addresses (kept frames control held blocks)) where
  pub resuming : (methods : Methods) → AreMethods world methods → Resuming methods frames program addresses s.frames s.control.words
  resuming methods are = record { are = subst (λ (w : World). AreMethods w methods) (sym h.guest.world_is) are; stand = h.stands.frames }

  pub can_resume : (methods : Methods) → AreMethods world methods → CanResume methods frames
  can_resume methods are =
      record { program = program; addresses = addresses; all = s.frames; left = s.control.words; resuming = resuming methods are }

  pub runs_in :
      (at : Registers) (after : Frames) → Resumed program addresses s.frames s.control.words at after
      → RunsIn world verified at program texts s addresses (kept after control held blocks)
  runs_in at after r = record {
    guest = h.guest;
    safe = h.safe;
    runs = record { running = r.running; rooms = r.rooms; control = h.stands.control; memory = h.stands.memory };
  }

  -- frames that are as before stand as before
  pub stands_again : (after : Frames) → AreAsBefore frames after → StateStands program texts s addresses (kept after control held blocks)
  stands_again after a =
      let f = h.stands.frames in
      let size = ap (λ (ws : List ℕ). length ws) a.words in
      record {
        frames = record {
          stand =
              subst (λ (n : ℕ). AreFrames program addresses s.frames (reverse after.records.items) (in_use after.words.items n)) (sym a.top)
              (subst (λ (ws : List ℕ). AreFrames program addresses s.frames (reverse after.records.items) (in_use ws frames.top)) (sym a.words)
              (subst (λ (rs : List FrameRecord). AreFrames program addresses s.frames (reverse rs) (in_use frames.words.items frames.top)) (sym a.records) f.stand));
          top_within = let low = f.top_within in let top = a.top in omega (arith, low, size, top);
          left_is = f.left_is ∙ sym a.left;
          room = let room = f.room in omega (arith, room, size);
          few = let few = f.few in omega (arith, few, size);
          records_fit = let fit = f.records_fit in let capacity = a.capacity in omega (arith, fit, size, capacity);
        };
        control = h.stands.control;
        memory = h.stands.memory;
      }

  -- and where control is, too, though a state was set and set back
  pub stands_refused :
      (after : Frames) (control_after : Control) (held_after : Held) (blocks_after : Blocks) → AreAsBefore frames after → IsAsBefore control control_after
      → held_after ≡ held → blocks_after ≡ blocks → StateStands program texts s addresses (kept after control_after held_after blocks_after)
  stands_refused after control_after held_after blocks_after a b held_is blocks_are =
      let again = stands_again after a in
      let c = h.stands.control in
      record {
        frames = again.frames;
        control = record {
          states = subst (λ ss. AreClassStates program.world s.control.states ss) (sym b.states) c.states;
          throws = c.throws ∙ sym b.throws;
          last = subst (λ l. IsClassOf program.world s.control.last l) (sym b.last) c.last;
          place = subst (λ p. PlaceStands program.world s.control.place p) (sym b.place) c.place;
          main = ap (λ m. option_and_then (slice_get (methods_of program.world)) m) b.main ∙ c.main;
          end = subst (λ e. EndStands program.world s.control.end e) (sym b.end) c.end;
        };
        memory =
            subst (λ (m : Held). MemoryStands program.world texts s.memory addresses m blocks_after) (sym held_is)
            (subst (λ (bs : Blocks). MemoryStands program.world texts s.memory addresses held bs) (sym blocks_are) h.stands.memory);
      }

  abbrev pub next : State
  next = (h.safe 0 s refl).0

  abbrev pub takes : TakesStep program s next
  takes = (h.safe 0 s refl).1

  pub some_frames : (frames.records.items ≡ [] → ⊥) → s.frames ≡ [] → ⊥
  some_frames some none =
      some (none_turned frames.records.items (none_kept (reverse frames.records.items) (in_use frames.words.items frames.top)
      (subst (λ (fs : List Frame). AreFrames program addresses fs (reverse frames.records.items) (in_use frames.words.items frames.top)) none h.stands.frames.stand)))
    where
      none_kept : (kept : List FrameRecord) (used : List ℕ) → AreFrames program addresses [] kept used → kept ≡ []
      none_kept [] used a = refl
      none_kept (k ∷ more) used a = absurd a

      none_turned : (rs : List FrameRecord) → reverse rs ≡ [] → rs ≡ []
      none_turned [] e = refl
      none_turned (r ∷ rs) e = let long = length-reverse (r ∷ rs) in let none = ap length e in absurd (omega (arith, long, none))

  initializing :
      (fs : List Frame) → s.frames ≡ fs → (s.frames ≡ [] → ⊥) → NoneRuns fs → (f : InitializationFrame) × (below : List Frame) × (s.frames ≡ Initializes f ∷ below)
  initializing [] is some none = absurd (some is)
  initializing (Runs f ∷ below) is some none = absurd none
  initializing (Initializes f ∷ below) is some none = (f, below, is)

  pub moves :
      (after : Frames) → AreAsBefore frames after → NoneRuns s.frames → (frames.records.items ≡ [] → ⊥)
      → Moves world (Initializing verified) program texts s next addresses (kept after control held blocks)
  moves after a none some =
      let first = initializing s.frames refl (some_frames some) none in
      record {
        world_is = h.guest.world_is;
        guests = h.guest.guests;
        stands = stands_again after a;
        does = record {
          frame = first.0;
          below = first.1;
          frames_are = first.2;
          are = h.guest.are;
          units = h.guest.units;
          loadable = subst (λ (fs : List Frame). IsLoadableOnTop program.world fs) first.2 takes.initialized;
          does = subst (λ (fs : List Frame). step_in program s.memory fs s.control ≡ Ok next) first.2 takes.does;
        };
      }

-- ---- what was reached from frames that were taken out of their records, or are as before

pub reached_again :
    (program : Program) (texts : List (List ℕ)) (t : State) (addresses : List ℕ) (first second : Frames) (control : Control) (held : Held) (blocks : Blocks)
    (after : Kept) → Reaches program texts t addresses (kept first control held blocks) after
    → Reaches program texts t addresses (kept second control held blocks) after
reached_again program texts t addresses first second control held blocks after r = record { more = r.more; stands = r.stands; grows = r.grows }

-- cells only fall
pub fewer :
    StepKeeps → (program : Program) (texts : List (List ℕ)) (s t : State) (addresses : List ℕ) (before after : Kept) → step program s ≡ Ok t
    → StateStands program texts s addresses before → Reaches program texts t addresses before after → after.held.cells ≤ before.held.cells
fewer keeps program texts s t addresses before after does stands r =
    let less = cells_fall program.world s.memory t.memory (keeps program s t does).memory in
    let first = stands.memory.cells in
    let last = r.stands.memory.cells in
    omega (arith, less, first, last)

-- so it is with one that ran so far
pub ran_still :
    (k : ℕ) (program : Program) (texts : List (List ℕ)) (s : State) (addresses : List ℕ) (before : Kept) (at at_after : Registers) (frames after : Frames)
    (control : Control) (held held_after : Held) (blocks blocks_after : Blocks)
    → RanOn k program texts s addresses at before (kept frames control held blocks) → at_after ≡ at → AreAsBefore frames after → held_after ≡ held
    → blocks_after ≡ blocks → RanOn k program texts s addresses at_after before (kept after control held_after blocks_after)
ran_still k program texts s addresses before at at_after frames after control held held_after blocks blocks_after r at_is a held_is blocks_are = record {
  t = r.t;
  does = r.does;
  runs = record {
    more = r.runs.more;
    runs =
        runs_again program texts r.t (addresses ++ r.runs.more) at at_after frames after control control held held_after blocks blocks_after r.runs.runs at_is a
        refl held_is blocks_are;
    grows = subst (λ (b : Blocks). Grows addresses r.runs.more before.blocks b) (sym blocks_are) r.runs.grows;
  };
}
