-- The newest frame is an initialization, whose first task is done, or of which none is left (JVMS 5.5).
use Rattle.std.proofs.Common.{◌≡◌, ℕ, ◌+◌, ◌<◌, ◌≤◌, Bool, List, [], ◌∷◌, ◌++◌, Ok, drop, length, reverse, refl, sym, ap, subst, ◌∙◌, arith, length-append}
use Rattle.std.proofs.lemmas.List.{length-reverse}
use Rattle.std.specs.Prelude.{vec_capacity}
use Rattle.std.proofs.lemmas.List.Sums.{sum_by-cons}
use Rattle.jv_meaning_world.specs.World.{World}
use Rattle.jv_link_cache.specs.declared.linked.Linked.{Linked}
use Rattle.jv_link_cache.specs.Linked.{IsLinked}
use Rattle.jv_meaning_machine.specs.Frames.{Task as TaskOfNames, InitializationFrame, Frame}
use Rattle.jv_meaning_machine.specs.Frames.Frame.{Initializes}
use Rattle.jv_meaning_machine.specs.State.{Program, State, state_of}
use Rattle.jv_meaning_machine.specs.Initialization.{tasks_of, tasks_left, do_task, do_first}
use Rattle.jv_meaning_machine.specs.Laws.Shapes.{frame_words, used_words}
use Rattle.jv_interp_words.specs.declared.records.InitializationRecord.{InitializationRecord}
use Rattle.jv_interp_words.specs.declared.records.FrameRecord.{FrameRecord}
use Rattle.jv_interp_words.specs.declared.records.FrameRecord.TheVariants as records
use Rattle.jv_interp_words.specs.FramesInWords.{in_use, InitializationStands, AreFrames}
use Rattle.jv_interp_heap.specs.ObjectsInBlocks.{Blocks}
use Rattle.jv_interp_held.specs.declared.held.Held.{Held}
use Rattle.jv_interp_control.specs.declared.frames.Frames.{Frames}
use Rattle.jv_interp_control.specs.declared.control.Control.{Control}
use Rattle.jv_interp_control.specs.FramesStand.{FramesStand}
use Rattle.jv_interp_control.specs.Standing.{kept, Moves}
use Rattle.jv_interp_control.proofs.Counted.{frames_count, reversed_push}
use Rattle.jv_interp_control.proofs.FramesPassed.{NewestInitializes, initializes_there}
use Rattle.jv_interp_members.proofs.Sites.{stood}
use Rattle.jv_interp_control.specs.declared.tasks.Task.{Task}
use Rattle.jv_interp_control.specs.declared.tasks.Task.TheVariants as tasks
use Rattle.jv_interp_control.specs.Initializing.{Initializing}
use Rattle.jv_interp_control.specs.Inside.Tasks.{Asking, IsTask}
use Rattle.jv_interp_control.specs.Inside.DoingTasks.{DoingTask, CanTake}
use Rattle.jv_interp_control.specs.Inside.Finishing.{Finishing}
use Rattle.jv_interp_control.proofs.FewTasks.{few_tasks}

same_frame : (a b : InitializationFrame) → Initializes a ≡ Initializes b → a ≡ b
same_frame a b e = cc

pub can_take :
    (world : World) (names : List (List ℕ)) (verified : List Bool) (program : Program) (s t : State) (addresses : List ℕ) (frames : Frames) (control : Control) (held : Held) (blocks : Blocks)
    → Moves world (Initializing verified) program names s t addresses (kept frames control held blocks) → CanTake frames
can_take world names verified program s t addresses frames control held blocks h = record {
  program = program;
  addresses = addresses;
  frame = h.does.frame;
  below = h.does.below;
  left = s.control.words;
  stand = subst (λ (fs : List Frame). FramesStand program addresses fs frames s.control.words) h.does.frames_are h.stands.frames;
}

module _ (world : World) (names : List (List ℕ)) (verified : List Bool) (program : Program) (s t : State) (addresses : List ℕ) (frames : Frames) (control : Control) (held : Held) (blocks : Blocks)
    (h : Moves world (Initializing verified) program names s t addresses (kept frames control held blocks)) (rest : List FrameRecord) (own : InitializationRecord)
    (there : frames.records.items ≡ rest ++ records.Initializes own ∷ []) where
  abbrev pub frame : InitializationFrame
  frame = h.does.frame

  abbrev pub below : List Frame
  below = h.does.below

  stand : FramesStand program addresses (Initializes frame ∷ below) frames s.control.words
  stand = subst (λ (fs : List Frame). FramesStand program addresses fs frames s.control.words) h.does.frames_are h.stands.frames

  newest : NewestInitializes program addresses (Initializes frame) below own (reverse rest) (in_use frames.words.items frames.top)
  newest = initializes_there program addresses (Initializes frame) below frames s.control.words rest stand own there

  pub own_stands : InitializationStands program frame own
  own_stands = subst (λ (f : InitializationFrame). InitializationStands program f own) (sym (same_frame frame newest.initialization newest.is)) newest.stands

  pub asking : (linked : Linked) → IsLinked world linked → length world < 2147483648 → Asking world linked own control.states.items program frame s.control.states
  asking linked is few = record {
    world_is = h.world_is;
    linked_is = subst (λ (w : World). IsLinked w linked) (sym h.world_is) is;
    stands = own_stands;
    states_are = h.stands.control.states;
    loadable = h.does.loadable;
    few =
        few_tasks program.world h.guests frame.class (stood program.world own.class frame.class own_stands.has_number) h.does.loadable
        (subst (λ (w : World). length w < 2147483648) (sym h.world_is) few);
    few_classes = subst (λ (w : World). length w < 2147483648) (sym h.world_is) few;
  }

  -- there is room for its record
  pub room_for_it : length rest + 1 ≤ vec_capacity frames.records
  room_for_it =
      let many = frames_count program addresses (Initializes frame ∷ below) (reverse frames.records.items) (in_use frames.words.items frames.top) stand.stand in
      let size = length-reverse frames.records.items in
      let total : length frames.records.items ≡ length rest + 1 = ap length there ∙ length-append rest (records.Initializes own ∷ []) in
      let room = stand.room in
      let fit = stand.records_fit in
      omega (arith, many, size, total, room, fit)

  count : used_words (Initializes frame ∷ below) ≡ 4 + used_words below
  count = sum_by-cons frame_words (Initializes frame) below

  -- ---- none is left

  pub finishing :
      (after : Frames) → tasks_left s.control.states frame.tasks ≡ [] → after ≡ record frames { records = after.records } → after.records.items ≡ rest
      → vec_capacity after.records ≡ vec_capacity frames.records
      → Moves world (Finishing own.class after) program names (state_of s.memory below s.control) t addresses (kept after control held blocks)
  finishing after none same records_are capacity =
      let words_are = ap (λ (f : Frames). f.words) same in
      let size = ap (λ v. length v.items) words_are in
      let top_is = ap (λ (f : Frames). f.top) same in
      record {
        world_is = h.world_is;
        guests = h.guests;
        stands = record {
          frames = record {
            stand =
                subst (λ (f : Frames). AreFrames program addresses below (reverse after.records.items) (in_use f.words.items f.top)) (sym same)
                (subst (λ (l : List FrameRecord). AreFrames program addresses below (reverse l) (in_use frames.words.items frames.top)) (sym records_are) newest.others);
            top_within = let a = stand.top_within in omega (arith, a, size, top_is);
            left_is = stand.left_is ∙ sym (ap (λ (f : Frames). f.left) same);
            room = let a = stand.room in let c = count in omega (arith, a, c, size);
            few = let a = stand.few in omega (arith, a, size);
            records_fit = let a = stand.records_fit in omega (arith, a, size, capacity);
          };
          control = h.stands.control;
          memory = h.stands.memory;
        };
        does = record {
          l = frame.class;
          class_is = own_stands.has_number;
          room = let a = stand.room in let c = count in omega (arith, a, c, size);
          does = subst (λ (l : List TaskOfNames). do_first program s.memory frame below s.control l ≡ Ok t) none h.does.does;
        };
      }

  -- ---- a task is first

  abbrev pub frame_then : ℕ → InitializationFrame
  frame_then done = record frame { tasks = drop done (tasks_of program.world frame.class) }

  abbrev pub state_then : ℕ → State
  state_then done = state_of s.memory (Initializes (frame_then done) ∷ below) s.control

  does_task :
      (kind : Task) (done : ℕ) (task : TaskOfNames) → IsTask program.world own.class kind task
      → do_task program s.memory (Initializes (frame_then done) ∷ below) s.control task ≡ Ok t
      → DoingTask own.class kind verified program addresses (state_then done) t
  does_task (tasks.Sets member) done task is e = record {
    l = is.0;
    f = is.1;
    constant = is.2;
    class_is = is.3;
    field_is = is.4;
    initial = is.5;
    units = h.does.units;
    does = subst (λ (k : TaskOfNames). do_task program s.memory (Initializes (frame_then done) ∷ below) s.control k ≡ Ok t) is.6 e;
  }
  does_task (tasks.Begins number) done task is e = record {
    l = is.0;
    at = is.1;
    are = h.does.are;
    does = subst (λ (k : TaskOfNames). do_task program s.memory (Initializes (frame_then done) ∷ below) s.control k ≡ Ok t) is.2 e;
  }
  does_task (tasks.Runs member) done task is e = record {
    d = is.0;
    at = is.1;
    does = subst (λ (k : TaskOfNames). do_task program s.memory (Initializes (frame_then done) ∷ below) s.control k ≡ Ok t) is.2 e;
  }

  pub tasked :
      (kind : Task) (done : ℕ) (task : TaskOfNames) (after : Frames) → tasks_left s.control.states frame.tasks ≡ task ∷ drop done (tasks_of program.world frame.class)
      → IsTask program.world own.class kind task → after ≡ record frames { records = after.records }
      → after.records.items ≡ rest ++ records.Initializes (record { class = own.class; done = done }) ∷ [] → vec_capacity after.records ≡ vec_capacity frames.records
      → Moves world (DoingTask own.class kind verified) program names (state_then done) t addresses (kept after control held blocks)
  tasked kind done task after first is same records_are capacity =
      let words_are = ap (λ (f : Frames). f.words) same in
      let size = ap (λ v. length v.items) words_are in
      let top_is = ap (λ (f : Frames). f.top) same in
      let own_then : InitializationRecord = record { class = own.class; done = done } in
      let stands_then : InitializationStands program (frame_then done) own_then = record { has_number = own_stands.has_number; tasks_are = refl } in
      let turned : reverse after.records.items ≡ records.Initializes own_then ∷ reverse rest =
      ap (λ (l : List FrameRecord). reverse l) records_are ∙ reversed_push rest (records.Initializes own_then) in
      let count_then : used_words (Initializes (frame_then done) ∷ below) ≡ 4 + used_words below = sum_by-cons frame_words (Initializes (frame_then done)) below in
      record {
        world_is = h.world_is;
        guests = h.guests;
        stands = record {
          frames = record {
            stand =
                subst (λ (f : Frames). AreFrames program addresses (Initializes (frame_then done) ∷ below) (reverse after.records.items) (in_use f.words.items f.top)) (sym same)
                (subst (λ (l : List FrameRecord). AreFrames program addresses (Initializes (frame_then done) ∷ below) l (in_use frames.words.items frames.top)) (sym turned)
                (stands_then, newest.others));
            top_within = let a = stand.top_within in omega (arith, a, size, top_is);
            left_is = stand.left_is ∙ sym (ap (λ (f : Frames). f.left) same);
            room = let a = stand.room in let c = count in omega (arith, a, c, count_then, size);
            few = let a = stand.few in omega (arith, a, size);
            records_fit = let a = stand.records_fit in omega (arith, a, size, capacity);
          };
          control = h.stands.control;
          memory = h.stands.memory;
        };
        does =
            does_task kind done task is
            (subst (λ (l : List TaskOfNames). do_first program s.memory frame below s.control l ≡ Ok t) first h.does.does);
      }
