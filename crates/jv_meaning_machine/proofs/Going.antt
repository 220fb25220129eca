-- What holds over throws, calls, returns and initializations: frames go exactly where the guest ends, and whatever each change
-- of the frames, of the classes' states and of the count of throws keeps.
use Rattle.std.proofs.Common.{◌≡◌, ℕ, ◌+◌, ◌-◌, ◌^◌, min, nat_le, Bool, true, false, List, [], ◌∷◌, Option, Some, None, Ok, refl, codes, if◌then◌else◌}
use Rattle.jv_format.specs.declared.handlers.Handler.{Handler}
use Rattle.jv_text.specs.declared.descriptor.FieldTypeOf.{FieldTypeOf}
use Rattle.jv_code.specs.Insns.{Instruction}
use Rattle.jv_meaning_world.specs.World.{Loaded, World}
use Rattle.jv_meaning_world.specs.Overriding.{Declared}
use Rattle.jv_meaning_world.specs.LookUps.{DeclaredField}
use Rattle.jv_meaning_typing.specs.LinkErrors.{error_class}
use Rattle.jv_meaning_typing.specs.LinkErrors.LinkError.{NoClassDefFoundError, VerifyError}
use Rattle.jv_meaning_machine.specs.Faults.{OrFault, found, ◌>>=◌}
use Rattle.jv_meaning_machine.specs.Faults.Fault.{OffsetFault}
use Rattle.jv_meaning_machine.specs.Values.{Value, narrowed}
use Rattle.jv_meaning_machine.specs.Values.Value.{Reference}
use Rattle.jv_meaning_machine.specs.Objects.{Instance, key_of, is_at_or_below}
use Rattle.jv_meaning_machine.specs.Frames.{MethodFrame, InitializationFrame, Task, Frame}
use Rattle.jv_meaning_machine.specs.Frames.Frame.{Runs, Initializes}
use Rattle.jv_meaning_machine.specs.Frames.Task.{SetsField, InitializesFirst, RunsInitializer}
use Rattle.jv_meaning_machine.specs.State.{Program, Memory, ThrowPlace, Control, State, End, state_of, with_state, ClassState, ClassStates, class_state}
use Rattle.jv_meaning_machine.specs.State.ClassState.{Untouched, Begun, Initialized, Erroneous}
use Rattle.jv_meaning_machine.specs.State.End.{Running, Returned, Threw, NoMain}
use Rattle.jv_meaning_machine.specs.Costs.{code_words, method_words, initialization_words, with_words_back}
use Rattle.jv_meaning_machine.specs.Effects.{Effect, out_of_memory}
use Rattle.jv_meaning_machine.specs.Effects.Effect.{Goes, Enters, Constructs, Leaves, Throws, Raises, Begins}
use Rattle.jv_meaning_machine.specs.Fields.{described, with_static, with_object}
use Rattle.jv_meaning_machine.specs.Instructions.{execute}
use Rattle.jv_meaning_machine.specs.Literals.{constant_value}
use Rattle.jv_meaning_machine.specs.Throws.{exception, Thrown, place_in, replacement_place, thrown_once_more, thrown, handler_for, at_handler, caught, replacement_if, replacement, passed_initialization, passed_method, unwound, throw, raise}
use Rattle.jv_meaning_machine.specs.Entering.{within_words, method_frame, entered_above, enter, entered_on, enter_init, at_offset, resumed, leave_to}
use Rattle.jv_meaning_machine.specs.Initialization.{begin, initialization_of, is_verified, main_arguments, tasks_left, finish, finished, set_field, do_task, with_tasks, do_first}
use Rattle.jv_meaning_machine.specs.Step.{waiting, act, context, step_in, step}
use Rattle.jv_meaning_machine.specs.Laws.Ends.{EndFits}
use Rattle.jv_meaning_machine.proofs.Leading.{Leads, leaf, bound, bound_tested, chained}
use Rattle.jv_meaning_machine.proofs.Began.{begun_if, begun_in}

-- Of the classes' states, the count of throws and the frames: each change that the machine makes keeps it.
pub record IsKept (G : ClassStates → ℕ → List Frame → Type 0) : Type 0 where
  pub throws :
      (states : ClassStates) (throws : ℕ) (frames : List Frame) → G states throws frames → G states (min (throws + 1) (2 ^ 64 - 1)) frames
  pub enters :
      (states : ClassStates) (throws : ℕ) (frames : List Frame) (frame : MethodFrame) → G states throws frames
      → G states throws (Runs frame ∷ frames)
  pub leaves :
      (states : ClassStates) (throws : ℕ) (frames : List Frame) (frame : MethodFrame) → G states throws (Runs frame ∷ frames)
      → G states throws frames
  pub begins :
      (states : ClassStates) (throws : ℕ) (frames : List Frame) (l : Loaded) (tasks : List Task) → class_state states l ≡ Untouched
      → G states throws frames → G ((l.class.name, Begun) ∷ states) throws (Initializes (record { class = l; tasks = tasks }) ∷ frames)
  pub goes_on :
      (states : ClassStates) (throws : ℕ) (frames : List Frame) (frame : InitializationFrame) (tasks : List Task)
      → G states throws (Initializes frame ∷ frames) → G states throws (Initializes (record frame { tasks = tasks }) ∷ frames)
  pub finishes :
      (states : ClassStates) (throws : ℕ) (frames : List Frame) (frame : InitializationFrame) → G states throws (Initializes frame ∷ frames)
      → G ((frame.class.class.name, Initialized) ∷ states) throws frames
  pub fails :
      (states : ClassStates) (throws : ℕ) (frames : List Frame) (frame : InitializationFrame) → G states throws (Initializes frame ∷ frames)
      → G ((frame.class.class.name, Erroneous) ∷ states) throws frames

module _ (G : ClassStates → ℕ → List Frame → Type 0) (kept : IsKept G) where
  -- the guest runs, and it holds with these frames
  pub record Going (control : Control) (frames : List Frame) : Type 0 where
    pub running : control.end ≡ Running
    pub holds : G control.states control.throws frames

  -- and of a state, where the guest may have ended
  abbrev pub Went : State → Type 0
  Went s = EndFits s × G s.control.states s.control.throws s.frames

  on :
      (memory : Memory) (frame : Frame) (below : List Frame) (control : Control) → Going control (frame ∷ below)
      → Went (state_of memory (frame ∷ below) control)
  on memory frame below control h = ((λ e. absurd cc, λ ended. absurd (ended h.running)), h.holds)

  pub ends :
      (memory : Memory) (control : Control) (end : End) → (end ≡ Running → ⊥) → Going control []
      → Went (state_of memory [] (record control { end = end }))
  ends memory control end other h = ((λ e. other, λ ended. refl), h.holds)

  -- a frame in place of another one
  in_place :
      (control : Control) (frame next : MethodFrame) (below : List Frame) → Going control (Runs frame ∷ below)
      → Going control (Runs next ∷ below)
  in_place control frame next below h = record {
    running = h.running;
    holds = kept.enters control.states control.throws below next (kept.leaves control.states control.throws below frame h.holds);
  }

  left :
      (control : Control) (frame : MethodFrame) (below : List Frame) → Going control (Runs frame ∷ below)
      → Going (with_words_back (method_words frame) control) below
  left control frame below h = record { running = h.running; holds = kept.leaves control.states control.throws below frame h.holds }

  -- ---- throws

  abbrev Passing : List Frame → Thrown → Type 0
  Passing frames t = Going t.control frames

  thrown_goes :
      (place : Option ThrowPlace) (control : Control) (frames : List Frame) (made : Memory × ℕ) → Going control frames
      → Leads Thrown (Passing frames) (thrown place control made)
  thrown_goes place control frames made h =
      let known : (object : ℕ) (class : List ℕ)
      → Passing frames (record { object = object; class = class; memory = made.0; control = thrown_once_more class place control }) =
      λ object class. record { running = h.running; holds = kept.throws control.states control.throws frames h.holds } in
      search (bound, leaf, known)

  caught_goes :
      (t : Thrown) (frame : MethodFrame) (below : List Frame) (handler : Handler) → Passing (Runs frame ∷ below) t
      → Leads State Went (caught t frame below handler)
  caught_goes t frame below handler h =
      let caught : Went (state_of t.memory (at_handler frame handler.handler_pc t.object ∷ below) t.control) =
      on t.memory (at_handler frame handler.handler_pc t.object) below t.control
      (in_place t.control frame (record frame { offset = handler.handler_pc; stack = Reference t.object ∷ [] }) below h) in
      search (bound_tested, leaf, caught)

  replaced_if_goes :
      (world : World) (t : Thrown) (frames : List Frame) (error : Bool) → Passing frames t
      → Leads Thrown (Passing frames) (replacement_if world t frames error)
  replaced_if_goes world t frames true h = leaf (Passing frames) t h
  replaced_if_goes world t frames false h =
      bound (exception world (codes "java/lang/ExceptionInInitializerError") t.memory) (thrown (replacement_place frames t.control) t.control)
      (λ made e. thrown_goes (replacement_place frames t.control) t.control frames made h)

  replaced_goes :
      (world : World) (t : Thrown) (frames : List Frame) → Passing frames t → Leads Thrown (Passing frames) (replacement world t frames)
  replaced_goes world t frames h = replaced_if_goes world t frames (is_at_or_below world t.class (codes "java/lang/Error")) h

  passed :
      (t : Thrown) (frame : InitializationFrame) (below : List Frame) → Passing (Initializes frame ∷ below) t
      → Passing below (passed_initialization frame.class t)
  passed t frame below h = record { running = h.running; holds = kept.fails t.control.states t.control.throws below frame h.holds }

  not_running : (class : List ℕ) → Threw class ≡ Running → ⊥
  not_running class e = absurd cc

  pub unwound_goes : (world : World) (frames : List Frame) (t : Thrown) → Passing frames t → Leads State Went (unwound world t frames)
  unwound_goes world [] t h =
      leaf Went (state_of t.memory [] (record t.control { end = Threw t.class }))
      (ends t.memory t.control (Threw t.class) (not_running t.class) h)
  unwound_goes world (Runs frame ∷ below) t h =
      by_handler (handler_for world t.class frame) (unwound_goes world below (passed_method frame t) (left t.control frame below h))
    where
      by_handler :
          (handler : Option Handler) → Leads State Went (unwound world (passed_method frame t) below)
          → Leads State Went (elim handler [
            | None ↦ unwound world (passed_method frame t) below
            | Some handler ↦ caught t frame below handler
          ])
      by_handler None up = up
      by_handler (Some handler) up = caught_goes t frame below handler h
  unwound_goes world (Initializes frame ∷ below) t h =
      chained (Passing below) Went (replacement world (passed_initialization frame.class t) below) (λ t. unwound world t below)
      (replaced_goes world (passed_initialization frame.class t) below (passed t frame below h))
      (λ t k. unwound_goes world below t k)

  throw_goes :
      (world : World) (memory : Memory) (frames : List Frame) (control : Control) (object : ℕ) → Going control frames
      → Leads State Went (throw world memory frames control object)
  throw_goes world memory frames control object h =
      chained (Passing frames) Went (thrown (place_in frames) control (memory, object)) (λ t. unwound world t frames)
      (thrown_goes (place_in frames) control frames (memory, object) h) (λ t k. unwound_goes world frames t k)

  raise_goes :
      (world : World) (memory : Memory) (frames : List Frame) (control : Control) (name : List ℕ) → Going control frames
      → Leads State Went (raise world memory frames control name)
  raise_goes world memory frames control name h =
      chained (Passing frames) Went (exception world name memory >>= thrown (place_in frames) control) (λ t. unwound world t frames)
      (bound (exception world name memory) (thrown (place_in frames) control) (λ made e. thrown_goes (place_in frames) control frames made h))
      (λ t k. unwound_goes world frames t k)

  -- ---- words that are given

  within_goes :
      (world : World) (memory : Memory) (frames : List Frame) (control : Control) (words : ℕ) (next : Control → OrFault State)
      → Going control frames → Leads State Went (next (record control { words = control.words - words }))
      → Leads State Went (within_words world memory frames control words next)
  within_goes world memory frames control words next h given = by_test (nat_le words control.words)
    where
      by_test :
          (test : Bool)
          → Leads State Went (elim (if test then Some (record control { words = control.words - words }) else None) [
            | None ↦ raise world memory frames control (codes "java/lang/StackOverflowError")
            | Some given ↦ next given
          ])
      by_test true = given
      by_test false = raise_goes world memory frames control (codes "java/lang/StackOverflowError") h

  -- ---- calls and returns

  entered_goes :
      (program :
      Program) (frames : List Frame) (d : Declared) (receiver : Option ℕ) (arguments : List Value) (memory : Memory) (control : Control)
      → Going control frames → Leads State Went (entered_above program frames d receiver arguments memory control)
  entered_goes program frames d receiver arguments memory control h =
      bound (method_frame program d receiver arguments) (λ frame. Ok (state_of memory (Runs frame ∷ frames) control))
      (λ frame e.
      leaf Went _
      (on memory (Runs frame) frames control
      (record { running = h.running; holds = kept.enters control.states control.throws frames frame h.holds })))

  fewer : (control : Control) (frames : List Frame) (words : ℕ) → Going control frames → Going (record control { words = words }) frames
  fewer control frames words h = record { running = h.running; holds = h.holds }

  pub enter_goes :
      (program :
      Program) (memory : Memory) (frames : List Frame) (control : Control) (d : Declared) (receiver : Option ℕ) (arguments : List Value)
      → Going control frames → Leads State Went (enter program memory frames control d receiver arguments)
  enter_goes program memory frames control d receiver arguments h =
      bound (found OffsetFault d.method.code)
      (λ code.
      within_words program.world memory frames control (code_words code) (entered_above program frames d receiver arguments memory))
      (λ code e.
      within_goes program.world memory frames control (code_words code) (entered_above program frames d receiver arguments memory) h
      (entered_goes program frames d receiver arguments memory (record control { words = control.words - code_words code })
      (fewer control frames (control.words - code_words code) h)))

  enter_init_goes :
      (program : Program) (memory : Memory) (frames : List Frame) (control : Control) (d : Declared) (object : ℕ) (instance : Instance)
      (arguments :
      List Value) → Going control frames → Leads State Went (enter_init program memory frames control d object instance arguments)
  enter_init_goes program memory frames control d object instance arguments h =
      bound (found OffsetFault d.method.code)
      (λ code.
      within_words program.world memory frames control (code_words code)
      (entered_above program frames d (Some object) arguments (with_object object (entered_on d instance) memory)))
      (λ code e.
      within_goes program.world memory frames control (code_words code)
      (entered_above program frames d (Some object) arguments (with_object object (entered_on d instance) memory)) h
      (entered_goes program frames d (Some object) arguments (with_object object (entered_on d instance) memory)
      (record control { words = control.words - code_words code }) (fewer control frames (control.words - code_words code) h)))

  leave_to_goes :
      (memory : Memory) (frames : List Frame) (control : Control) (result : List Value) → Going control frames
      → Leads State Went (leave_to memory frames control result)
  leave_to_goes memory [] control result h =
      leaf Went (state_of memory [] (record control { end = Returned })) (ends memory control Returned (λ e. absurd cc) h)
  leave_to_goes memory (Runs caller ∷ below) control result h =
      bound (resumed caller result) (λ next. Ok (state_of memory (Runs next ∷ below) control))
      (λ next e. leaf Went _ (on memory (Runs next) below control (in_place control caller next below h)))
  leave_to_goes memory (Initializes frame ∷ below) control result h =
      leaf Went (state_of memory (Initializes frame ∷ below) control) (on memory (Initializes frame) below control h)

  -- ---- initializations

  -- of a class that is untouched
  pub begin_first_goes :
      (program : Program) (memory : Memory) (frames : List Frame) (control : Control) (l : Loaded) (verified : Bool)
      → class_state control.states l ≡ Untouched → Going control frames
      → Leads State Went (begun_if program memory frames control l verified)
  begin_first_goes program memory frames control l false e h = raise_goes program.world memory frames control (error_class VerifyError) h
  begin_first_goes program memory frames control l true e h =
      within_goes program.world memory frames control initialization_words
      (λ given. Ok (state_of memory (Initializes (initialization_of program.world l) ∷ frames) (with_state Begun l given))) h
      (leaf Went _
      (on memory (Initializes (initialization_of program.world l)) frames
      (record control { words = control.words - initialization_words; states = (l.class.name, Begun) ∷ control.states })
      (record {
        running = h.running;
        holds = kept.begins control.states control.throws frames l (initialization_of program.world l).tasks e h.holds;
      })))

  begin_goes :
      (program : Program) (memory : Memory) (frame : Frame) (below : List Frame) (control : Control) (l : Loaded)
      → Going control (frame ∷ below) → Leads State Went (begin program memory (frame ∷ below) control l)
  begin_goes program memory frame below control l h = by_state (class_state control.states l) refl
    where
      by_state :
          (state : ClassState) → class_state control.states l ≡ state
          → Leads State Went (begun_in program memory (frame ∷ below) control l state)
      by_state Begun e = leaf Went (state_of memory (frame ∷ below) control) (on memory frame below control h)
      by_state Initialized e = leaf Went (state_of memory (frame ∷ below) control) (on memory frame below control h)
      by_state Erroneous e = raise_goes program.world memory (frame ∷ below) control (error_class NoClassDefFoundError) h
      by_state Untouched e = begin_first_goes program memory (frame ∷ below) control l (is_verified program l) e h

  set_field_goes :
      (world : World) (frame : Frame) (below : List Frame) (control : Control) (d : DeclaredField) (type : FieldTypeOf (List ℕ))
      (memory : Memory)
      (made : Option (Memory × Value)) → Going control (frame ∷ below)
      → Leads State Went (set_field world (frame ∷ below) control d type memory made)
  set_field_goes world frame below control d type memory None h = throw_goes world memory (frame ∷ below) control out_of_memory h
  set_field_goes world frame below control d type memory (Some made) h =
      leaf Went _ (on (with_static (key_of d) (narrowed type made.1) made.0) frame below control h)

  do_task_goes :
      (program : Program) (memory : Memory) (frame : Frame) (below : List Frame) (control : Control) (task : Task)
      → Going control (frame ∷ below) → Leads State Went (do_task program memory (frame ∷ below) control task)
  do_task_goes program memory frame below control (SetsField d constant) h =
      bound (described d.field.descriptor)
      (λ type. constant_value program constant memory >>= set_field program.world (frame ∷ below) control d type memory)
      (λ type e.
      bound (constant_value program constant memory) (set_field program.world (frame ∷ below) control d type memory)
      (λ made f. set_field_goes program.world frame below control d type memory made h))
  do_task_goes program memory frame below control (InitializesFirst l) h = begin_goes program memory frame below control l h
  do_task_goes program memory frame below control (RunsInitializer d) h = enter_goes program memory (frame ∷ below) control d None [] h

  finish_goes :
      (program : Program) (memory : Memory) (frames : List Frame) (control : Control) → Going control frames
      → Leads State Went (finish program memory frames control)
  finish_goes program memory [] control h =
      let entered : (d : Declared) → Leads State Went (enter program memory [] control d None (Reference main_arguments ∷ [])) =
      λ d. enter_goes program memory [] control d None (Reference main_arguments ∷ []) h in
      search (bound, entered)
  finish_goes program memory (frame ∷ below) control h =
      leaf Went (state_of memory (frame ∷ below) control) (on memory frame below control h)

  do_first_goes :
      (program : Program) (memory : Memory) (frame : InitializationFrame) (below : List Frame) (control : Control) (tasks : List Task)
      → Going control (Initializes frame ∷ below) → Leads State Went (do_first program memory frame below control tasks)
  do_first_goes program memory frame below control [] h =
      finish_goes program memory below (finished frame.class control)
      (record { running = h.running; holds = kept.finishes control.states control.throws below frame h.holds })
  do_first_goes program memory frame below control (task ∷ more) h =
      do_task_goes program memory (with_tasks frame more) below control task
      (record { running = h.running; holds = kept.goes_on control.states control.throws below frame more h.holds })

  -- ---- what an instruction's effect makes of the frames

  waits :
      (control : Control) (frame : MethodFrame) (stack : List Value) (below : List Frame) → Going control (Runs frame ∷ below)
      → Going control (waiting frame stack ∷ below)
  waits control frame stack below h = in_place control frame (record frame { stack = stack }) below h

  act_goes :
      (program : Program) (frame : MethodFrame) (below : List Frame) (control : Control) (memory : Memory) (effect : Effect)
      → Going control (Runs frame ∷ below) → Leads State Went (act program frame below control (memory, effect))
  act_goes program frame below control memory (Goes offset locals stack) h =
      bound (at_offset frame offset locals stack) (λ next. Ok (state_of memory (Runs next ∷ below) control))
      (λ next f. leaf Went _ (on memory (Runs next) below control (in_place control frame next below h)))
  act_goes program frame below control memory (Enters d receiver arguments stack) h =
      enter_goes program memory (waiting frame stack ∷ below) control d receiver arguments (waits control frame stack below h)
  act_goes program frame below control memory (Constructs d object instance arguments stack) h =
      enter_init_goes program memory (waiting frame stack ∷ below) control d object instance arguments (waits control frame stack below h)
  act_goes program frame below control memory (Leaves result) h =
      leave_to_goes memory below (with_words_back (method_words frame) control) result (left control frame below h)
  act_goes program frame below control memory (Throws object) h = throw_goes program.world memory (Runs frame ∷ below) control object h
  act_goes program frame below control memory (Raises class) h = raise_goes program.world memory (Runs frame ∷ below) control class h
  act_goes program frame below control memory (Begins l) h = begin_goes program memory (Runs frame) below control l h

  -- ---- a step

  -- where there is a frame the guest runs
  running :
      (memory : Memory) (frame : Frame) (below : List Frame) (control : Control) → Went (state_of memory (frame ∷ below) control)
      → Going control (frame ∷ below)
  running memory frame below control h = record { running = by_end control.end refl; holds = h.1 }
    where
      none : (control.end ≡ Running → ⊥) → ⊥
      none other = let empty : (frame ∷ below) ≡ [] = h.0.1 other in absurd cc

      by_end : (end : End) → control.end ≡ end → end ≡ Running
      by_end Running f = refl
      by_end Returned f = absurd (none (λ g. absurd cc))
      by_end (Threw class) f = absurd (none (λ g. absurd cc))
      by_end NoMain f = absurd (none (λ g. absurd cc))

  step_in_goes :
      (program : Program) (memory : Memory) (frames : List Frame) (control : Control) → Went (state_of memory frames control)
      → Leads State Went (step_in program memory frames control)
  step_in_goes program memory [] control h = leaf Went (state_of memory [] control) h
  step_in_goes program memory (Runs frame ∷ below) control h =
      let now : Going control (Runs frame ∷ below) = running memory (Runs frame) below control h in
      let known :
      (insn :
      Instruction) → Leads State Went (execute (context program memory control frame insn) insn >>= act program frame below control) =
      λ insn.
      bound (execute (context program memory control frame insn) insn) (act program frame below control)
      (λ made f. act_goes program frame below control made.0 made.1 now) in
      search (bound, known)
  step_in_goes program memory (Initializes frame ∷ below) control h =
      do_first_goes program memory frame below control (tasks_left control.states frame.tasks)
      (running memory (Initializes frame) below control h)

  pub step_goes : (program : Program) (s t : State) → Went s → step program s ≡ Ok t → Went t
  step_goes program s t h e = (step_in_goes program s.memory s.frames s.control h).at t e
