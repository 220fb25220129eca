-- What stays over throws, calls, returns and initializations: the memory of an earlier state, and the sum of all words.
use Rattle.std.proofs.Common.{◌≡◌, ℕ, ◌+◌, ◌-◌, ◌≤◌, nat_le, Bool, true, false, List, [], ◌∷◌, Option, Some, None, Ok, Err, refl, sym, ap, ◌∙◌, arith, sum_by, codes, slice_get, true≢false, if◌then◌else◌}
use Rattle.std.specs.List.{flat_map}
use Rattle.std.proofs.lemmas.Bool.{leb-true}
use Rattle.std.proofs.lemmas.List.Sums.{sum_by-cons}
use Rattle.jv_format.specs.declared.handlers.Handler.{Handler}
use Rattle.jv_text.specs.declared.descriptor.FieldTypeOf.{FieldTypeOf}
use Rattle.jv_class_structure.specs.Parts.{CodeSeen}
use Rattle.jv_meaning_world.specs.World.{Loaded, class_named}
use Rattle.jv_meaning_world.specs.Overriding.{Declared}
use Rattle.jv_meaning_world.specs.LookUps.{DeclaredField}
use Rattle.jv_meaning_typing.specs.Layout.{object_cells}
use Rattle.jv_text.specs.Types.{method_type_of}
use Rattle.jv_meaning_typing.specs.LinkErrors.{error_class}
use Rattle.jv_meaning_typing.specs.LinkErrors.LinkError.{NoClassDefFoundError, VerifyError}
use Rattle.jv_meaning_typing.specs.Environment.{Environment}
use Rattle.jv_meaning_machine.specs.Faults.{OrFault, found, tested, ◌>>=◌}
use Rattle.jv_meaning_machine.specs.Faults.Fault.{OffsetFault, UnverifiedFault, ReferenceFault}
use Rattle.jv_meaning_machine.specs.Values.{Value}
use Rattle.jv_meaning_machine.specs.Values.Value.{Reference}
use Rattle.jv_meaning_machine.specs.Objects.{Instance, made_object, is_at_or_below}
use Rattle.jv_meaning_machine.specs.Objects.Object.{InstanceOf}
use Rattle.jv_meaning_machine.specs.Frames.{local_words, filled, MethodFrame, InitializationFrame, Task, Frame}
use Rattle.jv_meaning_machine.specs.Frames.Frame.{Runs, Initializes}
use Rattle.jv_meaning_machine.specs.Frames.Task.{SetsField, InitializesFirst, RunsInitializer}
use Rattle.jv_meaning_machine.specs.State.{Program, is_class_accepted, entered_method, Memory, ThrowPlace, Control, State, state_of, with_state, ClassState, class_state}
use Rattle.jv_meaning_machine.specs.State.ClassState.{Untouched, Begun, Initialized, Erroneous}
use Rattle.jv_meaning_machine.specs.State.End.{Threw, Returned}
use Rattle.jv_meaning_machine.specs.Costs.{paid, code_words, method_words, initialization_words, with_words_back}
use Rattle.jv_meaning_machine.specs.Effects.{out_of_memory}
use Rattle.jv_meaning_machine.specs.Fields.{described, with_object}
use Rattle.jv_meaning_machine.specs.Literals.{constant_value}
use Rattle.jv_meaning_machine.specs.Throws.{exception_made, exception, Thrown, place_in, replacement_place, thrown_once_more, thrown, handler_for, caught, replacement_if, replacement, passed_initialization, passed_method, unwound, throw, raise}
use Rattle.jv_meaning_machine.specs.Entering.{within_words, passed_values, method_frame, entered_above, enter, entered_on, enter_init, at_offset, resumed, leave_to, leave}
use Rattle.jv_meaning_machine.specs.Initialization.{begin, initialization_of, is_verified, main_arguments, tasks_left, finish, finished, set_field, do_task, with_tasks, do_first, initialization_step}
use Rattle.jv_meaning_machine.specs.Laws.Shapes.{frame_words}
use Rattle.jv_meaning_machine.specs.Laws.Kept.{Keeps}
use Rattle.jv_meaning_machine.proofs.Leading.{Leads, leaf, bound, bound_tested, chained, bound_gave, found_gave, tested_gave}
use Rattle.jv_meaning_machine.proofs.Began.{begun_if, begun_in}
use Rattle.jv_meaning_machine.proofs.KeptMemory.{keeps_over, keeps_joined, keeps_static, keeps_object, by_payment, named_itself, new_is_of_class}
use Rattle.jv_meaning_machine.proofs.KeptOutcomes.{IsKeptIf, constant_value_kept, cost_of_object, cost_of_one}

-- What a frame's words are does not change while it is in the method.
frames_words : (frame : Frame) (below : List Frame) → sum_by frame_words (frame ∷ below) ≡ frame_words frame + sum_by frame_words below
frames_words frame below = sum_by-cons frame_words frame below

-- ---- the code of a method that is entered is that of its frame

abbrev code_in : CodeSeen → OrFault Environment → Option CodeSeen
code_in code (Ok known) = Some known.code
code_in code (Err fault) = Some code

abbrev words_in : CodeSeen → OrFault MethodFrame → ℕ
words_in code (Ok known) = method_words known
words_in code (Err fault) = code_words code

abbrev words_of : CodeSeen → Option CodeSeen → ℕ
words_of code (Some known) = code_words known
words_of code None = code_words code

environment_code :
    (program : Program) (d : Declared) (method : Environment) → entered_method program d ≡ Ok method → d.method.code ≡ Some method.code
environment_code program d method e =
    let first = bound_gave (tested UnverifiedFault (is_class_accepted program d.by) d) _ method e in
    let same : d ≡ first.0 = (tested_gave UnverifiedFault (is_class_accepted program d.by) d first.0 first.1).1 in
    let second = bound_gave (found OffsetFault first.0.method.code) _ method first.2 in
    let third = bound_gave (found OffsetFault (method_type_of first.0.method.descriptor)) _ method second.2 in
    let fourth = bound_gave (found OffsetFault (program.instructions second.0.code)) _ method third.2 in
    ap (λ (x : Declared). x.method.code) same
    ∙ found_gave OffsetFault first.0.method.code second.0 second.1
    ∙ ap (λ (o : OrFault Environment). code_in second.0 o) fourth.2

-- what a frame's words are
frame_code :
    (program : Program) (d : Declared) (receiver : Option ℕ) (arguments : List Value) (frame : MethodFrame) (code : CodeSeen)
    → method_frame program d receiver arguments ≡ Ok frame → found OffsetFault d.method.code ≡ Ok code
    → method_words frame ≡ code_words code
frame_code program d receiver arguments frame code e f =
    let first = bound_gave (entered_method program d) _ frame e in
    let second = bound_gave (filled first.0.code.max_locals (flat_map local_words (passed_values receiver arguments))) _ frame first.2 in
    let known : Some code ≡ Some first.0.code =
    sym (found_gave OffsetFault d.method.code code f) ∙ environment_code program d first.0 first.1 in
    ap (λ (o : OrFault MethodFrame). words_in code o) (sym second.2)
    ∙ ap (λ (o : Option CodeSeen). words_of code o) (sym known)

-- of a program, from a memory and a sum of words on
module _ (program : Program) (from : Memory) (all_words : ℕ) (main : List ℕ) where
  -- these frames have the words and a control has the rest
  pub record HasWords (control : Control) (frames : List Frame) : Type 0 where
    pub sum : sum_by frame_words frames + control.words ≡ all_words
    pub same_main : control.main ≡ main

  abbrev pub KeepsFrom : Memory → Type 0
  KeepsFrom memory = Keeps program.world from memory

  abbrev pub Stays : State → Type 0
  Stays s = KeepsFrom s.memory × HasWords s.control s.frames

  -- ---- exceptions

  abbrev HasMemory : Memory × ℕ → Type 0
  HasMemory made = KeepsFrom made.0

  made_stays :
      (l : Loaded) (memory : Memory) → class_named program.world l.class.name ≡ Some l → KeepsFrom memory
      → HasMemory (exception_made program.world l memory (paid (object_cells program.world l) memory))
  made_stays l memory named h =
      by_payment (λ (o : Option Memory). HasMemory (exception_made program.world l memory o)) (object_cells program.world l) memory h
      (λ within.
      keeps_over from memory _ h
      (keeps_joined (object_cells program.world l) (made_object program.world l ∷ []) memory within
      (cost_of_one (made_object program.world l) ∙ cost_of_object program.world true l) (new_is_of_class program.world true l named, tt)))

  exception_stays :
      (name : List ℕ) (memory : Memory) → KeepsFrom memory → Leads (Memory × ℕ) HasMemory (exception program.world name memory)
  exception_stays name memory h =
      bound (found ReferenceFault (class_named program.world name)) _
      (λ l e.
      leaf HasMemory _
      (made_stays l memory (named_itself program.world name l (found_gave ReferenceFault (class_named program.world name) l e)) h))

  -- ---- throws

  pub record ThrownFrom (frames : List Frame) (t : Thrown) : Type 0 where
    pub memory : KeepsFrom t.memory
    pub words : HasWords t.control frames

  thrown_stays :
      (place : Option ThrowPlace) (control : Control) (frames : List Frame) (made : Memory × ℕ) → KeepsFrom made.0 → HasWords control frames
      → Leads Thrown (ThrownFrom frames) (thrown place control made)
  thrown_stays place control frames made h w =
      let known : (object : ℕ) (class : List ℕ)
      → ThrownFrom frames (record { object = object; class = class; memory = made.0; control = thrown_once_more class place control }) =
      λ object class. record { memory = h; words = record { sum = w.sum; same_main = w.same_main } } in
      search (bound, leaf, known)

  caught_stays :
      (t : Thrown) (frame : MethodFrame) (below : List Frame) (handler : Handler) → ThrownFrom (Runs frame ∷ below) t
      → Leads State Stays (caught t frame below handler)
  caught_stays t frame below handler h =
      let after : Stays (state_of t.memory (Runs (record frame { offset = handler.handler_pc; stack = Reference t.object ∷ [] }) ∷ below) t.control) =
      (h.memory, record { sum = h.words.sum; same_main = h.words.same_main }) in
      search (bound_tested, leaf, after)

  -- a frame that is left gives its words back
  method_passed :
      (t : Thrown) (frame : MethodFrame) (below : List Frame) → ThrownFrom (Runs frame ∷ below) t → ThrownFrom below (passed_method frame t)
  method_passed t frame below h =
      let sum : sum_by frame_words below + (t.control.words + method_words frame) ≡ all_words =
      omega (arith, frames_words (Runs frame) below, h.words.sum) in
      record { memory = h.memory; words = record { sum = sum; same_main = h.words.same_main } }

  initialization_passed :
      (t : Thrown) (frame : InitializationFrame) (below : List Frame) → ThrownFrom (Initializes frame ∷ below) t
      → ThrownFrom below (passed_initialization frame.class t)
  initialization_passed t frame below h =
      let sum : sum_by frame_words below + (t.control.words + initialization_words) ≡ all_words =
      omega (arith, frames_words (Initializes frame) below, h.words.sum) in
      record { memory = h.memory; words = record { sum = sum; same_main = h.words.same_main } }

  replaced_if_stays :
      (t : Thrown) (frames : List Frame) (error : Bool) → ThrownFrom frames t
      → Leads Thrown (ThrownFrom frames) (replacement_if program.world t frames error)
  replaced_if_stays t frames true h = leaf (ThrownFrom frames) t h
  replaced_if_stays t frames false h =
      chained HasMemory (ThrownFrom frames) (exception program.world (codes "java/lang/ExceptionInInitializerError") t.memory)
      (thrown (replacement_place frames t.control) t.control)
      (exception_stays (codes "java/lang/ExceptionInInitializerError") t.memory h.memory)
      (λ made k. thrown_stays (replacement_place frames t.control) t.control frames made k h.words)

  replaced_stays :
      (t : Thrown) (frames : List Frame) → ThrownFrom frames t → Leads Thrown (ThrownFrom frames) (replacement program.world t frames)
  replaced_stays t frames h = replaced_if_stays t frames (is_at_or_below program.world t.class (codes "java/lang/Error")) h

  pub unwound_stays : (frames : List Frame) (t : Thrown) → ThrownFrom frames t → Leads State Stays (unwound program.world t frames)
  unwound_stays [] t h =
      leaf Stays (state_of t.memory [] (record t.control { end = Threw t.class }))
      (h.memory, record { sum = h.words.sum; same_main = h.words.same_main })
  unwound_stays (Runs frame ∷ below) t h =
      by_handler (handler_for program.world t.class frame) (unwound_stays below (passed_method frame t) (method_passed t frame below h))
    where
      by_handler :
          (handler : Option Handler) → Leads State Stays (unwound program.world (passed_method frame t) below)
          → Leads State Stays (elim handler [
            | None ↦ unwound program.world (passed_method frame t) below
            | Some handler ↦ caught t frame below handler
          ])
      by_handler None up = up
      by_handler (Some handler) up = caught_stays t frame below handler h
  unwound_stays (Initializes frame ∷ below) t h =
      chained (ThrownFrom below) Stays (replacement program.world (passed_initialization frame.class t) below)
      (λ t. unwound program.world t below)
      (replaced_stays (passed_initialization frame.class t) below (initialization_passed t frame below h))
      (λ t k. unwound_stays below t k)

  pub throw_stays :
      (memory : Memory) (frames : List Frame) (control : Control) (object : ℕ) → KeepsFrom memory → HasWords control frames
      → Leads State Stays (throw program.world memory frames control object)
  throw_stays memory frames control object h w =
      chained (ThrownFrom frames) Stays (thrown (place_in frames) control (memory, object)) (λ t. unwound program.world t frames)
      (thrown_stays (place_in frames) control frames (memory, object) h w) (λ t k. unwound_stays frames t k)

  pub raise_stays :
      (memory : Memory) (frames : List Frame) (control : Control) (name : List ℕ) → KeepsFrom memory → HasWords control frames
      → Leads State Stays (raise program.world memory frames control name)
  raise_stays memory frames control name h w =
      chained (ThrownFrom frames) Stays (exception program.world name memory >>= thrown (place_in frames) control) (λ t. unwound program.world t frames)
      (chained HasMemory (ThrownFrom frames) (exception program.world name memory) (thrown (place_in frames) control) (exception_stays name memory h)
      (λ made k. thrown_stays (place_in frames) control frames made k w))
      (λ t k. unwound_stays frames t k)

  -- ---- words that are given

  within_stays :
      (memory : Memory) (frames : List Frame) (control : Control) (words : ℕ) (next : Control → OrFault State) → KeepsFrom memory
      → HasWords control frames
      → (words ≤ control.words → Leads State Stays (next (record control { words = control.words - words })))
      → Leads State Stays (within_words program.world memory frames control words next)
  within_stays memory frames control words next h w given = by_test (nat_le words control.words) refl
    where
      by_test :
          (test : Bool) → nat_le words control.words ≡ test
          → Leads State Stays (elim (if test then Some (record control { words = control.words - words }) else None) [
            | None ↦ raise program.world memory frames control (codes "java/lang/StackOverflowError")
            | Some given ↦ next given
          ])
      by_test true e = given (leb-true words control.words e)
      by_test false e = raise_stays memory frames control (codes "java/lang/StackOverflowError") h w

  -- ---- calls

  entered_stays :
      (frames :
      List Frame) (d : Declared) (receiver : Option ℕ) (arguments : List Value) (memory : Memory) (control : Control) (code : CodeSeen)
      → found OffsetFault d.method.code ≡ Ok code → KeepsFrom memory → HasWords control frames → code_words code ≤ control.words
      → Leads State Stays
      (entered_above program frames d receiver arguments memory (record control { words = control.words - code_words code }))
  entered_stays frames d receiver arguments memory control code e h w within =
      bound (method_frame program d receiver arguments)
      (λ frame. Ok (state_of memory (Runs frame ∷ frames) (record control { words = control.words - code_words code })))
      (λ frame f.
      let its : method_words frame ≡ code_words code = frame_code program d receiver arguments frame code f e in
      let sum : sum_by frame_words (Runs frame ∷ frames) + (control.words - code_words code) ≡ all_words =
      omega (arith, frames_words (Runs frame) frames, w.sum, within, its) in
      leaf Stays _ (h, record { sum = sum; same_main = w.same_main }))

  pub enter_stays :
      (memory : Memory) (frames : List Frame) (control : Control) (d : Declared) (receiver : Option ℕ) (arguments : List Value)
      → KeepsFrom memory → HasWords control frames → Leads State Stays (enter program memory frames control d receiver arguments)
  enter_stays memory frames control d receiver arguments h w =
      bound (found OffsetFault d.method.code)
      (λ code.
      within_words program.world memory frames control (code_words code) (entered_above program frames d receiver arguments memory))
      (λ code e.
      within_stays memory frames control (code_words code) (entered_above program frames d receiver arguments memory) h w
      (λ within. entered_stays frames d receiver arguments memory control code e h w within))

  -- entering an `<init>` changes no shape
  entered_keeps :
      (d : Declared) (object : ℕ) (instance : Instance) (memory : Memory) → slice_get memory.objects object ≡ Some (InstanceOf instance)
      → instance.constructed ≡ false → Keeps program.world memory (with_object object (entered_on d instance) memory)
  entered_keeps d object instance memory e raw =
      keeps_object object (InstanceOf instance) (entered_on d instance) memory e refl
      (λ constructed. absurd (true≢false (sym constructed ∙ raw)))

  pub enter_init_stays :
      (memory : Memory) (frames : List Frame) (control : Control) (d : Declared) (object : ℕ) (instance : Instance) (arguments : List Value)
      → slice_get memory.objects object ≡ Some (InstanceOf instance) → instance.constructed ≡ false → KeepsFrom memory
      → HasWords control frames → Leads State Stays (enter_init program memory frames control d object instance arguments)
  enter_init_stays memory frames control d object instance arguments there raw h w =
      bound (found OffsetFault d.method.code)
      (λ code.
      within_words program.world memory frames control (code_words code)
      (entered_above program frames d (Some object) arguments (with_object object (entered_on d instance) memory)))
      (λ code e.
      within_stays memory frames control (code_words code)
      (entered_above program frames d (Some object) arguments (with_object object (entered_on d instance) memory)) h w
      (λ within.
      entered_stays frames d (Some object) arguments (with_object object (entered_on d instance) memory) control code e
      (keeps_over from memory _ h (entered_keeps d object instance memory there raw)) w within))

  -- ---- returns

  -- a frame that goes on is in the method in which it was
  abbrev IsOf : MethodFrame → MethodFrame → Type 0
  IsOf frame next = method_words next ≡ method_words frame

  pub at_offset_is_of :
      (frame : MethodFrame) (offset : ℕ) (locals stack : List Value) → Leads MethodFrame (IsOf frame) (at_offset frame offset locals stack)
  at_offset_is_of frame offset locals stack =
      let same : IsOf frame (record frame { offset = offset; locals = locals; stack = stack }) = refl in
      search (bound_tested, leaf, same)

  resumed_is_of : (caller : MethodFrame) (result : List Value) → Leads MethodFrame (IsOf caller) (resumed caller result)
  resumed_is_of caller result = search (bound, at_offset_is_of)

  -- a frame in place of one in the same method
  pub goes_on_stays :
      (memory : Memory) (control : Control) (frame next : MethodFrame) (below : List Frame) → KeepsFrom memory
      → HasWords control (Runs frame ∷ below) → IsOf frame next → Stays (state_of memory (Runs next ∷ below) control)
  goes_on_stays memory control frame next below h w same =
      let sum : sum_by frame_words (Runs next ∷ below) + control.words ≡ all_words =
      omega (arith, frames_words (Runs frame) below, frames_words (Runs next) below, same, w.sum) in
      (h, record { sum = sum; same_main = w.same_main })

  leave_to_stays :
      (memory : Memory) (frames : List Frame) (control : Control) (result : List Value) → KeepsFrom memory → HasWords control frames
      → Leads State Stays (leave_to memory frames control result)
  leave_to_stays memory [] control result h w =
      leaf Stays (state_of memory [] (record control { end = Returned })) (h, record { sum = w.sum; same_main = w.same_main })
  leave_to_stays memory (Runs caller ∷ below) control result h w =
      chained (IsOf caller) Stays (resumed caller result) (λ next. Ok (state_of memory (Runs next ∷ below) control))
      (resumed_is_of caller result) (λ next same. leaf Stays _ (goes_on_stays memory control caller next below h w same))
  leave_to_stays memory (Initializes frame ∷ below) control result h w =
      leaf Stays (state_of memory (Initializes frame ∷ below) control) (h, record { sum = w.sum; same_main = w.same_main })

  pub leave_stays :
      (memory : Memory) (frame : MethodFrame) (below : List Frame) (control : Control) (result : List Value) → KeepsFrom memory
      → HasWords control (Runs frame ∷ below) → Leads State Stays (leave memory frame below control result)
  leave_stays memory frame below control result h w =
      let sum : sum_by frame_words below + (control.words + method_words frame) ≡ all_words =
      omega (arith, frames_words (Runs frame) below, w.sum) in
      leave_to_stays memory below (with_words_back (method_words frame) control) result h (record { sum = sum; same_main = w.same_main })

  -- ---- initializations

  begun_stays :
      (memory : Memory) (frames : List Frame) (control : Control) (l : Loaded) (verified : Bool) → KeepsFrom memory
      → HasWords control frames → Leads State Stays (begun_if program memory frames control l verified)
  begun_stays memory frames control l false h w = raise_stays memory frames control (error_class VerifyError) h w
  begun_stays memory frames control l true h w =
      within_stays memory frames control initialization_words
      (λ given. Ok (state_of memory (Initializes (initialization_of program.world l) ∷ frames) (with_state Begun l given))) h w
      (λ within.
      let frame : InitializationFrame = initialization_of program.world l in
      let sum : sum_by frame_words (Initializes frame ∷ frames) + (control.words - initialization_words) ≡ all_words =
      omega (arith, frames_words (Initializes frame) frames, w.sum, within) in
      leaf Stays _ (h, record { sum = sum; same_main = w.same_main }))

  pub begin_stays :
      (memory : Memory) (frames : List Frame) (control : Control) (l : Loaded) → KeepsFrom memory → HasWords control frames
      → Leads State Stays (begin program memory frames control l)
  begin_stays memory frames control l h w = by_state (class_state control.states l)
    where
      by_state : (state : ClassState) → Leads State Stays (begun_in program memory frames control l state)
      by_state Begun = leaf Stays (state_of memory frames control) (h, w)
      by_state Initialized = leaf Stays (state_of memory frames control) (h, w)
      by_state Erroneous = raise_stays memory frames control (error_class NoClassDefFoundError) h w
      by_state Untouched = begun_stays memory frames control l (is_verified program l) h w

  set_field_stays :
      (frames : List Frame) (control : Control) (d : DeclaredField) (type : FieldTypeOf (List ℕ)) (memory : Memory)
      (made : Option (Memory × Value)) → KeepsFrom memory → IsKeptIf program.world memory made → HasWords control frames
      → Leads State Stays (set_field program.world frames control d type memory made)
  set_field_stays frames control d type memory None h k w = throw_stays memory frames control out_of_memory h w
  set_field_stays frames control d type memory (Some made) h k w =
      leaf Stays _ (keeps_over from made.0 _ (keeps_over from memory made.0 h k.0) (keeps_static _ _ made.0), record { sum = w.sum; same_main = w.same_main })

  do_task_stays :
      (memory : Memory) (frames : List Frame) (control : Control) (task : Task) → KeepsFrom memory → HasWords control frames
      → Leads State Stays (do_task program memory frames control task)
  do_task_stays memory frames control (SetsField d constant) h w =
      bound (described d.field.descriptor)
      (λ type. constant_value program constant memory >>= set_field program.world frames control d type memory)
      (λ type e.
      chained (IsKeptIf {A = Value} program.world memory) Stays (constant_value program constant memory)
      (set_field program.world frames control d type memory) (constant_value_kept program constant memory)
      (λ made k. set_field_stays frames control d type memory made h k w))
  do_task_stays memory frames control (InitializesFirst l) h w = begin_stays memory frames control l h w
  do_task_stays memory frames control (RunsInitializer d) h w = enter_stays memory frames control d None [] h w

  finish_stays :
      (memory : Memory) (frames : List Frame) (control : Control) → KeepsFrom memory → HasWords control frames
      → Leads State Stays (finish program memory frames control)
  finish_stays memory [] control h w =
      let entered : (d : Declared) → Leads State Stays (enter program memory [] control d None (Reference main_arguments ∷ [])) =
      λ d. enter_stays memory [] control d None (Reference main_arguments ∷ []) h w in
      search (bound, entered)
  finish_stays memory (frame ∷ below) control h w = leaf Stays (state_of memory (frame ∷ below) control) (h, w)

  do_first_stays :
      (memory : Memory) (frame : InitializationFrame) (below : List Frame) (control : Control) (tasks : List Task) → KeepsFrom memory
      → HasWords control (Initializes frame ∷ below) → Leads State Stays (do_first program memory frame below control tasks)
  do_first_stays memory frame below control [] h w =
      let sum : sum_by frame_words below + (control.words + initialization_words) ≡ all_words =
      omega (arith, frames_words (Initializes frame) below, w.sum) in
      finish_stays memory below (finished frame.class control) h (record { sum = sum; same_main = w.same_main })
  do_first_stays memory frame below control (task ∷ more) h w =
      do_task_stays memory (with_tasks frame more ∷ below) control task h (record { sum = w.sum; same_main = w.same_main })

  pub initialization_step_stays :
      (memory : Memory) (frame : InitializationFrame) (below : List Frame) (control : Control) → KeepsFrom memory
      → HasWords control (Initializes frame ∷ below) → Leads State Stays (initialization_step program memory frame below control)
  initialization_step_stays memory frame below control h w =
      do_first_stays memory frame below control (tasks_left control.states frame.tasks) h w
