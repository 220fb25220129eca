-- A judged guest meets no fault: what is proved of instructions, of effects, of initializations and of the start, put together.
use Rattle.std.proofs.Common.{◌≡◌, inl, inr, ℕ, Bool, false, List, [], ◌∷◌, length, Option, Some, Ok, Err, sym, subst, ap, ◌∙◌}
use Rattle.std.specs.Prelude.{IsTrue, codes, ◌||◌}
use Rattle.std.specs.List.{Contains, list_all}
use Rattle.std.specs.Str.{bytes_eq}
use Rattle.jv_text.specs.Descriptor.{MethodDescriptor}
use Rattle.jv_text.specs.Name.{is_init}
use Rattle.jv_text.specs.Types.{TypesAgree, method_type_of}
use Rattle.jv_stackmap.specs.Frames.{Frame as TypesOf}
use Rattle.jv_code.specs.Places.{StandsInList, NextStarts, OneList}
use Rattle.jv_meaning_world.specs.Library.{with_library}
use Rattle.jv_meaning_world.specs.Overriding.{Declared}
use Rattle.jv_meaning_typing.specs.Rule.{rule}
use Rattle.jv_meaning_machine.specs.Alone.{Feed, GuestFiles, Judged, IsJudged, AreUnits, Stands, alone}
use Rattle.jv_meaning_machine.specs.Effects.{Effect}
use Rattle.jv_meaning_machine.specs.Effects.Effect.{Goes, Enters, Constructs, Leaves, Throws, Raises, Begins}
use Rattle.jv_meaning_machine.specs.Frames.{MethodFrame, InitializationFrame, Frame}
use Rattle.jv_meaning_machine.specs.Frames.Frame.{Runs, Initializes}
use Rattle.jv_meaning_machine.specs.Start.{Budget, start}
use Rattle.jv_meaning_machine.specs.State.{Program, is_class_accepted, Memory, Control, State}
use Rattle.jv_meaning_machine.specs.Step.{act, step}
use Rattle.jv_meaning_machine.specs.Throws.{Thrown, unwound}
use Rattle.jv_meaning_machine.specs.Values.{Value}
use Rattle.jv_sound.specs.Values.{Heap}
use Rattle.jv_sound.specs.Memory.{AreLoadable}
use Rattle.jv_sound.specs.Sound.{IsChecked, IsSound}
use Rattle.jv_sound.specs.Frames.{Holds, HasMain, IsGood, IsRunning, IsBegun, AreVerified, AreWaiting, AreFrames, Promise, place_of, promise_by, promise_of}
use Rattle.jv_sound.specs.Frames.Promise.{Gives, Again}
use Rattle.jv_sound.specs.Law.{NeverFaults, ObjectsAreLoadable, InitializationsAreLoadable}
use Rattle.jv_meaning_world.specs.World.{Loaded}
use Rattle.jv_meaning_world.specs.Above.{above}
use Rattle.jv_meaning_world.specs.Verdicts.{is_loadable}
use Rattle.jv_meaning_world.proofs.Up.{none}
use Rattle.jv_meaning_typing.proofs.Found.{split}
use Rattle.jv_sound.proofs.Taking.{and_parts}
use Rattle.jv_meaning_machine.specs.Faults.{OrFault}
use Rattle.jv_meaning_machine.specs.Objects.Object.{InstanceOf}
use Rattle.jv_sound.specs.Effects.{IsThrown, ArePassed, AreEffects}
use Rattle.jv_sound.proofs.Asked.{AreFormed, tasks_ok, parameters_are_sorts, constructor_rules}
use Rattle.jv_sound.proofs.Acting.{goes, enters, throws as throws_acts, raised as raised_acts, leaves, begins_one}
use Rattle.jv_sound.proofs.Beginning.{raise_ok, throw_ok, within_ok, begin_ok}
use Rattle.jv_sound.proofs.Catching.{catch_fits}
use Rattle.jv_sound.proofs.ConstructsActs.{constructs_acts}
use Rattle.jv_sound.proofs.EnteringAbove.{Raises as RaisesFine, Throws as ThrowsFine, Begins as BeginsFine, WithinWords, FrameBegins}
use Rattle.jv_sound.proofs.Executing.{execute_ok}
use Rattle.jv_sound.proofs.FirstFrame.{method_frame_ok}
use Rattle.jv_sound.proofs.Frames.{IsThrownGood, AreCatching}
use Rattle.jv_sound.proofs.Heaps.{ready_any}
use Rattle.jv_sound.proofs.Initializing.{initialization_step_ok}
use Rattle.jv_sound.proofs.Judged.{judged_is_sound}
use Rattle.jv_sound.proofs.Memories.{exception_ok, loadable_of}
use Rattle.jv_sound.proofs.Replacing.{unwinding_ok}
use Rattle.jv_sound.proofs.SettingFields.{set_field_ok}
use Rattle.jv_sound.proofs.Start.{start_ok}
use Rattle.jv_sound.proofs.Stepping.{running_later, step_ok, alone_ok, is_ok}
use Rattle.jv_sound.proofs.SystemFacts.{raised, system_name, makeable, out_of_memory_is_thrown, throwable_is_plain, throwable_is_not_object, string_there_in}
use Rattle.jv_sound.proofs.Words.{slots_are_words}
use Rattle.jv_sound.proofs.WorldFacts.{world_is_formed}

some_same : {A : Type 0} (x y : A) → Some x ≡ Some y → x ≡ y
some_same x y e = cc

-- a method's result is that of its descriptor
promise_is : (program : Program) (f : MethodFrame) (d : Declared) (heap : Heap) (receiver : Option ℕ) (arguments : List Value)
    → IsChecked program f.method → f.method.site ≡ d → is_init d.method.name ≡ false
    → (passed : ArePassed program heap d receiver arguments) → promise_of f ≡ Gives passed.descriptor.result
promise_is program f d heap receiver arguments checked site plain passed =
    let same : f.method.descriptor ≡ passed.descriptor = some_same f.method.descriptor passed.descriptor
    (sym checked.is.descriptor ∙ ap (λ (x : Declared). method_type_of x.method.descriptor) site ∙ passed.described) in
    ap (λ (b : Bool). promise_by b f.method f.receiver) (ap (λ (x : Declared). is_init x.method.name) site ∙ plain) ∙ ap
    (λ (x : MethodDescriptor). Gives x.result) same

module _ (one_list : OneList) (next_starts : NextStarts) (stands_in_list : StandsInList) (program : Program) (sound : IsSound program)
    (formed : AreFormed program) (units : AreUnits program.units) where
  raises_system : (name : List ℕ) → IsTrue (bytes_eq name (codes "java/lang/VerifyError") ||
      (bytes_eq name (codes "java/lang/NoClassDefFoundError") || bytes_eq name (codes "java/lang/StackOverflowError")))
      → IsThrown program.world name
  raises_system name h = raised program sound name (system_name name h)

  unwinds : (heap : Heap) (t : Thrown) (fs : List Frame) → IsThrownGood program sound.rooted next_starts stands_in_list heap t
      → HasMain program t.control.main fs → AreCatching program sound.rooted next_starts stands_in_list heap fs
      → AreLoadable program.world heap.objects → Holds (IsGood program) (unwound program.world t fs)
  unwinds = unwinding_ok program sound next_starts stands_in_list (catch_fits program sound.rooted next_starts stands_in_list)

  raises : RaisesFine program sound.rooted next_starts stands_in_list
  raises =
      raise_ok program sound.rooted next_starts stands_in_list sound.named (loadable_of program)
      (throwable_is_plain program sound) throwable_is_not_object
      (exception_ok program (makeable program sound) (out_of_memory_is_thrown program sound))
      unwinds raises_system (tasks_ok program formed sound.named units)

  throws : ThrowsFine program sound.rooted next_starts stands_in_list
  throws =
      throw_ok program sound.rooted next_starts stands_in_list sound.named (loadable_of program)
      (throwable_is_plain program sound) throwable_is_not_object
      (exception_ok program (makeable program sound) (out_of_memory_is_thrown program sound))
      unwinds raises_system (tasks_ok program formed sound.named units)

  within : WithinWords program sound.rooted next_starts stands_in_list
  within =
      within_ok program sound.rooted next_starts stands_in_list sound.named (loadable_of program)
      (throwable_is_plain program sound) throwable_is_not_object
      (exception_ok program (makeable program sound) (out_of_memory_is_thrown program sound))
      unwinds raises_system (tasks_ok program formed sound.named units)

  begins : BeginsFine program
  begins =
      begin_ok program sound.rooted next_starts stands_in_list sound.named (loadable_of program)
      (throwable_is_plain program sound) throwable_is_not_object
      (exception_ok program (makeable program sound) (out_of_memory_is_thrown program sound))
      unwinds raises_system (tasks_ok program formed sound.named units)

  first_frames : FrameBegins program
  first_frames = method_frame_ok program sound one_list next_starts stands_in_list
      (parameters_are_sorts program formed sound.named units) slots_are_words

  -- what each effect makes of the frames
  acts :
      (control : Control) (frame : MethodFrame) (below : List Frame) (heap : Heap) → AreVerified program control.states
      → ((fs : List Frame) → HasMain program control.main fs)
      → (r : IsRunning program heap (length below) frame) → AreWaiting program heap (promise_of frame) below → (g : TypesOf)
      → rule frame.method frame.offset r.insn (r.checked.frames frame.offset) ≡ Some g
      → (out : Memory × Effect) → AreEffects program (place_of heap (length below) frame r.made) frame r.insn
      (r.checked.frames frame.offset) g out → Holds (IsGood program) (act program frame below control out)
  acts control frame below heap verified main r cs g rules (memory, Goes to values items) e =
      goes program sound.rooted next_starts stands_in_list (loadable_of program) raises throws within begins first_frames
      (promise_is program) control frame below heap verified main r cs g rules memory to values items e.heap e.is e.made e.grows
      e.memory e.effect
  acts control frame below heap verified main r cs g rules (memory, Enters d receiver arguments stack) e =
      enters program sound.rooted next_starts stands_in_list (loadable_of program) raises throws within begins first_frames
      (promise_is program) control frame below heap verified main r cs g rules memory d receiver arguments stack e.heap e.is
      e.made e.grows e.memory (ready_any (place_of heap (length below) frame r.made) e.heap e.made e.grows
      (r.checked.frames frame.offset).flag_this_uninit r.holding.ready) e.effect
  acts control frame below heap verified main r cs g rules (memory, Constructs d object instance arguments stack) e =
      constructs_acts program sound one_list next_starts stands_in_list
      (parameters_are_sorts program formed sound.named units) slots_are_words
      (λ d enterable init. (constructor_rules program formed sound.named units d enterable.here enterable.declared init).1)
      (loadable_of program) within control frame below heap verified main r cs g rules
      memory d object instance arguments stack e
  acts control frame below heap verified main r cs g rules (memory, Leaves result) e =
      leaves program sound.rooted next_starts stands_in_list (loadable_of program) raises throws within begins first_frames
      (promise_is program) control frame below heap verified main r cs g rules memory result e.heap e.is e.made e.grows
      e.memory e.effect
  acts control frame below heap verified main r cs g rules (memory, Throws object) e =
      throws_acts program sound.rooted next_starts stands_in_list (loadable_of program) raises throws within begins first_frames
      (promise_is program) control frame below heap verified main r cs g rules memory object e.heap e.is e.made e.grows
      e.memory (ready_any (place_of heap (length below) frame r.made) e.heap e.made e.grows
      (r.checked.frames frame.offset).flag_this_uninit r.holding.ready) e.effect
  acts control frame below heap verified main r cs g rules (memory, Raises name) e =
      raised_acts program sound.rooted next_starts stands_in_list (loadable_of program) raises throws within begins first_frames
      (promise_is program) control frame below heap verified main r cs g rules memory name e.heap e.is e.made e.grows
      e.memory (ready_any (place_of heap (length below) frame r.made) e.heap e.made e.grows
      (r.checked.frames frame.offset).flag_this_uninit r.holding.ready) e.effect
  acts control frame below heap verified main r cs g rules (memory, Begins l) e =
      begins_one program sound.rooted next_starts stands_in_list (loadable_of program) raises throws within begins first_frames
      (promise_is program) control frame below heap verified main r cs g rules memory l e.heap e.is e.made
      e.memory r.holding.ready (λ c k loadable. running_later program heap c (length below) frame k r) e.effect

  steps : (s : State) → IsGood program s → Holds (IsGood program) (step program s)
  steps s good =
      let string = string_there_in program sound in
      step_ok program (execute_ok program sound formed units) acts
      (initialization_step_ok program sound.rooted next_starts stands_in_list sound.named (loadable_of program) within begins first_frames
      (set_field_ok program sound.rooted next_starts stands_in_list string.0 string.1 string.2 (loadable_of program)
      (out_of_memory_is_thrown program sound) throws)) s good

  starts : (main input : List ℕ) (b : Budget) → Holds (IsGood program) (start program main input b)
  starts main input b = start_ok program sound formed units next_starts stands_in_list raises begins main input b

goes_well :
    TypesAgree → OneList → NextStarts → StandsInList → (judged : Judged) (g : GuestFiles) (b : Budget) (feeds : List Feed) (n : ℕ)
    → (right : IsJudged g.library g.files judged) → Stands judged.program.world (with_library right.given)
    → Holds (IsGood judged.program) (alone judged g b feeds n)
goes_well agree one_list next_starts stands_in_list judged g b feeds n right stands =
    let sound = judged_is_sound g.library g.files judged right stands in
    let formed : AreFormed judged.program = record { each = world_is_formed agree g.library g.files judged right } in
    alone_ok judged g b feeds (starts one_list next_starts stands_in_list judged.program sound formed right.units g.main g.input b)
    (λ s good. steps one_list next_starts stands_in_list judged.program sound formed right.units s good) n

-- the law: a judged guest's machine meets no fault
pub never_faults : TypesAgree → OneList → NextStarts → StandsInList → NeverFaults
never_faults agree one_list next_starts stands_in_list judged g b feeds n right stands =
    is_ok (goes_well agree one_list next_starts stands_in_list judged g b feeds n right stands)

-- and its objects are of classes that can be loaded
held : {A : Type 0} {P : A → Type 0} (r : OrFault A) (a : A) → Holds P r → r ≡ Ok a → P a
held {P = P} (Ok x) a h e = let same : x ≡ a = cc in subst P same h.by
held (Err fault) a h e = absurd h.by

same_class : (a b : Loaded) → Some a ≡ Some b → a ≡ b
same_class a b e = cc

pub objects_are_loadable : TypesAgree → OneList → NextStarts → StandsInList → ObjectsAreLoadable
objects_are_loadable agree one_list next_starts stands_in_list judged g b feeds n s right stands ran id instance l at named =
    let good = held (alone judged g b feeds n) s (goes_well agree one_list next_starts stands_in_list judged g b feeds n right stands) ran in
    let typed = good.memory.objects.each id (InstanceOf instance) at in
    subst (λ (m : Loaded). IsTrue (is_loadable judged.program.world m)) (same_class typed.l l (sym typed.named ∙ named)) typed.loadable

-- and its initializations are of classes that can be loaded: each was begun, so it and all above it were accepted
same_initialization : (a b : InitializationFrame) → Initializes a ≡ Initializes b → a ≡ b
same_initialization a b e = cc

no_initialization : (frame : MethodFrame) (other : InitializationFrame) → Runs frame ≡ Initializes other → ⊥
no_initialization frame other e = absurd cc

module _ (program : Program) (heap : Heap) (frame : InitializationFrame) where
  begun_here : (other : InitializationFrame) → IsBegun program other.class → Initializes other ≡ Initializes frame → IsBegun program frame.class
  begun_here other begun e = subst (λ (f : InitializationFrame). IsBegun program f.class) (same_initialization other frame e) begun

  begun_below : (promise : Promise) (fs : List Frame) → AreWaiting program heap promise fs → Contains fs (Initializes frame) → IsBegun program frame.class
  begun_below promise [] waiting h = absurd (none (Initializes frame) h)
  begun_below promise (Runs other ∷ fs) waiting h =
      elim (split (Runs other) fs (Initializes frame) h) [
        | inl is ↦ absurd (no_initialization other frame is)
        | inr k ↦ begun_below (promise_of other) fs waiting.2 k
      ]
  begun_below promise (Initializes other ∷ fs) waiting h =
      elim (split (Initializes other) fs (Initializes frame) h) [
        | inl is ↦ begun_here other waiting.0 is
        | inr k ↦ begun_below Again fs waiting.2 k
      ]

  begun_among : (fs : List Frame) → AreFrames program heap fs → Contains fs (Initializes frame) → IsBegun program frame.class
  begun_among [] are h = absurd (none (Initializes frame) h)
  begun_among (Runs other ∷ fs) are h =
      elim (split (Runs other) fs (Initializes frame) h) [
        | inl is ↦ absurd (no_initialization other frame is)
        | inr k ↦ begun_below (promise_of other) fs are.1 k
      ]
  begun_among (Initializes other ∷ fs) are h =
      elim (split (Initializes other) fs (Initializes frame) h) [
        | inl is ↦ begun_here other are.0 is
        | inr k ↦ begun_below Again fs are.2 k
      ]

pub initializations_are_loadable : TypesAgree → OneList → NextStarts → StandsInList → InitializationsAreLoadable
initializations_are_loadable agree one_list next_starts stands_in_list judged g b feeds n s right stands ran frame among =
    let good = held (alone judged g b feeds n) s (goes_well agree one_list next_starts stands_in_list judged g b feeds n right stands) ran in
    let begun = begun_among judged.program good.heap frame s.frames good.frames among in
    let sound = judged_is_sound g.library g.files judged right stands in
    sound.loadable frame.class begun.here
    (and_parts (is_class_accepted judged.program frame.class) (list_all (is_class_accepted judged.program) (above judged.program.world frame.class.class)) begun.verified).0
