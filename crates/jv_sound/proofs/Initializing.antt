-- A step of an initialization.
use Rattle.std.proofs.Common.{◌≡◌, ℕ, Bool, true, false, List, [], ◌∷◌, map, Some, None, refl, sym, ap, subst, ◌∙◌}
use Rattle.std.specs.Prelude.{IsTrue, if◌then◌else◌}
use Rattle.std.specs.List.{AllByRecursion, Contains}
use Rattle.std.specs.Str.{bytes_eq}
use Rattle.jv_text.specs.declared.descriptor.FieldTypeOf.{FieldTypeOf}
use Rattle.jv_stackmap.specs.Types.{value_type}
use Rattle.jv_code.specs.Places.{StandsInList, NextStarts}
use Rattle.jv_class.specs.Class.{InitialValue}
use Rattle.jv_meaning_world.specs.World.{Loaded, class_named}
use Rattle.jv_meaning_world.specs.Overriding.{Declared}
use Rattle.jv_meaning_world.specs.LookUps.{DeclaredField}
use Rattle.jv_meaning_world.proofs.Up.{same_name}
use Rattle.jv_meaning_world.specs.Laws.Order.{IsRooted}
use Rattle.jv_meaning_machine.specs.Faults.Fault.{OffsetFault}
use Rattle.jv_meaning_machine.specs.Values.{Value}
use Rattle.jv_meaning_machine.specs.Values.Value.{Reference}
use Rattle.jv_meaning_machine.specs.Frames.{Task, InitializationFrame, Frame}
use Rattle.jv_meaning_machine.specs.Frames.Task.{SetsField, InitializesFirst, RunsInitializer}
use Rattle.jv_meaning_machine.specs.Frames.Frame.{Initializes}
use Rattle.jv_meaning_machine.specs.State.{Program, Memory, Control, ClassStates, class_state, state_named, is_ready}
use Rattle.jv_meaning_machine.specs.State.ClassState.{Initialized}
use Rattle.jv_meaning_machine.specs.Entering.{enter}
use Rattle.jv_meaning_machine.specs.Initialization.{is_verified, main_method, main_arguments, enter_main, tasks_left, finish, finished, do_task, with_tasks, do_first, initialization_step}
use Rattle.jv_sound.specs.Values.{Zip, Heap, Fits, IsObject}
use Rattle.jv_sound.specs.Memory.{IsTypedMemory, AreLoadable}
use Rattle.jv_sound.specs.Frames.{Holds, promise_of, Promise, IsBegun, IsRunnable, IsTask, string_array, AreWaiting, AreFrames, AreVerified, HasMain, IsGood}
use Rattle.jv_sound.specs.Frames.Promise.{Again}
use Rattle.jv_sound.proofs.Logic.{holds, then_holds, found_holds}
use Rattle.jv_sound.proofs.Frames.{AreCatching, again}
use Rattle.jv_sound.proofs.EnteringAbove.{Begins, WithinWords, FrameBegins, enter_ok}
use Rattle.jv_sound.proofs.Beginning.{one_loaded}

tasks_kept : (program : Program) (states : ClassStates) (tasks : List Task) → AllByRecursion (IsTask program) tasks
    → AllByRecursion (IsTask program) (tasks_left states tasks)
tasks_kept program states [] h = tt
tasks_kept program states (InitializesFirst l ∷ more) h = by_state (is_ready (class_state states l)) (tasks_kept program states more h.1)
  where
    by_state : (b : Bool) → AllByRecursion (IsTask program) (tasks_left states more)
        → AllByRecursion (IsTask program) (elim b [ true ↦ tasks_left states more | false ↦ InitializesFirst l ∷ more ])
    by_state true k = k
    by_state false k = h
tasks_kept program states (SetsField field constant ∷ more) h = h
tasks_kept program states (RunsInitializer d ∷ more) h = h

module _ (program : Program) (rooted : IsRooted program.world) (next_starts : NextStarts) (stands_in_list : StandsInList)
    (named : (l : Loaded) → Contains program.world l → class_named program.world l.class.name ≡ Some l)
    (loadable_of : (heap : Heap) (memory : Memory) → heap.objects ≡ memory.objects → IsTypedMemory program memory
    → AreLoadable program.world heap.objects)
    (within_ok : WithinWords program rooted next_starts stands_in_list)
    (begin_ok : Begins program)
    (method_frame_ok : FrameBegins program)
    (set_field_ok : (a : Heap) (memory : Memory) (frames : List Frame) (control : Control) (d : DeclaredField) (constant : InitialValue)
    → a.objects ≡ memory.objects → IsTypedMemory program memory → AreVerified program control.states
    → ((fs : List Frame) → HasMain program control.main fs) → AreWaiting program a Again frames → IsTask program (SetsField d constant)
    → Holds (IsGood program) (do_task program memory frames control (SetsField d constant))) where
  -- a static method is entered above frames that are no methods in need of a result
  run_ok :
      (a : Heap) (memory : Memory) (frames : List Frame) (control : Control) (d : Declared) (parameters : List (FieldTypeOf (List ℕ)))
      (arguments : List Value) → a.objects ≡ memory.objects → IsTypedMemory program memory
      → AreVerified program control.states → ((fs : List Frame) → HasMain program control.main fs) → IsRunnable program d parameters
      → Zip (Fits program.world a.objects) (map value_type parameters) arguments
      → AreCatching program rooted next_starts stands_in_list a frames → ((p : Promise) → AreWaiting program a p frames)
      → Holds (IsGood program) (enter program memory frames control d None arguments)
  run_ok a memory frames control d parameters arguments is typed verified main r fit catching waits =
      enter_ok program rooted next_starts stands_in_list loadable_of within_ok method_frame_ok a memory frames control d None arguments is
      typed verified main r.enterable r.plain r.static
      (record {
        descriptor = r.descriptor;
        described = r.described;
        fit = subst
            (λ (ps : List (FieldTypeOf (List ℕ))). Zip (Fits program.world a.objects) (map value_type ps) arguments) (sym r.takes) fit;
      })
      catching (λ f run site. waits (promise_of f))

  initialized_verified : (l : Loaded) (states : ClassStates) → IsBegun program l → AreVerified program states
      → AreVerified program ((l.class.name, Initialized) ∷ states)
  initialized_verified l states begun all other here e = by_system other.by_system refl e
    where
      by_name : (b : Bool) → bytes_eq other.class.name l.class.name ≡ b
          → is_ready (if b then Initialized else state_named other.class.name states) ≡ true
          → (is_ready (state_named other.class.name states) ≡ true → IsTrue (is_verified program other))
          → IsTrue (is_verified program other)
      by_name true k e next =
          let n : other.class.name ≡ l.class.name = same_name other.class.name l.class.name k in
          let t : other ≡ l = one_loaded other l (sym (named other here) ∙ ap (class_named program.world) n ∙ named l begun.here) in
          subst (λ (x : Loaded). IsTrue (is_verified program x)) (sym t) begun.verified
      by_name false k e next = next e

      by_system : (b : Bool) → other.by_system ≡ b → is_ready (if b then Initialized else state_named other.class.name
          ((l.class.name, Initialized) ∷ states)) ≡ true → IsTrue (is_verified program other)
      by_system true k e = all other here (ap (λ (b : Bool). is_ready (if b then Initialized else state_named other.class.name states)) k)
      by_system false k e = by_name (bytes_eq other.class.name l.class.name) refl e
          (λ f. all other here (ap (λ (b : Bool). is_ready (if b then Initialized else state_named other.class.name states)) k ∙ f))

  pub initialization_step_ok :
      (a : Heap) (memory : Memory) (frame : InitializationFrame) (below : List Frame) (control : Control) → a.objects ≡ memory.objects
      → IsTypedMemory program memory → AreVerified program control.states
      → ((fs : List Frame) → HasMain program control.main fs) → AreFrames program a (Initializes frame ∷ below)
      → Holds (IsGood program) (initialization_step program memory frame below control)
  initialization_step_ok a memory frame below control is typed verified main c = by_tasks (tasks_left control.states frame.tasks)
      (tasks_kept program control.states frame.tasks c.1)
    where
      done_verified : AreVerified program ((frame.class.class.name, Initialized) ∷ control.states)
      done_verified = initialized_verified frame.class control.states c.0 verified

      main_ok : (m : (d : Declared) × (main_method program.world control.main ≡ Some d) × IsRunnable program d (string_array ∷ []))
          → Holds (IsGood program) (enter_main program memory (finished frame.class control))
      main_ok m =
          then_holds (found_holds {P = λ d. d ≡ m.0} OffsetFault (main_method program.world control.main) m.0 m.1 refl) (λ d e.
          subst (λ (x : Declared). Holds (IsGood program) (enter program memory [] (finished frame.class control) x None
          (Reference main_arguments ∷ []))) (sym e)
          (run_ok a memory [] (finished frame.class control) m.0 (string_array ∷ [])
          (Reference main_arguments ∷ []) is typed done_verified main m.2 (
            subst (λ (os : List Rattle.jv_meaning_machine.specs.Objects.Object). IsObject program.world os
                (value_type string_array) main_arguments) (sym is) typed.arguments,
            tt,
          ) tt (λ p. tt)))

      finish_ok : (fs : List Frame) → AreWaiting program a Again fs
          → Holds (IsGood program) (finish program memory fs (finished frame.class control))
      finish_ok [] w = main_ok (main (Initializes frame ∷ []))
      finish_ok (f ∷ fs) w =
          holds (record {
            heap = a;
            is = is;
            memory = typed;
            frames = again program rooted next_starts stands_in_list a (f ∷ fs) (loadable_of a memory is typed) w;
            verified = done_verified;
            main = main (f ∷ fs);
          })

      by_task : (task : Task) (more : List Task) → IsTask program task → AllByRecursion (IsTask program) more
          → Holds (IsGood program) (do_task program memory (with_tasks frame more ∷ below) control task)
      by_task (SetsField d constant) more h k = set_field_ok a memory
          (with_tasks frame more ∷ below) control d constant is typed verified main (c.0, k, c.2) h
      by_task (InitializesFirst l) more h k = begin_ok a memory (with_tasks frame more ∷ below) control l is typed verified main h
          (c.0, k, c.2)
      by_task (RunsInitializer d) more h k = run_ok a memory (with_tasks frame more ∷ below) control d [] [] is typed verified main h tt
          (c.0, k, c.2) (λ p. (c.0, k, c.2))

      by_tasks : (tasks : List Task) → AllByRecursion (IsTask program) tasks
          → Holds (IsGood program) (do_first program memory frame below control tasks)
      by_tasks [] h = finish_ok below c.2
      by_tasks (task ∷ more) h = by_task task more h.0 h.1
