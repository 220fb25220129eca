-- A method is entered above frames that catch and that wait for it.
use Rattle.std.proofs.Common.{◌≡◌, ℕ, false, List, ◌∷◌, length, Option, Some, None, refl, sym, subst}
use Rattle.std.specs.Prelude.{IsSome}
use Rattle.jv_text.specs.Name.{is_init}
use Rattle.jv_code.specs.Places.{StandsInList, NextStarts}
use Rattle.jv_class_structure.specs.Parts.{CodeSeen}
use Rattle.jv_meaning_world.specs.Overriding.{Declared}
use Rattle.jv_meaning_world.specs.Laws.Order.{IsRooted}
use Rattle.jv_meaning_typing.specs.Named.{throwable_type}
use Rattle.jv_meaning_machine.specs.Costs.{code_words}
use Rattle.jv_meaning_machine.specs.Throws.{raise, throw}
use Rattle.jv_meaning_machine.specs.Initialization.{begin}
use Rattle.jv_meaning_world.specs.World.{Loaded}
use Rattle.std.specs.List.{Contains}
use Rattle.jv_meaning_machine.specs.Entering.{enter, entered_above, method_frame, within_words}
use Rattle.jv_meaning_machine.specs.Faults.{OrFault}
use Rattle.jv_meaning_machine.specs.Faults.Fault.{OffsetFault}
use Rattle.jv_meaning_machine.specs.Frames.{MethodFrame, Frame}
use Rattle.jv_meaning_machine.specs.Frames.Frame.{Runs}
use Rattle.jv_meaning_machine.specs.State.{Program, Memory, Control, State, ClassStates}
use Rattle.jv_meaning_machine.specs.Values.{Value}
use Rattle.jv_sound.specs.Values.{Heap, IsObject}
use Rattle.jv_sound.specs.Memory.{IsTypedMemory, AreLoadable}
use Rattle.jv_sound.specs.Sound.{IsEnterable}
use Rattle.jv_sound.specs.Frames.{Holds, IsRunning, promise_of, AreWaiting, AreVerified, HasMain, IsGood}
use Rattle.jv_sound.specs.Effects.{ArePassed, IsReceiver, IsThrown}
use Rattle.jv_sound.specs.Frames.Promise.{Again}
use Rattle.jv_sound.proofs.Logic.{clash, holds, then_holds, found_holds}
use Rattle.jv_sound.proofs.Frames.{AreCatching}

pub some_code : (o : Option CodeSeen) → IsSome o → (c : CodeSeen) × (o ≡ Some c)
some_code None h = absurd (clash h)
some_code (Some c) h = (c, refl)

-- what the parts of a step prove: an exception that the machine makes, an object that is thrown, words that are asked for, an
-- initialization that is begun, and a method's first frame
abbrev pub Raises : (program : Program) → IsRooted program.world → NextStarts → StandsInList → Type 0
Raises program rooted next_starts stands_in_list =
    (heap : Heap) (memory : Memory) (frames : List Frame) (control : Control) (name : List ℕ) → heap.objects ≡ memory.objects
    → IsTypedMemory program memory → AreVerified program control.states
    → HasMain program control.main frames → AreCatching program rooted next_starts stands_in_list heap frames → IsThrown program.world name
    → Holds (IsGood program) (raise program.world memory frames control name)

abbrev pub Throws : (program : Program) → IsRooted program.world → NextStarts → StandsInList → Type 0
Throws program rooted next_starts stands_in_list =
    (heap : Heap) (memory : Memory) (frames : List Frame) (control : Control) (object : ℕ) → heap.objects ≡ memory.objects
    → IsTypedMemory program memory → AreVerified program control.states
    → HasMain program control.main frames → AreCatching program rooted next_starts stands_in_list heap frames
    → IsObject program.world heap.objects throwable_type object
    → Holds (IsGood program) (throw program.world memory frames control object)

abbrev pub Begins : Program → Type 0
Begins program =
    (a : Heap) (memory : Memory) (frames : List Frame) (control : Control) (l : Loaded) → a.objects ≡ memory.objects
    → IsTypedMemory program memory → AreVerified program control.states → ((fs : List Frame) → HasMain program control.main fs)
    → Contains program.world l → AreWaiting program a Again frames → Holds (IsGood program) (begin program memory frames control l)

abbrev pub WithinWords : (program : Program) → IsRooted program.world → NextStarts → StandsInList → Type 0
WithinWords program rooted next_starts stands_in_list =
    (a : Heap) (memory : Memory) (frames : List Frame) (control : Control) (words : ℕ) (next : Control → OrFault State)
    → a.objects ≡ memory.objects → IsTypedMemory program memory → AreVerified program control.states
    → HasMain program control.main frames → AreCatching program rooted next_starts stands_in_list a frames
    → ((given : Control) → given.states ≡ control.states → given.main ≡ control.main → Holds (IsGood program) (next given))
    → Holds (IsGood program) (within_words program.world memory frames control words next)

-- what a method's frame begins with
abbrev pub FrameBegins : Program → Type 0
FrameBegins program =
    (heap : Heap) (depth : ℕ) (d : Declared) (receiver : Option ℕ) (arguments : List Value) → IsEnterable program d
    → (is_init d.method.name ≡ false) → IsReceiver program heap d receiver
    → ArePassed program heap d receiver arguments → AreLoadable program.world heap.objects
    → Holds (λ f. IsRunning program heap depth f × (f.method.site ≡ d)
    × (f.receiver ≡ receiver)) (method_frame program d receiver arguments)

module _ (program : Program) (rooted : IsRooted program.world) (next_starts : NextStarts) (stands_in_list : StandsInList)
    (loadable_of : (heap : Heap) (memory : Memory) → heap.objects ≡ memory.objects → IsTypedMemory program memory
    → AreLoadable program.world heap.objects)
    (within_ok : WithinWords program rooted next_starts stands_in_list) (method_frame_ok : FrameBegins program) where
  pub enter_ok :
      (a : Heap) (memory : Memory) (frames : List Frame) (control : Control) (d : Declared) (receiver : Option ℕ) (arguments : List Value)
      → a.objects ≡ memory.objects → IsTypedMemory program memory → AreVerified program control.states
      → ((fs : List Frame) → HasMain program control.main fs) → IsEnterable program d → is_init d.method.name ≡ false
      → IsReceiver program a d receiver → ArePassed program a d receiver arguments
      → AreCatching program rooted next_starts stands_in_list a frames
      → ((f : MethodFrame) → IsRunning program a (length frames) f → f.method.site ≡ d → AreWaiting program a (promise_of f) frames)
      → Holds (IsGood program) (enter program memory frames control d receiver arguments)
  enter_ok a memory frames control d receiver arguments is typed verified main e plain is_receiver passed catching waits =
      let code = some_code d.method.code e.code in
      then_holds (found_holds {P = λ c. c ≡ code.0} OffsetFault d.method.code code.0 code.1 refl) (λ c _.
      within_ok a memory frames control (code_words c) (entered_above program frames d receiver arguments memory) is typed verified
      (main frames) catching (λ given states same_main.
      then_holds (method_frame_ok a (length frames) d receiver arguments e plain is_receiver passed (loadable_of a memory is typed))
      (λ f run.
      holds (record {
        heap = a;
        is = is;
        memory = typed;
        frames = (run.0, waits f run.0 run.1);
        verified = subst (λ (x : ClassStates). AreVerified program x) (sym states) verified;
        main = subst (λ (n : List ℕ). HasMain program n (Runs f ∷ frames)) (sym same_main) (main (Runs f ∷ frames));
      }))))
