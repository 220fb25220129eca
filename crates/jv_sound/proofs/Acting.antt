-- What an effect makes of the frames.
use Rattle.std.proofs.Common.{◌≡◌, ℕ, suc, Bool, true, false, List, ◌∷◌, length, Option, Some, refl, sym, ap, subst, ◌∙◌}
use Rattle.jv_text.specs.Name.{is_init}
use Rattle.jv_stackmap.specs.Frames.{Frame as TypesOf}
use Rattle.jv_code.specs.Places.{StandsInList, NextStarts}
use Rattle.jv_meaning_world.specs.World.{Loaded}
use Rattle.jv_meaning_world.specs.Overriding.{Declared}
use Rattle.jv_meaning_world.specs.Laws.Order.{IsRooted}
use Rattle.jv_meaning_typing.specs.Rule.{rule, handler_frame}
use Rattle.jv_meaning_machine.specs.Values.{Value}
use Rattle.jv_meaning_machine.specs.Frames.{MethodFrame, Frame}
use Rattle.jv_meaning_machine.specs.Frames.Frame.{Runs}
use Rattle.jv_meaning_machine.specs.State.{Program, Memory, Control}
use Rattle.jv_meaning_machine.specs.Costs.{method_words, with_words_back}
use Rattle.jv_meaning_machine.specs.Effects.Effect.{Goes, Enters, Leaves, Throws, Raises, Begins}
use Rattle.jv_meaning_machine.specs.Entering.{leave_to}
use Rattle.jv_meaning_machine.specs.Step.{waiting, act}
use Rattle.jv_sound.specs.Values.{Heap, HasLocals, IsReady}
use Rattle.jv_sound.specs.Memory.{IsTypedMemory}
use Rattle.jv_sound.specs.Later.{IsLater}
use Rattle.jv_sound.specs.Sound.{IsChecked}
use Rattle.jv_sound.specs.Frames.{Holds, place_of, IsRunning, IsCatching, Promise, promise_by, promise_of, Resumes, AreWaiting, AreVerified, HasMain, IsGood}
use Rattle.jv_sound.specs.Frames.Promise.{Gives}
use Rattle.jv_sound.specs.Effects.{IsEffect, after, ArePassed}
use Rattle.jv_sound.proofs.Logic.{holds, then_holds}
use Rattle.jv_sound.specs.Memory.{AreLoadable}
use Rattle.jv_sound.proofs.EnteringAbove.{Raises as RaisesFine, Throws as ThrowsFine, Begins as BeginsFine, WithinWords, FrameBegins, enter_ok}
use Rattle.jv_sound.proofs.Frames.{at_offset_ok, resumed_ok, leave_gives, leave_builds, waiting_later, AreCatching}

module _ (program : Program) (rooted : IsRooted program.world) (next_starts : NextStarts) (stands_in_list : StandsInList)
    -- of memories and throws
    (loadable_of : (heap : Heap) (memory : Memory) → heap.objects ≡ memory.objects → IsTypedMemory program memory
    → AreLoadable program.world heap.objects)
    (raise_ok : RaisesFine program rooted next_starts stands_in_list)
    (throw_ok : ThrowsFine program rooted next_starts stands_in_list)
    (within_ok : WithinWords program rooted next_starts stands_in_list)
    (begin_ok : BeginsFine program)
    (method_frame_ok : FrameBegins program)
    -- a method's result is that of its descriptor
    (promise_is : (f : MethodFrame) (d : Declared) (heap : Heap) (receiver : Option ℕ) (arguments : List Value) → IsChecked program f.method
    → f.method.site ≡ d → is_init d.method.name ≡ false → (passed : ArePassed program heap d receiver arguments)
    → promise_of f ≡ Gives passed.descriptor.result) where
  module _ (control : Control) (frame : MethodFrame) (below : List Frame) (heap : Heap) (verified : AreVerified program control.states)
      (main_all : (fs : List Frame) → HasMain program control.main fs)
      (r : IsRunning program heap (length below) frame) (cs : AreWaiting program heap (promise_of frame) below) where
    -- the frame as one that waits or throws, with another stack
    catching : (b : Heap) (made : ℕ → ℕ) (stack : List Value) → IsLater (length below) heap b
        → HasLocals (after (place_of heap (length below) frame r.made) b made)
        (handler_frame frame.method r.insn (r.checked.frames frame.offset)).locals frame.locals
        → IsReady (after (place_of heap (length below) frame r.made) b made) (r.checked.frames frame.offset).flag_this_uninit
        → IsCatching program b (length below) (record frame { stack = stack })
    catching b made stack g ls ready = record {
      checked = r.checked;
      insn = r.insn;
      stands = r.stands;
      made = made;
      locals = ls;
      ready =
          ready;
    }

    module _ (g : TypesOf) (rules : rule frame.method frame.offset r.insn (r.checked.frames frame.offset) ≡ Some g) where
      pub goes : (out : Memory) (to : ℕ) (values items : List Value) → (b : Heap) → b.objects ≡ out.objects → (made : ℕ → ℕ)
          → IsLater (length below) heap b → IsTypedMemory program out
          → IsEffect program (place_of heap (length below) frame r.made) frame r.insn (r.checked.frames frame.offset) g b made
          (Goes to values items)
          → Holds (IsGood program) (act program frame below control (out, Goes to values items))
      goes out to values items b is made grows typed e =
          then_holds (at_offset_ok program rooted next_starts stands_in_list b (length below) frame made r.checked r.insn g to values items
          (loadable_of b out is typed) r.stands rules e.0 e.1) (λ f run.
          holds (record {
            heap = b;
            is = is;
            memory = typed;
            frames = (
              run.0,
              subst (λ (p : Promise). AreWaiting program b p below) (sym run.1)
                  (waiting_later program rooted next_starts stands_in_list below grows (promise_of frame) cs),
            );
            verified = verified;
            main = main_all (Runs f ∷ below);
          }))

      pub enters : (out : Memory) (d : Declared) (receiver : Option ℕ) (arguments stack : List Value) → (b : Heap) → b.objects ≡ out.objects
          → (made : ℕ → ℕ) → IsLater (length below) heap b → IsTypedMemory program out
          → IsReady (after (place_of heap (length below) frame r.made) b made) (r.checked.frames frame.offset).flag_this_uninit
          → IsEffect program (place_of heap (length below) frame r.made) frame r.insn (r.checked.frames frame.offset) g b made
          (Enters d receiver arguments stack)
          → Holds (IsGood program) (act program frame below control (out, Enters d receiver arguments stack))
      enters out d receiver arguments stack b is made grows typed ready e =
          enter_ok program rooted next_starts stands_in_list loadable_of within_ok method_frame_ok b out
          (waiting frame stack ∷ below) control d receiver arguments is typed verified main_all e.0 e.2 e.3 e.4 (waits, cs_later)
          (λ f run site.
          subst (λ (p : Promise). AreWaiting program b p (waiting frame stack ∷ below))
          (sym (promise_is f d b receiver arguments run.checked site e.2 e.4)) (waits, goes_on, cs_later))
        where
          waits : IsCatching program b (length below) (record frame { stack = stack })
          waits = catching b made stack grows e.5 ready

          cs_later : AreWaiting program b (promise_of frame) below
          cs_later = waiting_later program rooted next_starts stands_in_list below grows (promise_of frame) cs

          goes_on : Resumes program b (length below) (record frame { stack = stack }) (Gives e.4.descriptor.result)
          goes_on c values l loadable result =
              resumed_ok program rooted next_starts stands_in_list c (length below)
              (record frame { stack = stack }) made r.checked r.insn g values
              loadable r.stands rules e.1 (e.6 c values l result)

      -- a frame that throws is the current one
      throwing : (b : Heap) (made : ℕ → ℕ) → IsLater (length below) heap b
          → HasLocals (after (place_of heap (length below) frame r.made) b made)
          (handler_frame frame.method r.insn (r.checked.frames frame.offset)).locals frame.locals
          → IsReady (after (place_of heap (length below) frame r.made) b made) (r.checked.frames frame.offset).flag_this_uninit
          → AreCatching program rooted next_starts stands_in_list b (Runs frame ∷ below)
      throwing b made grows ls ready = (
        catching b made frame.stack grows ls ready,
        waiting_later program rooted next_starts stands_in_list
            below grows (promise_of frame) cs,
      )

      pub throws : (out : Memory) (object : ℕ) → (b : Heap) → b.objects ≡ out.objects → (made : ℕ → ℕ) → IsLater (length below) heap b
          → IsTypedMemory program out
          → IsReady (after (place_of heap (length below) frame r.made) b made) (r.checked.frames frame.offset).flag_this_uninit
          → IsEffect program (place_of heap (length below) frame r.made) frame r.insn (r.checked.frames frame.offset) g b made
          (Throws object)
          → Holds (IsGood program) (act program frame below control (out, Throws object))
      throws out object b is made grows typed ready e = throw_ok b out (Runs frame ∷ below) control object is typed verified
          (main_all (Runs frame ∷ below)) (throwing b made grows e.1 ready) e.0

      pub raised : (out : Memory) (name : List ℕ) → (b : Heap) → b.objects ≡ out.objects → (made : ℕ → ℕ) → IsLater (length below) heap b
          → IsTypedMemory program out
          → IsReady (after (place_of heap (length below) frame r.made) b made) (r.checked.frames frame.offset).flag_this_uninit
          → IsEffect program (place_of heap (length below) frame r.made) frame r.insn (r.checked.frames frame.offset) g b made (Raises name)
          → Holds (IsGood program) (act program frame below control (out, Raises name))
      raised out name b is made grows typed ready e = raise_ok b out (Runs frame ∷ below) control name is typed verified
          (main_all (Runs frame ∷ below)) (throwing b made grows e.1 ready) e.0

      pub leaves : (out : Memory) (result : List Value) → (b : Heap) → b.objects ≡ out.objects → (made : ℕ → ℕ)
          → IsLater (length below) heap b → IsTypedMemory program out
          → IsEffect program (place_of heap (length below) frame r.made) frame r.insn (r.checked.frames frame.offset) g b made
          (Leaves result)
          → Holds (IsGood program) (act program frame below control (out, Leaves result))
      leaves out result b is made grows typed e = by_kind (is_init frame.method.site.method.name) refl
          (waiting_later program rooted next_starts stands_in_list below grows (promise_of frame) cs)
        where
          by_kind : (k : Bool) → is_init frame.method.site.method.name ≡ k
              → AreWaiting program b (promise_by k frame.method frame.receiver) below
              → Holds (IsGood program) (leave_to out below (with_words_back (method_words frame) control) result)
          by_kind false k w = leave_gives program rooted next_starts stands_in_list b out
              (with_words_back (method_words frame) control) frame.method.descriptor.result result below verified (main_all below) typed is
              (loadable_of b out is typed) w (e.1 k)
          by_kind true k w =
              let built = e.0 k in
              subst (λ (vs : List Value). Holds (IsGood program) (leave_to out below (with_words_back (method_words frame) control) vs))
              (sym built.0)
              (leave_builds program rooted next_starts stands_in_list b out
              (with_words_back (method_words frame) control) _ frame.receiver below verified (main_all below) typed is
              (loadable_of b out is typed) w built.1 built.2 built.3)

      pub begins_one : (out : Memory) (l : Loaded) → (b : Heap) → b.objects ≡ out.objects → (made : ℕ → ℕ) → IsTypedMemory program out
          → IsReady (place_of heap (length below) frame r.made) (r.checked.frames frame.offset).flag_this_uninit
          → ((c : Heap) → IsLater (suc (length below)) heap c → AreLoadable program.world c.objects
          → IsRunning program c (length below) frame)
          → IsEffect program (place_of heap (length below) frame r.made) frame r.insn (r.checked.frames frame.offset) g b made (Begins l)
          → Holds (IsGood program) (act program frame below control (out, Begins l))
      begins_one out l b is made typed ready later_runs e =
          begin_ok heap out (Runs frame ∷ below) control l (ap (λ (h : Heap). h.objects) (sym e.1) ∙ is) typed verified main_all e.0
          (record { checked = r.checked; insn = r.insn; stands = r.stands; made = r.made; locals = e.3; ready = ready }, later_runs, cs)
