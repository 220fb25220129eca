-- An `<init>` that is entered: its object belongs to its frame, and the caller waits until it is constructed.
use Rattle.std.proofs.Common.{◌≡◌, ℕ, suc, Bool, true, false, List, [], ◌∷◌, length, map, Option, Some, refl, sym, ap, subst, ◌∙◌, arith}
use Rattle.std.specs.Prelude.{slice_get, slice_set}
use Rattle.jv_text.specs.Descriptor.{MethodDescriptor, slots}
use Rattle.jv_text.specs.Types.{method_type_of}
use Rattle.jv_text.specs.Name.{is_init}
use Rattle.jv_stackmap.specs.Types.{FrameType, value_type, words}
use Rattle.jv_stackmap.specs.Frames.{Frame as TypesOf}
use Rattle.jv_code.specs.Places.{StandsInList, NextStarts, OneList}
use Rattle.jv_meaning_world.specs.World.{World}
use Rattle.jv_meaning_world.specs.Overriding.{Declared}
use Rattle.jv_meaning_typing.specs.Kind.{is_static_method}
use Rattle.jv_meaning_typing.specs.Named.{class_type}
use Rattle.jv_meaning_typing.specs.Rule.{rule}
use Rattle.jv_meaning_machine.specs.Faults.Fault.{OffsetFault}
use Rattle.jv_meaning_machine.specs.Values.{Value}
use Rattle.jv_meaning_machine.specs.Objects.{Instance, Object}
use Rattle.jv_meaning_machine.specs.Objects.Object.{InstanceOf}
use Rattle.jv_meaning_machine.specs.Fields.{with_object}
use Rattle.jv_meaning_machine.specs.Frames.{MethodFrame, Frame}
use Rattle.jv_meaning_machine.specs.Frames.Frame.{Runs}
use Rattle.jv_meaning_machine.specs.State.{Program, Memory, Control, ClassStates}
use Rattle.jv_meaning_machine.specs.Costs.{code_words}
use Rattle.jv_meaning_machine.specs.Effects.Effect.{Constructs}
use Rattle.jv_meaning_machine.specs.Entering.{entered_above, entered_on}
use Rattle.jv_meaning_machine.specs.Step.{waiting, act}
use Rattle.jv_sound.specs.Values.{Zip, Fits, IsObject, Heap, Place}
use Rattle.jv_sound.specs.Memory.{IsTypedInstance, IsTypedObject, IsTypedMemory}
use Rattle.jv_sound.specs.Later.{IsLater}
use Rattle.jv_sound.specs.Sound.{AreSorts, IsEnterable, IsSound}
use Rattle.jv_sound.specs.Frames.{Holds, place_of, IsRunning, IsCatching, Promise, promise_by, promise_of, Resumes, AreWaiting, AreVerified, HasMain, IsGood}
use Rattle.jv_sound.specs.Frames.Promise.{Builds}
use Rattle.jv_sound.specs.Effects.{AreEffects, ArePassed, IsUnderConstruction, begun_on}
use Rattle.jv_sound.proofs.EnteringAbove.{WithinWords, some_code}
use Rattle.jv_sound.proofs.Logic.{holds, then_holds, found_holds}
use Rattle.jv_sound.specs.Memory.{AreLoadable}
use Rattle.jv_sound.proofs.Heaps.{later, weaker, fits_later, entries_later, ready_any}
use Rattle.jv_sound.proofs.Storing.{set_typed}
use Rattle.jv_sound.proofs.Begun.{begun_on_later}
use Rattle.jv_sound.proofs.ConstructorFrame.{constructor_frame_ok}
use Rattle.jv_sound.proofs.Frames.{resumed_ok, waiting_later}

-- what is passed is of its types in a later heap
zip_later : (world : World) {n : ℕ} {a b : Heap} → IsLater n a b → (ts : List FrameType) (vs : List Value)
    → Zip (Fits world a.objects) ts vs → Zip (Fits world b.objects) ts vs
zip_later world g [] [] f = tt
zip_later world g (t ∷ ts) (v ∷ vs) f = (fits_later world g t v f.0, zip_later world g ts vs f.1)
zip_later world g [] (v ∷ vs) f = absurd f
zip_later world g (t ∷ ts) [] f = absurd f

module _ (program : Program) (sound : IsSound program) (one_list : OneList) (next_starts : NextStarts) (stands_in_list : StandsInList)
    (parameters_are_sorts : (d : Declared) (descriptor : MethodDescriptor) → IsEnterable program d
    → method_type_of d.method.descriptor ≡ Some descriptor → AreSorts descriptor.parameters)
    (slots_are_words : (descriptor : MethodDescriptor) → AreSorts descriptor.parameters
    → words (map value_type descriptor.parameters) ≡ slots descriptor)
    (constructors_are_not_static : (d : Declared) → IsEnterable program d → is_init d.method.name ≡ true
    → is_static_method d.method ≡ false)
    (loadable_of : (heap : Heap) (memory : Memory) → heap.objects ≡ memory.objects → IsTypedMemory program memory
    → AreLoadable program.world heap.objects)
    (within_ok : WithinWords program sound.rooted next_starts stands_in_list)
    (control : Control) (frame : MethodFrame) (below : List Frame) (heap : Heap) (verified : AreVerified program control.states)
    (main_all : (fs : List Frame) → HasMain program control.main fs)
    (r : IsRunning program heap (length below) frame) (cs : AreWaiting program heap (promise_of frame) below) (g : TypesOf)
    (rules : rule frame.method frame.offset r.insn (r.checked.frames frame.offset) ≡ Some g) where
  abbrev here : Place
  here = place_of heap (length below) frame r.made

  module _ (memory : Memory) (d : Declared) (object : ℕ) (instance : Instance) (arguments stack : List Value)
      (e : AreEffects program here frame r.insn (r.checked.frames frame.offset) g
      (memory, Constructs d object instance arguments stack)) where
    abbrev u : IsUnderConstruction program here e.heap d object instance
    u = e.effect.4

    abbrev begun : Heap
    begun = begun_on e.heap d object instance (suc (length below))

    abbrev entered_memory : Memory
    entered_memory = with_object object (entered_on d instance) memory

    grows : IsLater (length below) e.heap begun
    grows = begun_on_later program here e.heap d object instance u

    begun_is : begun.objects ≡ entered_memory.objects
    begun_is = ap (λ (os : List Object). slice_set os object (entered_on d instance)) e.is

    typed : IsTypedMemory program entered_memory
    typed =
        subst (λ (os : List Object). IsTypedMemory program (record memory { objects = os })) begun_is
        (set_typed program e.heap begun memory object (entered_on d instance) e.is refl e.memory (weaker (omega arith) grows) still)
      where
        of_instance : IsTypedInstance program e.heap.objects instance
        of_instance =
            subst (λ (os : List Object). IsTypedInstance program os instance) (sym e.is)
            (e.memory.objects.each object (InstanceOf instance) (subst
            (λ (os : List Object). slice_get os object ≡ Some (InstanceOf instance)) e.is u.there))

        still : IsTypedObject program begun.objects (entered_on d instance)
        still =
            let t = of_instance in
            record {
              l = t.l;
              named = t.named;
              loadable = t.loadable;
              verified = t.verified;
              plain = t.plain;
              keys = t.keys;
              values =
                  entries_later program.world grows instance.fields t.values;
            }

    passed : ArePassed program begun d (Some object) arguments
    passed = record {
      descriptor = e.effect.3.descriptor;
      described = e.effect.3.described;
      fit = zip_later program.world grows
          (map value_type e.effect.3.descriptor.parameters) arguments e.effect.3.fit;
    }

    abbrev caller : MethodFrame
    caller = record frame { stack = stack }

    -- the caller, before and behind the entry
    waits : IsCatching program e.heap (length below) caller
    waits = record {
      checked = r.checked;
      insn = r.insn;
      stands = r.stands;
      made = e.made;
      locals = e.effect.5;
      ready = ready_any here e.heap e.made e.grows (r.checked.frames frame.offset).flag_this_uninit r.holding.ready;
    }

    waits_begun : IsCatching program begun (length below) caller
    waits_begun = record {
      checked = r.checked;
      insn = r.insn;
      stands = r.stands;
      made = e.made;
      locals = e.effect.6;
      ready = ready_any here begun e.made (later e.grows grows) (r.checked.frames frame.offset).flag_this_uninit r.holding.ready;
    }

    goes_on : Resumes program begun (length below) caller (Builds (class_type d.by.class.name) (Some object))
    goes_on c id l loadable same_receiver constructed =
        resumed_ok program sound.rooted next_starts stands_in_list c
        (length below) caller e.made r.checked r.insn g [] loadable r.stands rules e.effect.1
        (e.effect.7 c l (subst (λ (n : ℕ). IsObject program.world c.objects (class_type d.by.class.name) n)
        (sym (same_number same_receiver)) constructed))
      where
        same_number : Some object ≡ Some id → object ≡ id
        same_number k = cc

    promise_is : (f : MethodFrame) → f.method.site ≡ d → f.receiver ≡ Some object
        → promise_of f ≡ Builds (class_type d.by.class.name) (Some object)
    promise_is f site receiver =
        ap (λ (b : Bool). promise_by b f.method f.receiver) (ap (λ (s : Declared). is_init s.method.name) site ∙ e.effect.2)
        ∙ ap (λ (s : Declared). Builds (class_type s.by.class.name) f.receiver) site
        ∙ ap (λ (o : Option ℕ). Builds (class_type d.by.class.name) o) receiver

    pub constructs_acts : Holds (IsGood program) (act program frame below control (memory, Constructs d object instance arguments stack))
    constructs_acts =
        let code = some_code d.method.code e.effect.0.code in
        then_holds (found_holds {P = λ c. c ≡ code.0} OffsetFault d.method.code code.0 code.1 refl) (λ c _.
        within_ok e.heap memory (waiting frame stack ∷ below) control (code_words c)
        (entered_above program (waiting frame stack ∷ below) d (Some object) arguments entered_memory) e.is e.memory verified
        (main_all (waiting frame stack ∷ below))
        (waits, waiting_later program sound.rooted next_starts stands_in_list below e.grows (promise_of frame) cs)
        (λ given states same_main.
        then_holds (constructor_frame_ok program sound one_list next_starts stands_in_list parameters_are_sorts slots_are_words
        constructors_are_not_static e.heap (suc (length below)) object instance u.there d e.effect.0 e.effect.2 arguments
        passed u.below (loadable_of begun entered_memory begun_is typed)) (λ f run.
        holds (record {
          heap = begun;
          is = begun_is;
          memory = typed;
          frames = (
            run.0,
            subst (λ (p : Promise). AreWaiting program begun p (waiting frame stack ∷ below))
                (sym (promise_is f run.1 run.2)) (
                  waits_begun,
                  goes_on,
                  waiting_later program sound.rooted next_starts stands_in_list below (later e.grows grows)
                      (promise_of frame) cs,
                ),
          );
          verified = subst (λ (x : ClassStates). AreVerified program x) (sym states) verified;
          main = subst (λ (x : List ℕ). HasMain program x (Runs f ∷ waiting frame stack ∷ below)) (sym same_main)
              (main_all (Runs f ∷ waiting frame stack ∷ below));
        }))))
