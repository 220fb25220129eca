-- Throws by the machine, and the beginning of an initialization.
use Rattle.jv_meaning_world.specs.Laws.Order.{is_loadable_type}
use Rattle.std.proofs.Common.{◌≡◌, ℕ, ◌-◌, Bool, true, false, ◌||◌, List, [], ◌∷◌, length, Option, Some, None, Ok, Err, refl, sym, ap, subst, ◌∙◌, arith}
use Rattle.std.specs.Prelude.{IsTrue, slice_get, nat_le, codes, if◌then◌else◌}
use Rattle.std.specs.List.{AllByRecursion, Contains}
use Rattle.std.specs.Str.{bytes_eq}
use Rattle.jv_stackmap.specs.declared.verification.VerificationTypeOf.TheVariants as types
use Rattle.jv_code.specs.Places.{StandsInList, NextStarts}
use Rattle.jv_meaning_world.specs.World.{Loaded, class_named}
use Rattle.jv_meaning_world.proofs.Up.{same_name}
use Rattle.jv_meaning_world.specs.Laws.Order.{IsBelow, IsRooted, names_interface, object_name}
use Rattle.jv_meaning_world.proofs.Order.{below_is_reflexive}
use Rattle.jv_meaning_world.proofs.OrderAbove.{array_below_class}
use Rattle.jv_meaning_typing.specs.Named.{throwable_type}
use Rattle.jv_meaning_machine.specs.Faults.{OrFault}
use Rattle.jv_meaning_machine.specs.Faults.Fault.{ReferenceFault}
use Rattle.jv_meaning_machine.specs.Objects.{Object}
use Rattle.jv_meaning_machine.specs.Objects.Object.{InstanceOf, ArrayWith}
use Rattle.jv_meaning_machine.specs.Frames.{Frame}
use Rattle.jv_meaning_machine.specs.Frames.Frame.{Runs, Initializes}
use Rattle.jv_meaning_machine.specs.State.{Program, Memory, ThrowPlace, Control, State, state_of, with_state, ClassState, ClassStates, class_state, state_named, is_ready}
use Rattle.jv_meaning_machine.specs.State.ClassState.{Untouched, Begun, Initialized, Erroneous}
use Rattle.jv_meaning_machine.specs.Costs.{given_words, initialization_words}
use Rattle.jv_meaning_machine.specs.Fields.{instance_in}
use Rattle.jv_meaning_machine.specs.Throws.{Thrown, exception, place_in, thrown, unwound, throw, raise}
use Rattle.jv_meaning_machine.specs.Entering.{within_words}
use Rattle.jv_meaning_machine.specs.Initialization.{is_verified, initialization_of, tasks_of, begin}
use Rattle.jv_meaning_machine.proofs.Began.{begun_if, begun_in}
use Rattle.jv_sound.specs.Values.{Heap, IsObject, object_type}
use Rattle.jv_sound.specs.Memory.{IsTypedMemory, AreLoadable}
use Rattle.jv_sound.specs.Later.{IsLater}
use Rattle.jv_sound.specs.Frames.{Holds, promise_of, AreWaiting, AreVerified, HasMain, IsGood, IsTask}
use Rattle.jv_sound.specs.Frames.Promise.{Again}
use Rattle.jv_sound.specs.Effects.{stack_overflow, IsThrown}
use Rattle.jv_sound.proofs.Logic.{holds, then_holds, found_holds}
use Rattle.jv_sound.proofs.Heaps.{weaker}
use Rattle.jv_sound.proofs.Frames.{IsThrownGood, AreCatching, catching_of, catching_later, waiting_later, again}
use Rattle.jv_sound.proofs.Memories.{IsMade}

pub one_loaded : (a b : Loaded) → Some a ≡ Some b → a ≡ b
one_loaded a b e = cc

pub given_same : (w : ℕ) (c given : Control) → given_words w c ≡ Some given → (given.states ≡ c.states) × (given.main ≡ c.main)
given_same w c given k = by_test (nat_le w c.words) k
  where
    by_test : (t : Bool) → (if t then Some (record c { words = c.words - w }) else None) ≡ Some given
        → (given.states ≡ c.states) × (given.main ≡ c.main)
    by_test true k = let s : record c { words = c.words - w } ≡ given = cc in
        (ap (λ (x : Control). x.states) (sym s), ap (λ (x : Control). x.main) (sym s))
    by_test false k = absurd cc

module _ (program : Program) (rooted : IsRooted program.world) (next_starts : NextStarts) (stands_in_list : StandsInList)
    (named : (l : Loaded) → Contains program.world l → class_named program.world l.class.name ≡ Some l)
    (loadable_of : (heap : Heap) (memory : Memory) → heap.objects ≡ memory.objects → IsTypedMemory program memory
    → AreLoadable program.world heap.objects)
    (throwable_is_plain : IsTrue (names_interface program.world (codes "java/lang/Throwable")) → ⊥)
    (throwable_is_not_object : codes "java/lang/Throwable" ≡ object_name → ⊥)
    (exception_ok : (a : Heap) (memory : Memory) (name : List ℕ) → a.objects ≡ memory.objects → IsTypedMemory program memory
    → IsThrown program.world name → Holds (IsMade program a) (exception program.world name memory))
    (unwound_ok : (heap : Heap) (t : Thrown) (fs : List Frame) → IsThrownGood program rooted next_starts stands_in_list heap t
    → HasMain program t.control.main fs → AreCatching program rooted next_starts stands_in_list heap fs
    → AreLoadable program.world heap.objects → Holds (IsGood program) (unwound program.world t fs))
    (system_error : (name : List ℕ) → IsTrue (bytes_eq name (codes "java/lang/VerifyError") ||
    (bytes_eq name (codes "java/lang/NoClassDefFoundError") || bytes_eq name (codes "java/lang/StackOverflowError")))
    → IsThrown program.world name)
    (tasks_ok : (l : Loaded) → Contains program.world l → IsTrue (is_verified program l)
    → AllByRecursion (IsTask program) (tasks_of program.world l)) where
  -- what is thrown is an instance
  thrown_ok :
      (a : Heap) (memory : Memory) (place : Option ThrowPlace) (control : Control) (id : ℕ) → a.objects ≡ memory.objects
      → IsTypedMemory program memory → AreVerified program control.states → IsObject program.world a.objects throwable_type id
      → Holds (λ t. IsThrownGood program rooted next_starts stands_in_list a t
      × (t.control.main ≡ control.main)) (thrown place control (memory, id))
  thrown_ok a memory place control id is typed verified h =
      let at : slice_get memory.objects id ≡ Some h.object = subst (λ (os : List Object). slice_get os id ≡ Some h.object) is h.there in
      then_holds (then_holds (found_holds {P = λ o. o ≡ h.object} ReferenceFault (slice_get memory.objects id) h.object at refl) (λ o e.
      subst (λ (x : Object). Holds (λ i. h.object ≡ InstanceOf i) (instance_in x)) (sym e) (by_object h.object h.below))) (λ i e.
      holds (
        record {
          is = is;
          memory = typed;
          object = record {
            object = h.object;
            there = h.there;
            constructed = h.constructed;
            below = subst
                (λ (x : Object). IsBelow program.world (object_type x) (types.Class i.class)) (sym e)
                (below_is_reflexive program.world (types.Class i.class));
          };
          throwable = h;
          loadable = subst (λ (x : Object). IsTrue (is_loadable_type program.world (object_type x))) e
              (loadable_of a memory is typed id h.object h.there);
          verified = verified;
        },
        refl,
      ))
    where
      by_object : (o : Object) → IsBelow program.world (object_type o) throwable_type → Holds (λ i. o ≡ InstanceOf i) (instance_in o)
      by_object (InstanceOf i) b = holds refl
      by_object (ArrayWith components values) b = absurd (throwable_is_not_object
          (array_below_class program.world rooted components (codes "java/lang/Throwable") throwable_is_plain b))

  pub throw_ok :
      (a : Heap) (memory : Memory) (frames : List Frame) (control : Control) (id : ℕ) → a.objects ≡ memory.objects
      → IsTypedMemory program memory → AreVerified program control.states → HasMain program control.main frames
      → AreCatching program rooted next_starts stands_in_list a frames → IsObject program.world a.objects throwable_type id
      → Holds (IsGood program) (throw program.world memory frames control id)
  throw_ok a memory frames control id is typed verified main c h =
      then_holds (thrown_ok a memory (place_in frames) control id is typed verified h) (λ t k.
      unwound_ok a t frames k.0 (subst (λ (n : List ℕ). HasMain program n frames) (sym k.1) main) c (loadable_of a memory is typed))

  all_catching_later : {a b : Heap} (fs : List Frame) → IsLater (length fs) a b → AreCatching program rooted next_starts stands_in_list a fs
      → AreCatching program rooted next_starts stands_in_list b fs
  all_catching_later [] g c = tt
  all_catching_later (Runs f ∷ fs) g c = (
    catching_later program rooted next_starts stands_in_list (length fs) g f c.0,
    waiting_later program rooted next_starts stands_in_list
        fs (weaker (omega arith) g) (promise_of f) c.1,
  )
  all_catching_later (Initializes f ∷ fs) g c = (
    c.0,
    c.1,
    waiting_later program rooted next_starts stands_in_list fs
        (weaker (omega arith) g) Again c.2,
  )

  -- what is raised, in a later heap
  record IsRaised (a : Heap) (control : Control) (t : Thrown) : Type 0 where
    heap : Heap
    grows : (d : ℕ) → IsLater d a heap
    fine : IsThrownGood program rooted next_starts stands_in_list heap t
    main : t.control.main ≡ control.main
    loadable : AreLoadable program.world heap.objects

  pub raise_ok :
      (a : Heap) (memory : Memory) (frames : List Frame) (control : Control) (name : List ℕ) → a.objects ≡ memory.objects
      → IsTypedMemory program memory → AreVerified program control.states → HasMain program control.main frames
      → AreCatching program rooted next_starts stands_in_list a frames → IsThrown program.world name
      → Holds (IsGood program) (raise program.world memory frames control name)
  raise_ok a memory frames control name is typed verified main c h =
      then_holds (then_holds {Q = IsRaised a control} (exception_ok a memory name is typed h) (λ made k.
      also made k (thrown (place_in frames) control made) (thrown_ok k.heap made.0 (place_in frames) control made.1 k.is k.typed verified k.throwable))) (λ t k.
      unwound_ok k.heap t frames k.fine (subst (λ (n : List ℕ). HasMain program n frames) (sym k.main) main)
      (all_catching_later frames (k.grows (length frames)) c) k.loadable)
    where
      also : (made : Memory × ℕ) (k : IsMade program a made) (r : OrFault Thrown)
          → Holds (λ t. IsThrownGood program rooted next_starts stands_in_list k.heap t × (t.control.main ≡ control.main)) r
          → Holds (IsRaised a control) r
      also made k (Ok t) h = holds (record {
        heap = k.heap;
        grows = k.grows;
        fine = h.by.0;
        main = h.by.1;
        loadable = loadable_of k.heap
            made.0 k.is k.typed;
      })
      also made k (Err fault) h = absurd h.by

  -- where words are left it goes on with fewer of them, and else a StackOverflowError is thrown
  pub within_ok :
      (a : Heap) (memory : Memory) (frames : List Frame) (control : Control) (words : ℕ) (next : Control → OrFault State)
      → a.objects ≡ memory.objects → IsTypedMemory program memory → AreVerified program control.states
      → HasMain program control.main frames → AreCatching program rooted next_starts stands_in_list a frames
      → ((given : Control) → given.states ≡ control.states → given.main ≡ control.main → Holds (IsGood program) (next given))
      → Holds (IsGood program) (within_words program.world memory frames control words next)
  within_ok a memory frames control words next is typed verified main c k = by_words (given_words words control) refl
    where
      by_words : (o : Option Control) → given_words words control ≡ o
          → Holds (IsGood program) (elim o [ None ↦ raise program.world memory frames control stack_overflow | Some given ↦ next given ])
      by_words None e = raise_ok a memory frames control stack_overflow is typed verified main c (system_error stack_overflow refl)
      by_words (Some given) e = let kept = given_same words control given e in k given kept.0 kept.1

  -- ---- beginning

  begun_verified : (l : Loaded) (states : ClassStates) → Contains program.world l → IsTrue (is_verified program l)
      → AreVerified program states → AreVerified program ((l.class.name, Begun) ∷ states)
  begun_verified l states there v all other here e = by_system other.by_system refl e
    where
      by_name : (b : Bool) → bytes_eq other.class.name l.class.name ≡ b
          → is_ready (if b then Begun else state_named other.class.name states) ≡ true
          → (is_ready (state_named other.class.name states) ≡ true → IsTrue (is_verified program other))
          → IsTrue (is_verified program other)
      by_name true k e next =
          let n : other.class.name ≡ l.class.name = same_name other.class.name l.class.name k in
          let t : other ≡ l = one_loaded other l (sym (named other here) ∙ ap (class_named program.world) n ∙ named l there) in
          subst (λ (x : Loaded). IsTrue (is_verified program x)) (sym t) v
      by_name false k e next = next e

      by_system : (b : Bool) → other.by_system ≡ b → is_ready (if b then Initialized else state_named other.class.name
          ((l.class.name, Begun) ∷ states)) ≡ true → IsTrue (is_verified program other)
      by_system true k e = all other here (ap (λ (b : Bool). is_ready (if b then Initialized else state_named other.class.name states)) k)
      by_system false k e = by_name (bytes_eq other.class.name l.class.name) refl e
          (λ f. all other here (ap (λ (b : Bool). is_ready (if b then Initialized else state_named other.class.name states)) k ∙ f))

  -- an initialization is begun above frames that go on afterwards
  pub begin_ok :
      (a : Heap) (memory : Memory) (frames : List Frame) (control : Control) (l : Loaded) → a.objects ≡ memory.objects
      → IsTypedMemory program memory → AreVerified program control.states → ((fs : List Frame) → HasMain program control.main fs)
      → Contains program.world l → AreWaiting program a Again frames → Holds (IsGood program) (begin program memory frames control l)
  begin_ok a memory frames control l is typed verified main there waits = by_state (class_state control.states l)
    where
      catching : AreCatching program rooted next_starts stands_in_list a frames
      catching = catching_of program rooted next_starts stands_in_list a Again frames waits

      raised : (name : List ℕ) → IsThrown program.world name → Holds (IsGood program) (raise program.world memory frames control name)
      raised name h = raise_ok a memory frames control name is typed verified (main frames) catching h

      stays : Holds (IsGood program) (Ok (state_of memory frames control))
      stays = holds (record {
        heap = a;
        is = is;
        memory = typed;
        frames = again program rooted next_starts stands_in_list a frames
            (loadable_of a memory is typed) waits;
        verified = verified;
        main = main frames;
      })

      by_verdict : (b : Bool) → is_verified program l ≡ b → Holds (IsGood program) (begun_if program memory frames control l b)
      by_verdict true v =
          within_ok a memory frames control initialization_words
          (λ given. Ok (state_of memory (Initializes (initialization_of program.world l) ∷ frames)
          (with_state Begun l given))) is typed verified (main frames) catching (λ given states same_main.
          holds (record {
            heap = a;
            is = is;
            memory = typed;
            frames = (record { here = there; verified = v }, tasks_ok l there v, waits);
            verified = begun_verified l given.states there v (subst (λ (x : ClassStates). AreVerified program x) (sym states) verified);
            main = subst (λ (n : List ℕ). HasMain program n (Initializes (initialization_of program.world l) ∷ frames)) (sym same_main)
                (main (Initializes (initialization_of program.world l) ∷ frames));
          }))
      by_verdict false v = raised (codes "java/lang/VerifyError") (system_error (codes "java/lang/VerifyError") refl)

      by_state : (s : ClassState) → Holds (IsGood program) (begun_in program memory frames control l s)
      by_state Untouched = by_verdict (is_verified program l) refl
      by_state Begun = stays
      by_state Initialized = stays
      by_state Erroneous = raised (codes "java/lang/NoClassDefFoundError") (system_error (codes "java/lang/NoClassDefFoundError") refl)
