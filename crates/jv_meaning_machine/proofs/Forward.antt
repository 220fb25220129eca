-- Classes that are initialized or erroneous stay so, and throws are never fewer.
use Rattle.std.proofs.Common.{◌≡◌, ℕ, ◌+◌, ◌-◌, ◌^◌, ◌≤◌, min, Bool, true, false, List, [], ◌∷◌, refl, sym, ap, ◌∙◌, arith, true≢false, if◌then◌else◌, bytes_eq}
use Rattle.std.proofs.lemmas.Slice.Eq.{bytes_eq-Decides}
use Rattle.jv_meaning_world.specs.World.{Loaded}
use Rattle.jv_meaning_machine.specs.Frames.{InitializationFrame, Task, Frame}
use Rattle.jv_meaning_machine.specs.Frames.Frame.{Runs, Initializes}
use Rattle.jv_meaning_machine.specs.State.{State, ClassState, ClassStates, state_named, class_state}
use Rattle.jv_meaning_machine.specs.State.ClassState.{Untouched, Begun, Initialized, Erroneous}
use Rattle.jv_meaning_machine.specs.Start.{Budget}
use Rattle.jv_meaning_machine.specs.Alone.{GuestFiles, Judged, Feed}
use Rattle.jv_meaning_machine.specs.Laws.Forward.{IsLater, InitializedStays, ErroneousStays, ThrowsNeverFall, ConstructedStays}
use Rattle.jv_meaning_machine.proofs.KeptSteps.{after_kept}
use Rattle.jv_meaning_machine.proofs.Fed.{later_keeps}
use Rattle.jv_meaning_machine.proofs.Going.{IsKept, Went, step_goes}
use Rattle.jv_meaning_machine.proofs.Ends.{alone_goes}

-- ---- the classes that are being initialized

-- none of these frames initializes a class of this name
abbrev IsApart : List ℕ → List Frame → Type 0
IsApart name [] = Unit {0}
IsApart name (Runs frame ∷ below) = IsApart name below
IsApart name (Initializes frame ∷ below) = (bytes_eq frame.class.class.name name ≡ false) × IsApart name below

-- each class that is being initialized is known to be, and no class is twice
abbrev AreBegun : ClassStates → List Frame → Type 0
AreBegun states [] = Unit {0}
AreBegun states (Runs frame ∷ below) = AreBegun states below
AreBegun states (Initializes frame ∷ below) =
    (state_named frame.class.class.name states ≡ Begun) × IsApart frame.class.class.name below × AreBegun states below

-- another state of a class that isn't among them changes nothing
others_begun :
    (name : List ℕ) (state : ClassState) (states : ClassStates) (frames : List Frame) → IsApart name frames → AreBegun states frames
    → AreBegun ((name, state) ∷ states) frames
others_begun name state states [] apart h = tt
others_begun name state states (Runs frame ∷ below) apart h = others_begun name state states below apart h
others_begun name state states (Initializes frame ∷ below) apart h = (
  ap (λ (b : Bool). if b then state else state_named frame.class.class.name states) apart.0 ∙ h.0,
  h.1,
  others_begun name state states below apart.1 h.2,
)

-- a class that is untouched isn't among them
untouched_apart :
    (name : List ℕ) (states : ClassStates) (frames : List Frame) → state_named name states ≡ Untouched → AreBegun states frames
    → IsApart name frames
untouched_apart name states [] e h = tt
untouched_apart name states (Runs frame ∷ below) e h = untouched_apart name states below e h
untouched_apart name states (Initializes frame ∷ below) e h =
    (by_test (bytes_eq frame.class.class.name name) refl, untouched_apart name states below e h.2)
  where
    by_test : (test : Bool) → bytes_eq frame.class.class.name name ≡ test → test ≡ false
    by_test false f = refl
    by_test true f =
        let same : frame.class.class.name ≡ name = (bytes_eq-Decides frame.class.class.name name).0 f in
        let begun : state_named name states ≡ Begun = ap (λ (n : List ℕ). state_named n states) (sym same) ∙ h.0 in
        absurd cc

untouched_named : (l : Loaded) (states : ClassStates) → class_state states l ≡ Untouched → state_named l.class.name states ≡ Untouched
untouched_named l states e = by_loader l.by_system e
  where
    by_loader :
        (by_system : Bool) → (if by_system then Initialized else state_named l.class.name states) ≡ Untouched
        → state_named l.class.name states ≡ Untouched
    by_loader true f = absurd cc
    by_loader false f = f

-- ---- states that stay

abbrev is_done : ClassState → Bool
is_done Untouched = false
is_done Begun = false
is_done Initialized = true
is_done Erroneous = true

done_stays :
    (name other : List ℕ) (state next old : ClassState) (states : ClassStates) → is_done state ≡ true → state_named name states ≡ state
    → state_named other states ≡ old → is_done old ≡ false → state_named name ((other, next) ∷ states) ≡ state
done_stays name other state next old states done e f undone = by_test (bytes_eq name other) refl
  where
    by_test : (test : Bool) → bytes_eq name other ≡ test → (if test then next else state_named name states) ≡ state
    by_test false g = e
    by_test true g =
        let same : name ≡ other = (bytes_eq-Decides name other).0 g in
        let both : state ≡ old = sym e ∙ ap (λ (n : List ℕ). state_named n states) same ∙ f in
        absurd (true≢false (sym done ∙ ap is_done both ∙ undone))

-- what stays from an earlier state on, and what it takes
pub record Forward (from : ClassStates) (fewest : ℕ) (states : ClassStates) (throws : ℕ) (frames : List Frame) : Type 0 where
  pub begun : AreBegun states frames
  pub done : (name : List ℕ) (state : ClassState) → is_done state ≡ true → state_named name from ≡ state → state_named name states ≡ state
  pub more : fewest ≤ throws
  pub few : throws ≤ 2 ^ 64 - 1

one_more : (fewest throws most : ℕ) → fewest ≤ throws → throws ≤ most → (fewest ≤ min (throws + 1) most) × (min (throws + 1) most ≤ most)
one_more fewest throws most h k = (omega (arith, h, k), omega (arith, h, k))

module _ (from : ClassStates) (fewest : ℕ) where
  -- a class that is done with by the frame on top
  over :
      (states : ClassStates) (throws : ℕ) (below : List Frame) (frame : InitializationFrame) (next : ClassState)
      → Forward from fewest states throws (Initializes frame ∷ below)
      → Forward from fewest ((frame.class.class.name, next) ∷ states) throws below
  over states throws below frame next h = record {
    begun = others_begun frame.class.class.name next states below h.begun.1 h.begun.2;
    done = λ name state d e. done_stays name frame.class.class.name state next Begun states d (h.done name state d e) h.begun.0 refl;
    more = h.more;
    few = h.few;
  }

  begins_over :
      (states : ClassStates) (throws : ℕ) (frames : List Frame) (l : Loaded) (tasks : List Task) → class_state states l ≡ Untouched
      → Forward from fewest states throws frames
      → Forward from fewest ((l.class.name, Begun) ∷ states) throws (Initializes (record { class = l; tasks = tasks }) ∷ frames)
  begins_over states throws frames l tasks e h =
      let untouched : state_named l.class.name states ≡ Untouched = untouched_named l states e in
      let apart : IsApart l.class.name frames = untouched_apart l.class.name states frames untouched h.begun in
      record {
        begun = (
          ap (λ (b : Bool). if b then Begun else state_named l.class.name states) ((bytes_eq-Decides l.class.name l.class.name).1 refl),
          apart,
          others_begun l.class.name Begun states frames apart h.begun,
        );
        done = λ name state d f. done_stays name l.class.name state Begun Untouched states d (h.done name state d f) untouched refl;
        more = h.more;
        few = h.few;
      }

  thrown_over :
      (states : ClassStates) (throws : ℕ) (frames : List Frame) → Forward from fewest states throws frames
      → Forward from fewest states (min (throws + 1) (2 ^ 64 - 1)) frames
  thrown_over states throws frames h =
      let both = one_more fewest throws (2 ^ 64 - 1) h.more h.few in
      record { begun = h.begun; done = h.done; more = both.0; few = both.1 }

  forward_kept : IsKept (Forward from fewest)
  forward_kept = record {
    throws = thrown_over;
    enters = λ states throws frames frame h. record { begun = h.begun; done = h.done; more = h.more; few = h.few };
    leaves = λ states throws frames frame h. record { begun = h.begun; done = h.done; more = h.more; few = h.few };
    begins = begins_over;
    goes_on = λ states throws frames frame tasks h. record { begun = h.begun; done = h.done; more = h.more; few = h.few };
    finishes = λ states throws frames frame h. over states throws frames frame Initialized h;
    fails = λ states throws frames frame h. over states throws frames frame Erroneous h;
  }

-- ---- a guest alone

from_start : Forward [] 0 [] 0 []
from_start = record { begun = tt; done = λ name state d e. e; more = omega arith; few = omega arith }

later_forward :
    (judged : Judged) (g : GuestFiles) (b : Budget) (feeds : List Feed) (before later : State) → IsLater judged g b feeds before later
    → Forward before.control.states before.control.throws later.control.states later.control.throws later.frames
later_forward judged g b feeds before later h =
    let first : Went (Forward [] 0) (forward_kept [] 0) before =
    alone_goes (Forward [] 0) (forward_kept [] 0) from_start judged g b feeds h.n before h.right h.ran in
    let here : Forward before.control.states before.control.throws before.control.states before.control.throws before.frames =
    record { begun = first.1.begun; done = λ name state d e. e; more = omega arith; few = first.1.few } in
    ((later_keeps judged g b feeds (Went (Forward before.control.states before.control.throws) (forward_kept before.control.states before.control.throws))
    (λ s t k f.
    step_goes (Forward before.control.states before.control.throws) (forward_kept before.control.states before.control.throws)
    judged.program s t k f)
    (λ bytes s k. k) h.n h.more before h.ran (first.0, here)).at
    later h.ran_on).1

stays_done :
    (judged : Judged) (g : GuestFiles) (b : Budget) (feeds : List Feed) (before later : State) (l : Loaded) (state : ClassState)
    → IsLater judged g b feeds before later
    → is_done state ≡ true → class_state before.control.states l ≡ state → class_state later.control.states l ≡ state
stays_done judged g b feeds before later l state h done e = by_loader l.by_system e
  where
    by_loader :
        (by_system : Bool) → (if by_system then Initialized else state_named l.class.name before.control.states) ≡ state
        → (if by_system then Initialized else state_named l.class.name later.control.states) ≡ state
    by_loader true f = f
    by_loader false f = (later_forward judged g b feeds before later h).done l.class.name state done f

pub initialized_stays : InitializedStays
initialized_stays judged g b feeds before later l h e = stays_done judged g b feeds before later l Initialized h refl e

pub erroneous_stays : ErroneousStays
erroneous_stays judged g b feeds before later l h e = stays_done judged g b feeds before later l Erroneous h refl e

pub throws_never_fall : ThrowsNeverFall
throws_never_fall judged g b feeds before later h =
    ((later_forward judged g b feeds before later h).more, (later_forward judged g b feeds before later h).few)

-- ---- objects

pub constructed_stays : ConstructedStays
constructed_stays program n before later e = (after_kept program n before later e).memory.constructed
