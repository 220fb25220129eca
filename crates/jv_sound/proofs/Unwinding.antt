-- What unwinding asks of memories and class states: objects are of loadable types, and a class that a throw passes becomes erroneous.
use Rattle.std.proofs.Common.{◌≡◌, Bool, true, false, List, ◌∷◌, Some, refl, sym, ap, subst, ◌∙◌}
use Rattle.std.specs.Prelude.{IsTrue, slice_get, if◌then◌else◌}
use Rattle.std.specs.List.{Contains}
use Rattle.std.specs.Str.{bytes_eq}
use Rattle.jv_code.specs.Places.{StandsInList, NextStarts}
use Rattle.jv_meaning_world.specs.World.{Loaded}
use Rattle.jv_meaning_world.specs.Verdicts.{is_loadable, passes}
use Rattle.jv_meaning_world.specs.Laws.Order.{IsRooted, is_loadable_type}
use Rattle.jv_meaning_machine.specs.Objects.{Object}
use Rattle.jv_meaning_machine.specs.Objects.Object.{InstanceOf, ArrayWith}
use Rattle.jv_meaning_machine.specs.State.{Program, Memory, ClassStates, state_named, is_ready}
use Rattle.jv_meaning_machine.specs.State.ClassState.{Initialized, Erroneous}
use Rattle.jv_meaning_machine.specs.Throws.{Thrown, passed_initialization}
use Rattle.jv_meaning_machine.specs.Initialization.{is_verified}
use Rattle.jv_sound.specs.Values.{Heap, object_type}
use Rattle.jv_sound.specs.Memory.{IsTypedMemory, IsTypedObject, AreLoadable}
use Rattle.jv_sound.specs.Frames.{AreVerified}
use Rattle.jv_sound.proofs.Logic.{clash}
use Rattle.jv_sound.proofs.Frames.{IsThrownGood}

-- an object of its type is of a loadable type
typed_loadable : (program : Program) (objects : List Object) (o : Object) → IsTypedObject program objects o
    → IsTrue (is_loadable_type program.world (object_type o))
typed_loadable program objects (InstanceOf i) h = subst (λ (o : Rattle.std.specs.Prelude.Option Loaded). IsTrue
    (passes (is_loadable program.world) o)) (sym h.named) h.loadable
typed_loadable program objects (ArrayWith components values) h = h.loadable

pub loadable_of : (program : Program) (heap : Heap) (memory : Memory) → heap.objects ≡ memory.objects → IsTypedMemory program memory
    → AreLoadable program.world heap.objects
loadable_of program heap memory is typed id o e =
    typed_loadable program memory.objects o (typed.objects.each id o (subst (λ (os : List Object). slice_get os id ≡ Some o) is e))

-- a class that becomes erroneous is asked nothing
pub erroneous_verified : (program : Program) (l : Loaded) (states : ClassStates) → AreVerified program states
    → AreVerified program ((l.class.name, Erroneous) ∷ states)
erroneous_verified program l states all other here e = by_system other.by_system refl e
  where
    by_name : (b : Bool) → is_ready (if b then Erroneous else state_named other.class.name states) ≡ true
        → (is_ready (state_named other.class.name states) ≡ true → IsTrue (is_verified program other)) → IsTrue (is_verified program other)
    by_name true e next = absurd (clash e)
    by_name false e next = next e

    by_system : (b : Bool) → other.by_system ≡ b → is_ready (if b then Initialized else state_named other.class.name
        ((l.class.name, Erroneous) ∷ states)) ≡ true → IsTrue (is_verified program other)
    by_system true k e = all other here (ap (λ (b : Bool). is_ready (if b then Initialized else state_named other.class.name states)) k)
    by_system false k e = by_name (bytes_eq other.class.name l.class.name) e
        (λ f. all other here (ap (λ (b : Bool). is_ready (if b then Initialized else state_named other.class.name states)) k ∙ f))

module _ (program : Program) (rooted : IsRooted program.world) (next_starts : NextStarts) (stands_in_list : StandsInList) where
  pub begun_is_verified : (l : Loaded) (t : Thrown) (heap : Heap) → Contains program.world l
      → IsThrownGood program rooted next_starts stands_in_list heap t
      → IsThrownGood program rooted next_starts stands_in_list heap (passed_initialization l t)
  begun_is_verified l t heap there h = record {
    is = h.is;
    memory = h.memory;
    object = h.object;
    throwable = h.throwable;
    loadable =
        h.loadable;
    verified = erroneous_verified program l t.control.states h.verified;
  }

  pub thrown_loadable : (heap : Heap) (t : Thrown) → IsThrownGood program rooted next_starts stands_in_list heap t
      → AreLoadable program.world heap.objects
  thrown_loadable heap t h = loadable_of program heap t.memory h.is h.memory
