-- An ExceptionInInitializerError in place of what passes an initialization, and unwinding with nothing asked but that what a handler
-- catches is of its type.
use Rattle.jv_sound.proofs.Unwinding.{loadable_of}
use Rattle.jv_meaning_world.specs.Laws.Order.{is_loadable_type}
use Rattle.std.proofs.Common.{◌≡◌, ℕ, Bool, true, false, List, Option, Some, Ok, Err, refl, sym, subst}
use Rattle.std.specs.Prelude.{IsTrue, slice_get, codes}
use Rattle.std.specs.List.{Contains}
use Rattle.jv_format.specs.declared.handlers.Handler.{Handler}
use Rattle.jv_stackmap.specs.declared.verification.VerificationTypeOf.TheVariants as types
use Rattle.jv_stackmap.specs.Types.{FrameType}
use Rattle.jv_code.specs.Places.{StandsInList, NextStarts}
use Rattle.jv_meaning_world.proofs.Order.{below_is_reflexive}
use Rattle.jv_meaning_world.proofs.OrderAbove.{array_below_class}
use Rattle.jv_meaning_world.specs.Laws.Order.{IsBelow}
use Rattle.jv_meaning_typing.specs.Environment.{current_class}
use Rattle.jv_meaning_typing.specs.Named.{throwable_type}
use Rattle.jv_meaning_typing.specs.Typing.{catch_type}
use Rattle.jv_meaning_machine.specs.Faults.{OrFault}
use Rattle.jv_meaning_machine.specs.Faults.Fault.{ReferenceFault}
use Rattle.jv_meaning_machine.specs.Values.Value.{Reference}
use Rattle.jv_meaning_machine.specs.Objects.{Object, is_at_or_below}
use Rattle.jv_meaning_machine.specs.Objects.Object.{InstanceOf, ArrayWith}
use Rattle.jv_meaning_machine.specs.Frames.{MethodFrame, Frame}
use Rattle.jv_meaning_machine.specs.State.{Program, Memory, ThrowPlace, Control}
use Rattle.jv_meaning_machine.specs.Fields.{instance_in}
use Rattle.jv_meaning_machine.specs.Throws.{Thrown, replacement_place, thrown, catches, replacement, replacement_if, unwound}
use Rattle.jv_sound.specs.Values.{Heap, Place, IsObject, Item, object_type}
use Rattle.jv_sound.specs.Memory.{IsTypedMemory, AreLoadable}
use Rattle.jv_sound.specs.Later.{IsLater}
use Rattle.jv_sound.specs.Sound.{IsSound, IsChecked}
use Rattle.jv_sound.specs.Frames.{Holds, AreVerified, HasMain, IsGood}
use Rattle.jv_sound.proofs.Logic.{holds, then_holds, found_holds}
use Rattle.jv_sound.proofs.Heaps.{same}
use Rattle.jv_sound.proofs.Memories.{IsMade, exception_ok}
use Rattle.jv_sound.proofs.Frames.{IsThrownGood, AreCatching, unwound_ok}
use Rattle.jv_sound.proofs.SystemFacts.{raised, makeable, out_of_memory_is_thrown, throwable_is_plain, throwable_is_not_object}
use Rattle.jv_sound.proofs.Room.{handler_room, thrown_loadable, begun_is_verified}

module _ (program : Program) (sound : IsSound program) (next_starts : NextStarts) (stands_in_list : StandsInList) where
  abbrev IsFine : Heap → Thrown → Type 0
  IsFine a t = IsThrownGood program sound.rooted next_starts stands_in_list a t

  thrown_good :
      (a : Heap) (memory : Memory) (place : Option ThrowPlace) (control : Control) (id : ℕ) → a.objects ≡ memory.objects → IsTypedMemory program memory
      → AreVerified program control.states → IsObject program.world a.objects throwable_type id
      → Holds (λ t. IsFine a t × (t.control.main ≡ control.main)) (thrown place control (memory, id))
  thrown_good a memory place control id is typed verified h =
      let at : slice_get memory.objects id ≡ Some h.object = subst (λ (os : List Object). slice_get os id ≡ Some h.object) is h.there in
      then_holds (then_holds (found_holds {P = λ o. o ≡ h.object} ReferenceFault (slice_get memory.objects id) h.object at refl) (λ o e.
      subst (λ (x : Object). Holds (λ i. h.object ≡ InstanceOf i) (instance_in x)) (sym e) (by_object h.object h.below))) (λ i e.
      holds (
        record {
          is = is;
          memory = typed;
          object = record {
            object = h.object;
            there = h.there;
            constructed = h.constructed;
            below = subst
                (λ (x : Object). IsBelow program.world (object_type x) (types.Class i.class)) (sym e)
                (below_is_reflexive program.world (types.Class i.class));
          };
          throwable = h;
          loadable = subst (λ (x : Object). IsTrue (is_loadable_type program.world (object_type x))) e
              (loadable_of program a memory is typed id h.object h.there);
          verified = verified;
        },
        refl,
      ))
    where
      by_object : (o : Object) → IsBelow program.world (object_type o) throwable_type → Holds (λ i. o ≡ InstanceOf i) (instance_in o)
      by_object (InstanceOf i) b = holds refl
      by_object (ArrayWith components values) b = absurd (throwable_is_not_object
          (array_below_class program.world sound.rooted components (codes "java/lang/Throwable") (throwable_is_plain program sound) b))

  abbrev IsReplaced : Heap → Thrown → ℕ → Thrown → Type 0
  IsReplaced heap t d u = (b : Heap) × IsLater d heap b × IsFine b u × (u.control.main ≡ t.control.main)

  pub replacement_ok :
      (heap : Heap) (t : Thrown) (below : List Frame) (d : ℕ) → IsFine heap t
      → Holds (IsReplaced heap t d) (replacement program.world t below)
  replacement_ok heap t below d ok = by_test (is_at_or_below program.world t.class (codes "java/lang/Error"))
    where
      also : (made : Memory × ℕ) (k : IsMade program heap made) (r : OrFault Thrown)
          → Holds (λ u. IsFine k.heap u × (u.control.main ≡ t.control.main)) r → Holds (IsReplaced heap t d) r
      also made k (Ok u) h = holds (k.heap, k.grows d, h.by.0, h.by.1)
      also made k (Err fault) h = absurd h.by

      by_test : (b : Bool) → Holds (IsReplaced heap t d) (replacement_if program.world t below b)
      by_test true = holds (heap, same d heap, ok, refl)
      by_test false =
          then_holds (exception_ok program (makeable program sound) (out_of_memory_is_thrown program sound) heap t.memory
          (codes "java/lang/ExceptionInInitializerError") ok.is ok.memory
          (raised program sound (codes "java/lang/ExceptionInInitializerError") refl)) (λ made k.
          also made k (thrown (replacement_place below t.control) t.control made) (thrown_good k.heap made.0 (replacement_place below t.control) t.control made.1 k.is k.typed ok.verified k.throwable))

  pub unwinding_ok :
      ((heap : Heap) (t : Thrown) (f : MethodFrame) (checked : IsChecked program f.method) (h : Handler) (type : FrameType) → IsFine heap t
      → Contains f.method.code.exception_table h → catches program.world (current_class f.method).constant_pool t.class h ≡ true
      → catch_type f.method h.catch_type ≡ Some type → (p : Place) → p.heap ≡ heap → p.method ≡ f.method
      → Item p type (Reference t.object))
      → (heap : Heap) (t : Thrown) (fs : List Frame) → IsFine heap t → HasMain program t.control.main fs
      → AreCatching program sound.rooted next_starts stands_in_list heap fs → AreLoadable program.world heap.objects
      → Holds (IsGood program) (unwound program.world t fs)
  unwinding_ok catch_fits heap t fs ok main c loadable =
      unwound_ok program sound.rooted next_starts stands_in_list (handler_room program) catch_fits replacement_ok
      (thrown_loadable program sound.rooted next_starts stands_in_list)
      (begun_is_verified program sound.rooted next_starts stands_in_list) heap t fs ok main c loadable
