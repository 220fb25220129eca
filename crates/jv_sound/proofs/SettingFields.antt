-- A static field gets its constant in the initialization of its class (JVMS 4.7.2, 5.5).
use Rattle.std.proofs.Common.{◌≡◌, ℕ, List, length, Option, Some, None, refl, sym, subst}
use Rattle.std.specs.Prelude.{codes}
use Rattle.jv_text.specs.declared.descriptor.FieldTypeOf.{FieldTypeOf}
use Rattle.jv_text.specs.Types.{field_type_of}
use Rattle.jv_stackmap.specs.Types.{value_type}
use Rattle.jv_code.specs.Places.{StandsInList, NextStarts}
use Rattle.jv_class.specs.Class.{InitialValue}
use Rattle.jv_meaning_world.specs.World.{Loaded, class_named}
use Rattle.jv_meaning_world.specs.LookUps.{DeclaredField}
use Rattle.jv_meaning_world.specs.Laws.Order.{IsRooted}
use Rattle.jv_meaning_typing.specs.Named.{class_type, throwable_type}
use Rattle.jv_meaning_machine.specs.Faults.{◌>>=◌}
use Rattle.jv_meaning_machine.specs.Faults.Fault.{OffsetFault}
use Rattle.jv_meaning_machine.specs.Values.{Value, narrowed}
use Rattle.jv_meaning_machine.specs.Objects.{Object, key_of}
use Rattle.jv_meaning_machine.specs.Frames.{Frame}
use Rattle.jv_meaning_machine.specs.Frames.Task.{SetsField}
use Rattle.jv_meaning_machine.specs.State.{Program, Memory, Control}
use Rattle.jv_meaning_machine.specs.Effects.{out_of_memory}
use Rattle.jv_meaning_machine.specs.Initialization.{do_task, set_field}
use Rattle.jv_meaning_machine.specs.Literals.{string_name, constant_value}
use Rattle.jv_sound.specs.Values.{Heap, Fits, FitsDescribed, IsObject}
use Rattle.jv_sound.specs.Memory.{IsTypedMemory, AreLoadable}
use Rattle.jv_sound.specs.Frames.{Holds, AreWaiting, AreVerified, HasMain, IsGood, IsTask}
use Rattle.jv_sound.specs.Frames.Promise.{Again}
use Rattle.jv_sound.proofs.EnteringAbove.{Throws}
use Rattle.jv_sound.proofs.Logic.{holds, then_holds, found_holds}
use Rattle.jv_sound.proofs.Frames.{again, catching_of, waiting_later}
use Rattle.jv_sound.proofs.Memories.{IsMakeable}
use Rattle.jv_sound.proofs.Storing.{static_typed}
use Rattle.jv_sound.proofs.Constants.{IsConstantIf, constant_ok}
use Rattle.jv_sound.proofs.Storing.{narrowed_fits}

module _ (program : Program) (rooted : IsRooted program.world) (next_starts : NextStarts) (stands_in_list : StandsInList)
    (string : Loaded) (there : class_named program.world string_name ≡ Some string) (makeable : IsMakeable program string)
    (loadable_of : (heap : Heap) (memory : Memory) → heap.objects ≡ memory.objects → IsTypedMemory program memory
    → AreLoadable program.world heap.objects)
    (out_of_memory_is_thrown : (objects : List Object) → IsObject program.world objects
    (class_type (codes "java/lang/OutOfMemoryError")) out_of_memory → IsObject program.world objects throwable_type out_of_memory)
    (throw_ok : Throws program rooted next_starts stands_in_list) where
  pub set_field_ok : (a : Heap) (memory : Memory) (frames : List Frame) (control : Control) (d : DeclaredField) (constant : InitialValue)
      → a.objects ≡ memory.objects → IsTypedMemory program memory → AreVerified program control.states
      → ((fs : List Frame) → HasMain program control.main fs) → AreWaiting program a Again frames → IsTask program (SetsField d constant)
      → Holds (IsGood program) (do_task program memory frames control (SetsField d constant))
  set_field_ok a memory frames control d constant is typed verified main waits task =
      then_holds (found_holds {P = λ t. t ≡ task.0} OffsetFault (field_type_of d.field.descriptor) task.0 task.1 refl) (λ t same_type.
      subst (λ (t : FieldTypeOf (List ℕ)). Holds (IsGood program)
      (constant_value program constant memory >>= set_field program.world frames control d t memory)) (sym same_type)
      (then_holds (constant_ok program string there makeable a memory (value_type task.0) constant is typed task.2 task.3)
      (λ made f. by_made made f)))
    where
      by_made : (o : Option (Memory × Value)) → IsConstantIf program string there makeable a (value_type task.0) o
          → Holds (IsGood program) (set_field program.world frames control d task.0 memory o)
      by_made None f =
          throw_ok a memory frames control out_of_memory is typed verified (main frames)
          (catching_of program rooted next_starts stands_in_list a Again frames waits)
          (out_of_memory_is_thrown a.objects (subst (λ (os : List Object). IsObject program.world os
          (class_type (codes "java/lang/OutOfMemoryError")) out_of_memory) (sym is) typed.no_memory))
      by_made (Some made) f =
          let fits : FitsDescribed program.world made.0.objects (field_type_of d.field.descriptor) (narrowed task.0 made.1) =
          subst (λ (o : Option (FieldTypeOf (List ℕ))). FitsDescribed program.world made.0.objects o (narrowed task.0 made.1)) (sym task.1)
          (subst (λ (os : List Object). Fits program.world os (value_type task.0) (narrowed task.0 made.1)) f.is
          (narrowed_fits program.world f.heap.objects task.0 made.1 f.fits)) in
          holds (record {
            heap = f.heap;
            is = f.is;
            memory = static_typed program made.0 (key_of d) (narrowed task.0 made.1) f.typed fits;
            frames = again program rooted next_starts stands_in_list f.heap frames (loadable_of f.heap made.0 f.is f.typed)
                (waiting_later program rooted next_starts stands_in_list frames (f.grows (length frames)) Again waits);
            verified = verified;
            main = main frames;
          })
