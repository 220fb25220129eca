-- athrow (JVMS 6.5): what is thrown is null or a Throwable.
use Rattle.std.proofs.Common.{◌≡◌, ℕ, true, false, List, [], ◌∷◌, Some, refl, sym, ap, subst, ◌∙◌}
use Rattle.std.specs.Prelude.{⊤, slice_get, codes}
use Rattle.jv_stackmap.specs.Types.{FrameType}
use Rattle.jv_code.specs.declared.insn.Insn.TheVariants as insns
use Rattle.jv_meaning_world.specs.World.{Loaded, class_named}
use Rattle.jv_meaning_world.specs.Verdicts.{is_interface}
use Rattle.jv_meaning_world.proofs.Up.{has_name}
use Rattle.jv_meaning_world.specs.Laws.Order.{IsBelow}
use Rattle.jv_meaning_typing.specs.FrameChanges.{with_stack}
use Rattle.jv_meaning_typing.specs.Named.{class_components, throwable_type}
use Rattle.jv_meaning_machine.specs.Faults.Fault.{ReferenceFault}
use Rattle.jv_meaning_machine.specs.Values.{Value}
use Rattle.jv_meaning_machine.specs.Values.Value.{Null, Reference}
use Rattle.jv_meaning_machine.specs.Objects.{Object, is_instance_of}
use Rattle.jv_meaning_machine.specs.Effects.{null_pointer}
use Rattle.jv_meaning_machine.specs.Instructions.{throw_value}
use Rattle.jv_sound.specs.Values.{Fits, IsReferenceTo, object_type}
use Rattle.jv_sound.proofs.Logic.{then_holds, found_holds, tested_holds}
use Rattle.jv_sound.proofs.Pure.{one_ok}
use Rattle.jv_sound.proofs.Members.{below_is_one}
use Rattle.jv_sound.proofs.Ways.{Setting, IsSet, world_of, program_of, context_of, Does, Sound, raises_ok, throws_ok, by_table}

abbrev pub throwable_name : List ℕ
throwable_name = codes "java/lang/Throwable"

module _ (x : Setting) (h : IsSet x)
    -- java/lang/Throwable is a class
    (throwable : Loaded) (named : class_named (world_of x) throwable_name ≡ Some throwable) (plain : is_interface throwable ≡ false) where
  throws : (S : List FrameType) (s : List Value) (v : Value) → IsReferenceTo (world_of x) x.heap.objects throwable_type v
      → Does x insns.Throw (with_stack x.given S) (throw_value (context_of x insns.Throw) v)
  throws S s Null f = raises_ok x h insns.Throw (with_stack x.given S) null_pointer refl refl
  throws S s (Reference id) f =
      let name : throwable.class.name ≡ throwable_name = has_name (world_of x) throwable_name throwable named in
      let one : is_instance_of (world_of x) f.object (class_components throwable_name) ≡ true =
      subst (λ (n : List ℕ). is_instance_of (world_of x) f.object (class_components n) ≡ true) name
      (below_is_one (program_of x) h.rooted x.heap.objects f.object throwable (h.typed.objects.each id f.object f.there)
      (ap (class_named (world_of x)) name ∙ named) plain
      (subst (λ (n : List ℕ). IsBelow (world_of x) (object_type f.object)
      (Rattle.jv_meaning_typing.specs.Named.class_type n)) (sym name) f.below)) in
      then_holds (found_holds {P = λ o. o ≡ f.object} ReferenceFault (slice_get x.heap.objects id) f.object f.there refl) (λ o same_object.
      then_holds (tested_holds {P = λ (o : Object). ⊤} ReferenceFault (is_instance_of (world_of x) o (class_components throwable_name)) o
      (ap (λ (o : Object). is_instance_of (world_of x) o (class_components throwable_name)) same_object ∙ one) tt) (λ o _.
      throws_ok x h insns.Throw (with_stack x.given S) id f refl))
  throws S s _ f = absurd f

  pub throw_ok : Sound x insns.Throw
  throw_ok = by_table x h insns.Throw (throwable_type ∷ []) [] (tt, tt)
      (λ S values s f hs. then_holds (one_ok (Fits (world_of x) x.heap.objects) throwable_type values f) (λ v g. throws S s v g))
