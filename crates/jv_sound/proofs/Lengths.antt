-- arraylength, and athrow of null or a Throwable.
use Rattle.std.proofs.Common.{◌≡◌, ℕ, pos, List, [], ◌∷◌, length, Some, refl}
use Rattle.std.specs.Prelude.{slice_get}
use Rattle.std.specs.Option.{option_map}
use Rattle.jv_text.specs.declared.descriptor.FieldTypeOf.{FieldTypeOf}
use Rattle.jv_stackmap.specs.declared.verification.VerificationTypeOf.TheVariants as types
use Rattle.jv_stackmap.specs.Types.{FrameType}
use Rattle.jv_code.specs.declared.insn.Insn.TheVariants as insns
use Rattle.jv_meaning_world.specs.Laws.Order.{IsBelow}
use Rattle.jv_meaning_typing.specs.FrameChanges.{with_stack}
use Rattle.jv_meaning_typing.specs.ValueRules as value_rules
use Rattle.jv_meaning_machine.specs.Faults.{◌>>=◌}
use Rattle.jv_meaning_machine.specs.Values.{Value}
use Rattle.jv_meaning_machine.specs.Values.Value.{Int, Null, Reference}
use Rattle.jv_meaning_machine.specs.Objects.{Object}
use Rattle.jv_meaning_machine.specs.Objects.Object.{InstanceOf, ArrayWith}
use Rattle.jv_meaning_machine.specs.Arrays.{length_of}
use Rattle.jv_meaning_machine.specs.Effects.{null_pointer}
use Rattle.jv_sound.specs.Values.{object_type, HasStack}
use Rattle.jv_sound.proofs.Logic.{clash}
use Rattle.jv_sound.proofs.Pure.{agrees_from}
use Rattle.jv_sound.proofs.Ways.{Setting, IsSet, world_of, here, context_of, Does, By, Sound, goes_ok, raises_ok}

module _ (x : Setting) (h : IsSet x) where
  null_counted : (S : List FrameType) (s : List Value) → Does x insns.ArrayLength (with_stack x.given (types.Int ∷ S))
      (length_of (context_of x insns.ArrayLength) Null s)
  null_counted S s = raises_ok x h insns.ArrayLength _ null_pointer refl refl

  array_counted : (c : FieldTypeOf (List ℕ)) (S : List FrameType) (s : List Value) (id : ℕ) (o : Object)
      → slice_get x.heap.objects id ≡ Some o → IsBelow (world_of x) (object_type o) (types.Array c) → HasStack (here x) S s
      → Does x insns.ArrayLength (with_stack x.given (types.Int ∷ S)) (length_of (context_of x insns.ArrayLength) (Reference id) s)
  array_counted c S s id (InstanceOf i) e b hs = absurd (clash b)
  array_counted c S s id (ArrayWith components values) e b hs =
      rw e (goes_ok x h insns.ArrayLength (types.Int ∷ S) (Int (pos (length values)) ∷ s) refl (record { fits = tt; width = refl }, hs))

  pub array_length_ok : Sound x insns.ArrayLength
  array_length_ok = by_stack x.given.stack x.frame.stack h.holding.stack
    where
      by_stack : (S : List FrameType) (s : List Value) → HasStack (here x) S s
          → By x insns.ArrayLength (option_map (with_stack x.given) (value_rules.array_length S))
          (Rattle.jv_meaning_machine.specs.Operands.taken_reference x.heap.objects s >>= λ top. length_of
          (context_of x insns.ArrayLength) top.0 top.1)
      by_stack [] [] hs = record { by = tt }
      by_stack (types.Null ∷ S) (Null ∷ s) hs = agrees_from (null_counted S s)
      by_stack (types.Null ∷ S) (v ∷ s) hs = absurd (let k : v ≡ Null = hs.0.fits in cc)
      by_stack (types.Array c ∷ S) (Null ∷ s) hs = agrees_from (null_counted S s)
      by_stack (types.Array c ∷ S) (Reference id ∷ s) hs =
          let f = hs.0.fits in
          rw (f.there, f.constructed) (agrees_from (array_counted c S s id f.object f.there f.below hs.1))
      by_stack (types.Array c ∷ S) (_ ∷ s) hs = absurd hs.0.fits
      by_stack (_ ∷ S) (v ∷ s) hs = record { by = tt }
      by_stack _ _ hs = absurd hs
