-- The method of a reference, by its parts.
use Rattle.std.proofs.Common.{◌≡◌, Option, Some, None, refl, sym, subst}
use Rattle.jv_text.specs.Descriptor.{MethodDescriptor}
use Rattle.jv_text.specs.Types.{method_type_of}
use Rattle.jv_pool.specs.Constants.{MemberReference}
use Rattle.jv_stackmap.specs.Types.{FrameType, reference_type}
use Rattle.jv_operands.specs.declared.named.MethodNamed.{MethodNamed}
use Rattle.jv_operands.specs.Inside.Named.{FindsMethod, HasParts, MethodShown, method_in, shown}

pub found : (reference : MemberReference) (owner : FrameType) (d : MethodDescriptor) (named : MethodNamed) → reference_type reference.class ≡ Some owner
    → method_type_of reference.descriptor ≡ Some d → HasParts (shown reference.name owner d.parameters) named → FindsMethod (method_in reference) (Some named)
found reference owner d named one other parts =
    subst (λ (o : Option MethodShown). FindsMethod o (Some named)) (sym (whole reference owner d one other)) parts
  where
    whole : (reference : MemberReference) (owner : FrameType) (d : MethodDescriptor) → reference_type reference.class ≡ Some owner
        → method_type_of reference.descriptor ≡ Some d → method_in reference ≡ Some (shown reference.name owner d.parameters)
    whole reference owner d one other = rw (one, other) refl

pub missing : (reference : MemberReference) (owner : FrameType) → reference_type reference.class ≡ Some owner → method_type_of reference.descriptor ≡ None
    → FindsMethod (method_in reference) None
missing reference owner one other = subst (λ (o : Option MethodShown). FindsMethod o None) (sym whole) tt
  where
    whole : method_in reference ≡ None
    whole = rw (one, other) refl

pub none_of : {A : Type 0} (o : Option A) → ((x : A) → o ≡ Some x → ⊥) → o ≡ None
none_of None h = refl
none_of (Some x) h = absurd (h x refl)
