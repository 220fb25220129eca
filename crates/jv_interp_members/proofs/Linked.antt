-- What linking answers for a call, from what the classes' linking is known to answer.
use Rattle.std.proofs.Common.{◌≡◌, ℕ, Option, Some, None, Err, refl, sym, subst, slice_get}
use Rattle.std.specs.Option.{option_map}
use Rattle.jv_meaning_world.specs.World.{World}
use Rattle.jv_meaning_world.specs.Overriding.{Declared}
use Rattle.jv_meaning_world.specs.LookUps.{DeclaredField}
use Rattle.jv_lookups.specs.Places.{field_at, method_at}
use Rattle.jv_meaning_typing.specs.LinkErrors.{OrError, error_class}
use Rattle.jv_meaning_typing.specs.MethodResolution.{MethodTarget}
use Rattle.jv_link.specs.declared.error.LinkError.{LinkError}
use Rattle.jv_link.specs.declared.target.MethodTarget.{MethodTarget as TargetByNumber}
use Rattle.jv_link.specs.Seen.{answer, error_of, method_target_at}
use Rattle.jv_link_cache.specs.declared.field_use.FieldUse.{FieldUse}
use Rattle.jv_interp_words.specs.FramesInWords.{methods_of}
use Rattle.jv_interp_heap.specs.ObjectsInBlocks.{HasNumber}
use Rattle.jv_interp_heap.specs.SystemNumbers.{IsGuestsWorld, AreSystemNumbers, SystemHasNumbers}
use Rattle.jv_interp_members.specs.Resolved.{IsErrorOf, IsTargetOf, IsMethodOf, IsFieldOf}
use Rattle.jv_interp_members.proofs.Sites.{some_same, target_place}

pub target_answered :
    (world : World) (expected : OrError MethodTarget) (called : TargetByNumber)
    → option_map answer (method_target_at world called) ≡ Some expected → IsTargetOf world expected called
target_answered world expected called e = by_target (method_target_at world called) refl e
  where
    by_target :
        (o : Option MethodTarget) → method_target_at world called ≡ o → option_map answer o ≡ Some expected → IsTargetOf world expected called
    by_target None at e = absurd cc
    by_target (Some t) at e = record { target = t; is = sym (some_same (answer t) expected e); at = at }

pub method_answered :
    (world : World) (expected : OrError MethodTarget) (selected : TargetByNumber) (number : ℕ)
    → option_map answer (method_target_at world selected) ≡ Some expected
    → ((d : Declared) → method_at world selected.declared ≡ Some d → slice_get (methods_of world) number ≡ Some d) → IsMethodOf world expected number
method_answered world expected selected number e numbers =
    let t = target_answered world expected selected e in
    record { target = t.target; is = t.is; numbered = numbers t.target.declared (target_place world selected t.target t.at) }

pub field_answered :
    (world : World) (expected : OrError DeclaredField) (used : FieldUse) → option_map answer (field_at world used.place) ≡ Some expected
    → IsFieldOf world expected used
field_answered world expected used e = by_field (field_at world used.place) refl e
  where
    by_field :
        (o : Option DeclaredField) → field_at world used.place ≡ o → option_map answer o ≡ Some expected → IsFieldOf world expected used
    by_field None at e = absurd cc
    by_field (Some d) at e = record { d = d; is = sym (some_same (answer d) expected e); at = at }

pub error_answered :
    {A : Type 0} (world : World) (expected : OrError A) (error : LinkError) (number : ℕ) → Some (Err (error_of error)) ≡ Some expected
    → HasNumber world (error_class (error_of error)) number → IsErrorOf world expected number
error_answered {A = A} world expected error number e numbered =
    record { error = error_of error; is = sym (some_same (Err (error_of error)) expected e); numbered = numbered }

-- the class of an error that is known has its number
pub numbered :
    SystemHasNumbers → (error known : LinkError) → error ≡ known → (number : ℕ)
    → ((w : World) → AreSystemNumbers w → HasNumber w (error_class (error_of known)) number) → (world : World) → IsGuestsWorld world
    → HasNumber world (error_class (error_of error)) number
numbered law error known is number of_all world guests =
    subst (λ (e : LinkError). HasNumber world (error_class (error_of e)) number) (sym is)
    (of_all world (subst (λ (w : World). AreSystemNumbers w) (sym guests.world_is) (law guests.given guests.contents)))
