-- Methods at places.
use Rattle.std.proofs.Common.{◌≡◌, ℕ, zero, suc, ◌<◌, List, [], ◌∷◌, Option, Some, None, length, refl, sym, ap, subst, ◌∙◌, slice_get}
use Rattle.std.specs.List.{Contains}
use Rattle.std.specs.Option.{option_map}
use Rattle.jv_format.specs.Format.{◌>>=◌}
use Rattle.jv_class.specs.Class.{Field, Method}
use Rattle.jv_meaning_world.specs.World.{Loaded, World}
use Rattle.jv_meaning_world.specs.Overriding.{Declared}
use Rattle.jv_meaning_world.specs.Verdicts.{declared_by}
use Rattle.jv_meaning_world.specs.LookUps.{DeclaredField, field_by}
use Rattle.jv_meaning_world.proofs.Up.{first, later}
use Rattle.jv_lookups.specs.declared.place.Place.{Place}
use Rattle.jv_lookups.specs.Places.{field_in, field_at, method_of, method_at, IsMethodPlace}
use Rattle.jv_meaning_typing.specs.MethodResolution.{MethodTarget, target}
use Rattle.jv_link.specs.declared.target.MethodTarget.{MethodTarget as TargetByNumber}
use Rattle.jv_link.specs.Seen.{method_target_at}
use Rattle.jv_link_cache.proofs.Eachwise.{within_list}

pub some_same : {A : Type 0} (x y : A) → Some x ≡ Some y → x ≡ y
some_same x y e = cc

pub record AtPlace (world : World) (place : Place) (d : Declared) : Type 0 where
  pub class : slice_get world place.class ≡ Some d.by
  pub member : slice_get d.by.class.methods place.member ≡ Some d.method

pub at_place : (world : World) (place : Place) (d : Declared) → method_at world place ≡ Some d → AtPlace world place d
at_place world place d e = by_class (slice_get world place.class) refl e
  where
    by_member :
        (l : Loaded) (o : Option Method) → slice_get world place.class ≡ Some l → slice_get l.class.methods place.member ≡ o
        → option_map (declared_by l) o ≡ Some d → AtPlace world place d
    by_member l None at there e = absurd cc
    by_member l (Some m) at there e =
        let same : declared_by l m ≡ d = some_same (declared_by l m) d e in
        record {
          class = at ∙ ap (λ (x : Declared). Some x.by) same;
          member = subst (λ (x : Declared). slice_get x.by.class.methods place.member ≡ Some x.method) same there;
        }

    by_class : (o : Option Loaded) → slice_get world place.class ≡ o → (o >>= method_of place.member) ≡ Some d → AtPlace world place d
    by_class None at e = absurd cc
    by_class (Some l) at e = by_member l (slice_get l.class.methods place.member) at refl e

pub is_place : (world : World) (place : Place) (d : Declared) → method_at world place ≡ Some d → IsMethodPlace world place
is_place world place d e =
    let p = at_place world place d e in
    record {
      class = within_list world place.class d.by p.class;
      member =
          λ l at.
          subst (λ (x : Loaded). place.member < length x.class.methods) (some_same d.by l (sym p.class ∙ at))
          (within_list d.by.class.methods place.member d.method p.member);
    }

-- the method of a target
pub target_place :
    (world : World) (called : TargetByNumber) (t : MethodTarget) → method_target_at world called ≡ Some t
    → method_at world called.declared ≡ Some t.declared
target_place world called t e = by_class (slice_get world called.named) e
  where
    by_method : (l : Loaded) (o : Option Declared) → option_map (target l) o ≡ Some t → o ≡ Some t.declared
    by_method l None e = absurd cc
    by_method l (Some d) e = ap (λ (x : MethodTarget). Some x.declared) (some_same (target l d) t e)

    by_class : (o : Option Loaded) → (o >>= λ l. option_map (target l) (method_at world called.declared)) ≡ Some t → method_at world called.declared ≡ Some t.declared
    by_class None e = absurd cc
    by_class (Some l) e = by_method l (method_at world called.declared) e

-- ---- fields

pub field_class : (world : World) (place : Place) (d : DeclaredField) → field_at world place ≡ Some d → slice_get world place.class ≡ Some d.by
field_class world place d e = by_class (slice_get world place.class) refl e
  where
    by_member : (l : Loaded) (o : Option Field) → slice_get world place.class ≡ Some l → option_map (field_by l) o ≡ Some d → slice_get world place.class ≡ Some d.by
    by_member l None at e = absurd cc
    by_member l (Some f) at e = at ∙ ap (λ (x : DeclaredField). Some x.by) (some_same (field_by l f) d e)

    by_class : (o : Option Loaded) → slice_get world place.class ≡ o → (o >>= field_in place.member) ≡ Some d → slice_get world place.class ≡ Some d.by
    by_class None at e = absurd cc
    by_class (Some l) at e = by_member l (slice_get l.class.fields place.member) at e

-- ---- what stands at a place is contained

pub stood : {A : Type 0} (xs : List A) (k : ℕ) (x : A) → slice_get xs k ≡ Some x → Contains xs x
stood [] k x e = absurd cc
stood (y ∷ xs) zero x e = subst (λ (z : _). Contains (y ∷ xs) z) (some_same y x e) (first y xs)
stood (y ∷ xs) (suc k) x e = later y xs x (stood xs k x e)

pub field_there : (world : World) (place : Place) (d : DeclaredField) → field_at world place ≡ Some d → Contains d.by.class.fields d.field
field_there world place d e = by_class (slice_get world place.class) e
  where
    by_member : (l : Loaded) (o : Option Field) → slice_get l.class.fields place.member ≡ o → option_map (field_by l) o ≡ Some d → Contains d.by.class.fields d.field
    by_member l None at e = absurd cc
    by_member l (Some f) at e =
        subst (λ (x : DeclaredField). Contains x.by.class.fields x.field) (some_same (field_by l f) d e) (stood l.class.fields place.member f at)

    by_class : (o : Option Loaded) → (o >>= field_in place.member) ≡ Some d → Contains d.by.class.fields d.field
    by_class None e = absurd cc
    by_class (Some l) e = by_member l (slice_get l.class.fields place.member) refl e
