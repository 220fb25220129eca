-- The class that declares a member stands at the class's number of the member's place.
use Rattle.std.proofs.Common.{◌≡◌, Option, Some, None, ap}
use Rattle.std.specs.Prelude.{slice_get}
use Rattle.std.specs.Option.{option_map}
use Rattle.jv_format.specs.Format.{◌>>=◌}
use Rattle.jv_class.specs.Class.{Field, Method}
use Rattle.jv_meaning_world.specs.World.{Loaded, World}
use Rattle.jv_meaning_world.specs.Overriding.{Declared}
use Rattle.jv_meaning_world.specs.Verdicts.{declared_by}
use Rattle.jv_meaning_world.specs.LookUps.{DeclaredField, field_by}
use Rattle.jv_lookups.specs.declared.place.Place.{Place}
use Rattle.jv_lookups.specs.Places.{field_in, field_at, method_of, method_at}

pub field_placed : (world : World) (place : Place) (d : DeclaredField) → field_at world place ≡ Some d → slice_get world place.class ≡ Some d.by
field_placed world place d e = by_class (slice_get world place.class) e
  where
    by_field : (l : Loaded) (o : Option Field) → option_map (field_by l) o ≡ Some d → Some l ≡ Some d.by
    by_field l None e = absurd cc
    by_field l (Some f) e = ap (λ o. option_map (λ (x : DeclaredField). x.by) o) e

    by_class : (o : Option Loaded) → (o >>= field_in place.member) ≡ Some d → o ≡ Some d.by
    by_class None e = absurd cc
    by_class (Some l) e = by_field l (slice_get l.class.fields place.member) e

pub method_placed : (world : World) (place : Place) (d : Declared) → method_at world place ≡ Some d → slice_get world place.class ≡ Some d.by
method_placed world place d e = by_class (slice_get world place.class) e
  where
    by_method : (l : Loaded) (o : Option Method) → option_map (declared_by l) o ≡ Some d → Some l ≡ Some d.by
    by_method l None e = absurd cc
    by_method l (Some m) e = ap (λ o. option_map (λ (x : Declared). x.by) o) e

    by_class : (o : Option Loaded) → (o >>= method_of place.member) ≡ Some d → o ≡ Some d.by
    by_class None e = absurd cc
    by_class (Some l) e = by_method l (slice_get l.class.methods place.member) e
