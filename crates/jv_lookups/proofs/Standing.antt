-- A member stands at its place.
use Rattle.std.proofs.Common.{◌≡◌, ℕ, ◌<◌, List, length, get_or, Some, ap, ◌∙◌, arith, [], ◌∷◌}
use Rattle.std.specs.Prelude.{slice_get}
use Rattle.std.specs.Option.{option_map}
use Rattle.std.proofs.lemmas.Option.{slice_get-get_or}
use Rattle.jv_format.specs.Format.{◌>>=◌}
use Rattle.jv_meaning_world.specs.World.{Loaded, World}
use Rattle.jv_meaning_world.specs.Overriding.{Declared}
use Rattle.jv_meaning_world.specs.Verdicts.{declared_by}
use Rattle.jv_meaning_world.specs.LookUps.{DeclaredField, field_by}
use Rattle.jv_meaning_world.specs.Numbers.{HoldsAtNumber}
use Rattle.jv_classes.proofs.Followed.{some_class}
use Rattle.jv_lookups.specs.declared.place.Place.{Place}
use Rattle.jv_lookups.specs.Places.{field_at, method_at, IsFieldPlace, IsMethodPlace}

some_item : {X : Type 0} → (xs : List X) (k : ℕ) → k < length xs → (x : X) × (slice_get xs k ≡ Some x)
some_item [] k h = absurd (omega (arith, h))
some_item (x ∷ xs) k h = (get_or (x ∷ xs) k x, slice_get-get_or (x ∷ xs) k x h)

stands : {X Y : Type 0} → (items : Loaded → List X) (by : Loaded → X → Y) (world : World) (k member : ℕ) → k < length world → HoldsAtNumber world k (λ l. member < length (items l))
    → (y : Y) × ((slice_get world k >>= (λ l. option_map (by l) (slice_get (items l) member))) ≡ Some y)
stands items by world k member h within =
    let class = some_class world k h in
    let item = some_item (items class.0) member (within class.0 class.1) in
    (by class.0 item.0, ap (λ o. o >>= (λ l. option_map (by l) (slice_get (items l) member))) class.1 ∙ ap (option_map (by class.0)) item.1)

pub field_stands : (world : World) (place : Place) → IsFieldPlace world place → (f : DeclaredField) × (field_at world place ≡ Some f)
field_stands world place is = stands (λ l. l.class.fields) field_by world place.class place.member is.class is.member

pub method_stands : (world : World) (place : Place) → IsMethodPlace world place → (d : Declared) × (method_at world place ≡ Some d)
method_stands world place is = stands (λ l. l.class.methods) declared_by world place.class place.member is.class is.member
