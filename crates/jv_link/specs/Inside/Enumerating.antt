-- Superinterfaces that are given one behind the other (JVMS 5.5).
use Rattle.std.specs.Prelude.{List, filter, ◌≡◌, ℕ, ◌++◌, ◌∷◌, []}
use Rattle.std.specs.List.{filter_map}
use Rattle.jv_meaning_world.specs.World.{Loaded, World, class_named}
use Rattle.jv_meaning_world.specs.Above.{superclass_names}
use Rattle.jv_meaning_typing.specs.InitializationOrder.{declares_default, enumerated, given_within}
use Rattle.jv_meaning_world.specs.Numbers.{HoldsAtNumber, classes_at}

abbrev pub with_default : List Loaded → List Loaded
with_default ls = filter declares_default ls

abbrev pub superclass_first : World → Loaded → List Loaded
superclass_first world l = filter_map (class_named world) (superclass_names l.class.super_class)

-- ---- by numbers

-- the superinterfaces that an interface gives, itself among them, behind those that were given
abbrev pub GivesBehind : World → ℕ → ℕ → List ℕ → List ℕ → Type 0
GivesBehind world steps number old new =
    HoldsAtNumber world number (λ l. classes_at world new ≡ given_within world steps (classes_at world old) l)

abbrev pub AreEnumerated : World → ℕ → List ℕ → Type 0
AreEnumerated world class given = HoldsAtNumber world class (λ l. classes_at world given ≡ enumerated world l.class)

-- one interface, or those with these numbers, as far as they have a default method, are behind the classes that were there
abbrev pub OrdersOne : World → ℕ → List ℕ → List ℕ → Type 0
OrdersOne world interface old new =
    HoldsAtNumber world interface (λ l. classes_at world new ≡ classes_at world old ++ with_default (l ∷ []))

abbrev pub OrdersAll : World → List ℕ → List ℕ → List ℕ → Type 0
OrdersAll world interfaces old new = classes_at world new ≡ classes_at world old ++ with_default (classes_at world interfaces)

abbrev pub BeginsOrder : World → ℕ → List ℕ → Type 0
BeginsOrder world class order = HoldsAtNumber world class (λ l. classes_at world order ≡ superclass_first world l)
