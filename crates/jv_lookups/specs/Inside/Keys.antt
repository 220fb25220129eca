-- Methods that others can override by their keys, and the classes that are marked for one key (JVMS 4.6, 5.4.5).
use Rattle.std.specs.Prelude.{◌≡◌, ℕ, ◌+◌, ◌*◌, ◌<◌, Bool, true, false, ◌&&◌, ◌||◌, List, [], ◌∷◌, length, get_or, nat_eq, Some, slice_get, if◌then◌else◌}
use Rattle.std.specs.List.{list_any}
use Rattle.jv_classes.specs.Texts.{Key, key_of}
use Rattle.jv_class.specs.Class.{Method}
use Rattle.jv_meaning_world.specs.World.{Loaded}
use Rattle.jv_meaning_world.specs.Overriding.{is_instance, alike_in}
use Rattle.jv_meaning_world.specs.Verdicts.{is_final_instance}
use Rattle.jv_classes.specs.Marks.{MarkedKeys, AreKept, is_marked}
use Rattle.jv_lookups.specs.Inside.Overridden.{overrides_final}
use Rattle.jv_lookups.specs.Inside.Steps.{is_overridden_if, flags_alike, is_alike_overridden_if}

-- a final instance method that is overridden by a method in a package that is found
abbrev pub is_final_open : Method → Bool
is_final_open m = is_final_instance m && is_overridden_if true m.access_flags

-- an instance method that is overridden whatever package is found: it is public or protected
abbrev pub is_open : Method → Bool
is_open m = is_instance m && is_overridden_if false m.access_flags

-- the method passes a test and has the key
abbrev pub has_key : (Method → Bool) → ℕ → Key → Method → Bool
has_key test seed key m = test m && nat_eq (key_of seed m.name m.descriptor) key

-- ---- marks

-- the keys of the methods among these that pass a test are marked in a column, and what was marked still is
pub record AreMarkedMore (test : Method → Bool) (seed : ℕ) (old : MarkedKeys) (column : ℕ) (methods : List Method) (new : MarkedKeys)
    : Type 0 where
  pub marked : (key : Key) → list_any (has_key test seed key) methods ≡ true → is_marked new key column ≡ true
  pub kept : AreKept old new

-- so are those of the methods of so many classes
abbrev pub AreMarkedBelow : (Method → Bool) → ℕ → MarkedKeys → List Loaded → (ℕ → ℕ) → ℕ → Type 0
AreMarkedBelow test seed marks classes column many =
    (n : ℕ) (s : Loaded) (key : Key) → n < many → slice_get classes n ≡ Some s → list_any (has_key test seed key) s.class.methods ≡ true
    → is_marked marks key (column n) ≡ true

-- ---- the row of one key

-- Two marks for each class: one without the first declares no final method that a method with this name and descriptor overrides,
-- and one without the second none that it overrides where its package is not found.
pub record TellsFinalsOf (classes : List Loaded) (row : List Bool) (m : Method) : Type 0 where
  pub size : length row ≡ 2 * length classes
  pub none : (place : ℕ) (s : Loaded) (found : List Loaded) → slice_get classes place ≡ Some s → get_or row place false ≡ false
      → overrides_final found (alike_in s m) ≡ false
  pub closed : (place : ℕ) (s : Loaded) → slice_get classes place ≡ Some s → get_or row (length classes + place) false ≡ false
      → is_alike_overridden_if false (flags_alike s m) ≡ false

-- one of these classes is marked, and in the package with a number
abbrev pub is_wanted : List ℕ → List Bool → List ℕ → ℕ → Bool
is_wanted packages row chain number = list_any (λ n. get_or row n false && nat_eq (get_or packages n 0) number) chain

-- a class, one of so many, is marked for a final method, or for a public or protected one
abbrev pub is_any_marked : List Bool → ℕ → ℕ → Bool
is_any_marked row many place = get_or row place false || get_or row (many + place) false

-- a class that is marked is asked for where it, or one behind it, is marked for a final method and in its package
abbrev pub AreAsked : List ℕ → List Bool → ℕ → List Bool → List ℕ → Type 0
AreAsked packages row many asked [] = Unit {0}
AreAsked packages row many asked (n ∷ chain) =
    (is_any_marked row many n ≡ true → is_wanted packages row (n ∷ chain) (get_or packages n 0) ≡ true → get_or asked n false ≡ true)
    × AreAsked packages row many asked chain

-- a class has to be looked at: it is asked for, and its package is found and it may declare a final method, or its package is not
-- found and it may declare a public or protected one
abbrev pub is_looked_at : List Bool → List Bool → List Bool → ℕ → ℕ → ℕ → Bool
is_looked_at row asked marks many number place =
    get_or asked place false && get_or row (if get_or marks number false then place else many + place) false
