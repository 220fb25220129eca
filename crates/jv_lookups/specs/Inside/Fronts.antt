-- The part of a chain of superclasses that has to be looked at.
use Rattle.std.specs.Prelude.{◌≡◌, ℕ, ◌<◌, ◌≤◌, Bool, false, List, [], ◌∷◌, Some, length, take, drop, get_or, slice_get}
use Rattle.std.specs.List.{All}
use Rattle.jv_class.specs.Class.{EachIsNamed, Method}
use Rattle.jv_meaning_world.specs.World.{Loaded}
use Rattle.jv_meaning_world.specs.Overriding.{alike_in}
use Rattle.jv_lookups.specs.Inside.Overridden.{overrides_final}

-- each class has one method of a name and a descriptor at most
abbrev pub AreNamed : List Loaded → Type 0
AreNamed [] = Unit {0}
AreNamed (l ∷ classes) = EachIsNamed l.class × AreNamed classes

-- the superclasses from the direct one on, behind which none is marked
pub record IsUpToMarked (marks : List Bool) (chain front : List ℕ) : Type 0 where
  pub many : ℕ
  pub is : front ≡ take many chain
  pub none_behind : All (λ number. get_or marks number false ≡ false) (drop many chain)

-- the class with this number declares no final method that the method overrides, whatever classes are found
abbrev pub OverridesNoFinal : List Loaded → Method → ℕ → Type 0
OverridesNoFinal classes m number =
    (s : Loaded) (found : List Loaded) → slice_get classes number ≡ Some s → overrides_final found (alike_in s m) ≡ false

-- none of these superclasses is marked, from one place on and before another
abbrev pub AreUnmarked : List Bool → List ℕ → ℕ → ℕ → Type 0
AreUnmarked marks chain from end = (k : ℕ) → from ≤ k → k < end → get_or marks (get_or chain k 0) false ≡ false

-- the superclasses from the direct one on, behind which none declares a final method that the method overrides
pub record IsUpToFinal (classes : List Loaded) (m : Method) (chain front : List ℕ) : Type 0 where
  pub many : ℕ
  pub is : front ≡ take many chain
  pub none_behind : (k : ℕ) → many ≤ k → k < length chain → OverridesNoFinal classes m (get_or chain k 0)
