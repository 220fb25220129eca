-- The rule of JVMS 5.4.5 in its own words, for instance methods of one name and descriptor along a chain of classes, and a law
-- that `overriding` finds those that override by it.
use Rattle.std.specs.Prelude.{◌≡◌, IsTrue, List, [], ◌∷◌, ◌++◌, Some, None}
use Rattle.jv_class.specs.Class.{Method}
use Rattle.jv_meaning_world.specs.World.{Loaded}
use Rattle.jv_meaning_world.specs.Overriding.{Declared, overrides_itself, alike_in, overriding}

-- A method overrides one of a class above its own, with these classes between the two, the highest first: it is not private,
-- and the other is public or protected, or package-private in the same run-time package; or a third method between them
-- overrides the other, and is overridden by it.
pub data Overrides (m : Method) : Declared → List Loaded → Declared → Type 0 where
  by_itself : (e d : Declared) (between : List Loaded) → IsTrue (overrides_itself d e) → Overrides m e between d
  by_third : (e third d : Declared) (higher lower : List Loaded) (l : Loaded) → alike_in l m ≡ Some third
      → Overrides m e higher third → Overrides m third lower d → Overrides m e (higher ++ l ∷ lower) d

-- the next class down: its method joins those found where it overrides by the rule
pub record IsNextFound (e : Declared) (m : Method) (between : List Loaded) (l : Loaded) : Type 0 where
  pub none : alike_in l m ≡ None → overriding (e ∷ []) m (between ++ l ∷ []) ≡ overriding (e ∷ []) m between
  pub joins : (d : Declared) → alike_in l m ≡ Some d → Overrides m e between d
      → overriding (e ∷ []) m (between ++ l ∷ []) ≡ overriding (e ∷ []) m between ++ d ∷ []
  pub stays_out : (d : Declared) → alike_in l m ≡ Some d → ¬ (Overrides m e between d)
      → overriding (e ∷ []) m (between ++ l ∷ []) ≡ overriding (e ∷ []) m between

-- A law: a method overrides itself, and the others that are found are those that override it by the rule.
pub record OverridingIsByRule : Type 0 where
  pub itself : (e : Declared) (m : Method) → overriding (e ∷ []) m [] ≡ e ∷ []
  pub others : (e : Declared) (m : Method) (between : List Loaded) (l : Loaded) → IsNextFound e m between l
