-- No class that can be loaded is above itself (JVMS 5.3.5).
use Rattle.std.specs.Prelude.{◌≡◌, Some, codes, IsTrue, IsFalse}
use Rattle.std.specs.List.{Contains}
use Rattle.jv_meaning_world.specs.World.{Loaded, World, class_named}
use Rattle.jv_meaning_world.specs.Above.{above, is_circular}
use Rattle.jv_meaning_world.specs.Verdicts.{is_loadable}

-- neither the class nor one above it is above itself
pub record IsStraight (world : World) (l : Loaded) : Type 0 where
  pub itself : IsFalse (is_circular world l.class)
  pub above_it : (s : Loaded) → Contains (above world l.class) s → IsFalse (is_circular world s.class)

-- no loadable class is, and java/lang/Object is loadable
pub record AreStraight (world : World) : Type 0 where
  pub loadable : (l : Loaded) → Contains world l → IsTrue (is_loadable world l) → IsStraight world l
  pub object : (l : Loaded) → class_named world (codes "java/lang/Object") ≡ Some l → IsTrue (is_loadable world l)
