-- Which classes of a guest declare which methods that others can override, by keys (JVMS 4.6, 5.4.5).
use Rattle.std.specs.Prelude.{◌≡◌, ◌+◌, ◌*◌, List, length}
use Rattle.jv_meaning_world.specs.World.{Loaded}
use Rattle.jv_lookups.specs.declared.keys.FinalKeys.{FinalKeys}
use Rattle.jv_lookups.specs.Inside.Keys.{AreMarkedBelow, is_final_open, is_open}

-- two marks of each key for each class: the key of each final method that others can override is marked, and behind these marks that
-- of each public or protected one
pub record TellsFinals (classes : List Loaded) (keys : FinalKeys) : Type 0 where
  pub width : keys.marks.width ≡ 2 * length classes
  pub finals : AreMarkedBelow is_final_open keys.seed keys.marks classes (λ n. n) (length classes)
  pub opens : AreMarkedBelow is_open keys.seed keys.marks classes (λ n. length classes + n) (length classes)
