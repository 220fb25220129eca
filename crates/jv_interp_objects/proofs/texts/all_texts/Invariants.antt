use Rattle.std.proofs.Common.{◌≡◌, ℕ, ◌<◌, Some, length, slice_get}
use Rattle.std.specs.Prelude.{IsSomeAnd}
use Rattle.jv_meaning_world.specs.World.{Loaded}
use Rattle.jv_interp_objects.specs.Texts.{AreDifferent, AreShort, AreTextsOf}
use Rattle.jv_interp_objects.proofs.texts.all_texts.Given as goal

abbrev pub invariant-loop-class : goal.invariant-loop-class
invariant-loop-class l =
    AreDifferent l.names × AreShort l.names × (length l.classes.items ≡ l.class)
    × ((class : ℕ) (m : Loaded) → class < l.class → slice_get l.table class ≡ Some m
    → IsSomeAnd (slice_get l.classes.items class) (AreTextsOf l.names m))
