-- A name of no class.
use Rattle.std.proofs.Common.{◌≡◌, ℕ, List, None, sym, ap, ◌∙◌}
use Rattle.std.specs.Prelude.{slice_get}
use Rattle.jv_format.specs.Format.{◌>>=◌}
use Rattle.jv_meaning_world.specs.World.{World, class_named}
use Rattle.jv_meaning_world.specs.Numbers.{number_named}
use Rattle.jv_classes.proofs.Followed.{at_named}

pub not_named : (world : World) (name : List ℕ) → number_named world name ≡ None → class_named world name ≡ None
not_named world name e = sym (at_named world name) ∙ ap (λ n. n >>= slice_get world) e
