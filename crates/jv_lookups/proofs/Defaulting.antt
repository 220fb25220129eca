-- The superinterface methods that are not abstract, none, one or several.
use Rattle.std.proofs.Common.{◌≡◌, ℕ, List, filter, sym, ap, ◌∙◌, subst}
use Rattle.jv_meaning_world.specs.World.{Loaded, World}
use Rattle.jv_meaning_world.specs.LookUps.{maximally_specific, is_concrete, searched_from}
use Rattle.jv_meaning_world.specs.Numbers.{classes_at}
use Rattle.jv_lookups.specs.declared.defaults.Defaults.{Defaults}
use Rattle.jv_lookups.specs.Defaults.{defaults, AreDefaults, AreDefaultsFrom}
use Rattle.jv_lookups.specs.Inside.Members.{specifics_at, AreSpecifics}
use Rattle.jv_lookups.proofs.Candidates.{candidates_same, specific_same}

-- they are those that are found class by class
defaults_same : (world : World) (searched name descriptor : List ℕ) (l : Loaded) → classes_at world searched ≡ searched_from world l
    → defaults world l name descriptor ≡ specifics_at world searched name descriptor l
defaults_same world searched name descriptor l e =
    ap (λ all. filter is_concrete (maximally_specific world all)) (candidates_same world searched name descriptor l e) ∙ specific_same world searched name descriptor l

pub defaults_of_specifics : (world : World) (from : ℕ) (searched name descriptor : List ℕ) (found : Defaults) → AreSpecifics world from searched name descriptor found
    → AreDefaultsFrom world from searched name descriptor found
defaults_of_specifics world from searched name descriptor found are = λ l at e.
    subst (AreDefaults world found) (sym (defaults_same world searched name descriptor l e)) (are l at)
