-- A library of no files has no classes.
use Rattle.std.proofs.Common.{◌≡◌, ℕ, ◌<◌, List, [], ◌∷◌, length, map, Some, refl, ap, ◌∙◌}
use Rattle.std.specs.Prelude.{slice_get}
use Rattle.jv_class.specs.Class.{Class}
use Rattle.jv_meaning_world.specs.FileContent.{AreContents}
use Rattle.jv_meaning_world.specs.declared.content.Content.TheVariants.{Holds}
use Rattle.jv_meaning_world.specs.Library.{IsLibrary, with_library}
use Rattle.jv_meaning_world.specs.Verdicts.{load_verdict}
use Rattle.jv_meaning_world.specs.World.{world_of}
use Rattle.jv_loader.specs.Loading.{Loading, AreLoaded}

none_held : (given : List Class) → AreContents [] (map Holds given) → given ≡ []
none_held [] h = refl
none_held (class ∷ given) h = absurd h

pub none_given : (given : List Class) → IsLibrary [] given → given ≡ []
none_given given is = none_held given is.held

-- what is loaded behind no library
module _ {files : List (List ℕ)} {loading : Loading} (are : AreLoaded [] files loading) where
  pub loaded_world : loading.world ≡ world_of (with_library []) are.contents
  loaded_world = are.world ∙ ap (λ (given : List Class). world_of (with_library given) are.contents) (none_given are.given are.gives)

  pub loaded_verdict : (place : ℕ) → place < length files → slice_get loading.verdicts place ≡ Some (load_verdict (with_library []) are.contents place)
  loaded_verdict place less =
      are.verdict place less ∙ ap (λ (given : List Class). Some (load_verdict (with_library given) are.contents place)) (none_given are.given are.gives)
