-- A guest's classes, loaded (JVMS 5.3).
use Rattle.std.specs.Prelude.{◌≡◌, ℕ, ◌+◌, ◌<◌, List, length, Option, Some, slice_get}
use Rattle.jv_class.specs.Class.{Class}
use Rattle.jv_meaning_world.specs.FileContent.{FileContent, AreContents}
use Rattle.jv_meaning_world.specs.Library.{IsLibrary, with_library}
use Rattle.jv_meaning_world.specs.declared.verdict.LoadVerdict.{LoadVerdict}
use Rattle.jv_meaning_world.specs.World.{World, world_of}
use Rattle.jv_meaning_world.specs.Verdicts.{load_verdict}

-- the classes that the guest can name; how many of them its host gives, which come first; and for each of the guest's files what is
-- wrong with it before its methods are looked at, nothing where these decide
pub record Loading : Type 0 where
  pub world : World
  pub host : ℕ
  pub verdicts : List (Option LoadVerdict)

-- what these files make behind a library: their classes behind those that a host gives, and the verdict on each
pub record AreLoaded (library files : List (List ℕ)) (loading : Loading) : Type 0 where
  pub given : List Class
  pub gives : IsLibrary library given
  pub contents : List FileContent
  pub read : AreContents files contents
  pub world : loading.world ≡ world_of (with_library given) contents
  pub host_is : loading.host ≡ length (with_library given).system + length (with_library given).front
  pub count : length loading.verdicts ≡ length files
  pub verdict :
      (place : ℕ) → place < length files → slice_get loading.verdicts place ≡ Some (load_verdict (with_library given) contents place)
