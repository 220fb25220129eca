-- A guest's classes, loaded.
use Rattle.std.proofs.Common.{◌≡◌, ℕ, ◌+◌, ◌<◌, suc, true, false, List, [], ◌∷◌, length, map, Option, Result, refl, sym, ap, ◌∙◌, subst, append-nil}
use Rattle.std.specs.Prelude.{slice_get}
use Rattle.std.specs.List.{All}
use Rattle.std.proofs.lemmas.List.{length-append, length-map}
use Rattle.jv_meaning_world.specs.FileContent.{FileContent, AreContents}
use Rattle.jv_class.specs.Class.{Class}
use Rattle.jv_meaning_world.specs.Library.{IsLibrary, system_with, with_library}
use Rattle.jv_meaning_world.specs.declared.verdict.LoadVerdict.{LoadVerdict}
use Rattle.jv_meaning_world.specs.World.{World, loaded, world_of}
use Rattle.jv_meaning_world.specs.Laws.Above.{SystemStandsAlone}
use Rattle.jv_loader.specs.Loading.{AreLoaded}
use Rattle.jv_loader.specs.Inside.System.{host_world}
use Rattle.jv_loader.specs.Inside.Files.{ArePut, with_files, entries_from, verdict_of_entry, IsPlace, IsOfFiles}
use Rattle.jv_loader.proofs.InSystem.{stands_alone}
use Rattle.jv_loader.proofs.Joining.{world_is, verdict_is, as_many, all_places}

module _ (library : List (List ℕ)) (given : List Class) (gives : IsLibrary library given) (files : List (List ℕ)) (before after : World)
    (entries : List (Result ℕ LoadVerdict)) (start : before ≡ host_world given) (put : ArePut files before after entries) where
  put_world : after ≡ with_files (host_world given) put.contents
  put_world = put.world ∙ ap (λ w. with_files w put.contents) start

  whole_world : after ≡ world_of (with_library given) put.contents
  whole_world = put_world ∙ world_is given put.contents

  whole_entries : entries ≡ entries_from (host_world given) put.contents
  whole_entries = put.entry ∙ ap (λ w. entries_from w put.contents) start

  pub of_files : IsOfFiles after
  of_files = (given, put.contents, whole_world)

  pub alone : SystemStandsAlone after
  alone = subst SystemStandsAlone (sym whole_world) (stands_alone given put.contents)

  pub places : All (IsPlace after) entries
  places = subst (λ es. All (IsPlace after) es) (sym whole_entries) (all_places given (host_world given) after put.contents (
    [],
    put_world ∙ sym (append-nil
        (with_files (host_world given) put.contents)),
  ))

  read_as_many : (bytes : List (List ℕ)) (contents : List FileContent) → AreContents bytes contents → length contents ≡ length bytes
  read_as_many [] [] h = refl
  read_as_many [] (f ∷ contents) h = absurd h
  read_as_many (b ∷ bytes) [] h = absurd h
  read_as_many (b ∷ bytes) (f ∷ contents) h = ap suc (read_as_many bytes contents h.1)

  given_many : length before ≡ length (with_library given).system + length (with_library given).front
  given_many =
      ap length start ∙ (length-append (map (loaded true) (system_with given)) (map (loaded false) (with_library given).front)
      ∙ (ap (λ n. n + length (map (loaded false) (with_library given).front)) (length-map (system_with given) (loaded true))
      ∙ ap (λ n. length (system_with given) + n) (length-map (with_library given).front (loaded false))))

  pub loaded_all : (host : ℕ) (verdicts : List (Option LoadVerdict)) → host ≡ length before → verdicts ≡ map (verdict_of_entry after) entries
      → AreLoaded library files (record { world = after; host = host; verdicts = verdicts })
  loaded_all host verdicts host_is e =
      let same = read_as_many files put.contents put.read in
      record {
        given = given;
        gives = gives;
        contents = put.contents;
        read = put.read;
        world = whole_world;
        host_is = host_is ∙ given_many;
        count = ap length e ∙ (length-map entries (verdict_of_entry after) ∙ (ap length whole_entries ∙ (as_many given (host_world given) put.contents ∙ same)));
        verdict = λ place less.
            ap (λ vs. slice_get vs place) (e ∙ (ap (map (verdict_of_entry after)) whole_entries ∙ ap (λ w. map (verdict_of_entry w) (entries_from (host_world given) put.contents)) whole_world))
            ∙ verdict_is given put.contents place (subst (λ n. place < n) (sym same) less);
      }
