-- Files that join the system's classes one by one, and what the definitions say of all of them.
use Rattle.std.proofs.Common.{◌≡◌, ℕ, zero, suc, ◌<◌, Bool, true, false, cond, ◌||◌, ◌&&◌, List, [], ◌∷◌, ◌++◌, length, map, take, Option, Some, None, Ok, Err, refl, sym, ap, ◌∙◌, subst, append_assoc, append-nil, arith}
use Rattle.std.specs.Prelude.{IsTrue, is_some, slice_get}
use Rattle.std.specs.Option.{option_and_then}
use Rattle.std.specs.List.{All, list_any}
use Rattle.std.specs.Str.{bytes_eq}
use Rattle.std.proofs.lemmas.Bool.{and_parts}
use Rattle.std.proofs.lemmas.List.{map-append, length-append}
use Rattle.std.proofs.lemmas.List.Folds.{list_any-append}
use Rattle.std.proofs.lemmas.List.Elements.{All-cons}
use Rattle.std.proofs.lemmas.Option.{slice_get-get_or}
use Rattle.jv_class.specs.Class.{Class}
use Rattle.jv_meaning_world.specs.FileContent.{FileContent}
use Rattle.jv_meaning_world.specs.declared.content.Content.TheVariants.{OtherVersion, NoClassFile, MoreThanProfile, Holds}
use Rattle.jv_meaning_world.specs.Library.{system_with, with_library}
use Rattle.jv_meaning_world.specs.declared.verdict.LoadVerdict.TheVariants.{Reserved, Duplicate}
use Rattle.jv_meaning_world.specs.World.{HostClasses, Loaded, World, loaded, is_reserved, has_class, with_class_of, joined_all, classes_in, world_of}
use Rattle.jv_meaning_world.specs.Verdicts.{verdict_of_class, verdict_behind, load_verdict}
use Rattle.jv_meaning_world.specs.Numbers.{number_named}
use Rattle.jv_meaning_world.proofs.Up.{same_name}
use Rattle.jv_loader.specs.Inside.System.{host_world}
use Rattle.jv_loader.specs.Inside.Files.{with_file, with_files, entry_of, entries_from, verdict_of_entry, IsPlace}
use Rattle.jv_loader.proofs.InSystem.{any_named, is_found}

-- ---- a name is taken

all_reserved : List Class → Bool
all_reserved [] = true
all_reserved (c ∷ classes) = is_reserved c.name && all_reserved classes

not_reserved : (classes : List Class) (name : List ℕ) → IsTrue (all_reserved classes) → is_reserved name ≡ false → has_class classes name ≡ false
unfolding all_reserved
not_reserved [] name h e = refl
not_reserved (c ∷ classes) name h e =
    let parts = and_parts (is_reserved c.name) (all_reserved classes) h in
    by_test (bytes_eq c.name name) refl parts.0 (not_reserved classes name parts.1 e)
  where
    unlike : true ≡ false → ⊥
    unlike f = cc

    by_test : (b : Bool) → bytes_eq c.name name ≡ b → IsTrue (is_reserved c.name) → has_class classes name ≡ false → (b || has_class classes name) ≡ false
    by_test true t r again = absurd (unlike (sym r ∙ (ap is_reserved (same_name c.name name t) ∙ e)))
    by_test false t r again = again

system_reserved : (library : List Class) → IsTrue (all_reserved (system_with library))
unfolding all_reserved
system_reserved [] = refl
system_reserved (first ∷ more) = refl

module _ (given : List Class) where
  -- what a host with this library gives
  abbrev host : HostClasses
  host = with_library given

  guests : List Class → World
  guests classes = map (loaded true) (system_with given) ++ map (loaded false) classes

  taken : (classes : List Class) (name : List ℕ) → is_reserved name ≡ false → is_some (number_named (guests classes) name) ≡ has_class classes name
  unfolding guests all_reserved
  taken classes name e =
      is_found (λ l. bytes_eq l.class.name name) (map (loaded true) (system_with given) ++ map (loaded false) classes)
      ∙ (list_any-append (λ l. bytes_eq l.class.name name) (map (loaded true) (system_with given)) (map (loaded false) classes)
      ∙ (ap (λ b. b || list_any (λ (l : Loaded). bytes_eq l.class.name name) (map (loaded false) classes))
      (any_named true (system_with given) name ∙ not_reserved (system_with given) name (system_reserved given) e)
      ∙ any_named false classes name))

  -- ---- a file more

  more_guests : (classes : List Class) (class : Class) → guests classes ++ loaded false class ∷ [] ≡ guests (classes ++ class ∷ [])
  unfolding guests
  more_guests classes class =
      append_assoc (map (loaded true) (system_with given)) (map (loaded false) classes) (loaded false class ∷ [])
      ∙ ap (λ ls. map (loaded true) (system_with given) ++ ls) (sym (map-append (loaded false) classes (class ∷ [])))

  file_joins : (classes : List Class) (file : FileContent) → with_file (guests classes) file ≡ guests (with_class_of classes file)
  file_joins classes OtherVersion = refl
  file_joins classes NoClassFile = refl
  file_joins classes MoreThanProfile = refl
  file_joins classes (Holds class) = by_reserved (is_reserved class.name) refl
    where
      by_taken : (b : Bool) → cond b (guests classes) (guests classes ++ loaded false class ∷ []) ≡ guests (cond b classes (classes ++ class ∷ []))
      by_taken true = refl
      by_taken false = more_guests classes class

      by_reserved : (r : Bool) → is_reserved class.name ≡ r
          → cond (r || is_some (number_named (guests classes) class.name)) (guests classes) (guests classes ++ loaded false class ∷ []) ≡
          guests (cond (r || has_class classes class.name) classes (classes ++ class ∷ []))
      by_reserved true e = refl
      by_reserved false e = ap (λ b. cond b (guests classes) (guests classes ++ loaded false class ∷ [])) (taken classes class.name e) ∙ by_taken (has_class classes class.name)

  files_join : (classes : List Class) (files : List FileContent) → with_files (guests classes) files ≡ guests (joined_all classes files)
  files_join classes [] = refl
  files_join classes (file ∷ files) = ap (λ w. with_files w files) (file_joins classes file) ∙ files_join (with_class_of classes file) files

  pub world_is : (files : List FileContent) → with_files (host_world given) files ≡ world_of host files
  unfolding guests
  world_is files = files_join host.front files

  -- ---- a world only grows

  abbrev Grows : World → World → Type 0
  Grows before after = (more : List Loaded) × (after ≡ before ++ more)

  stays : (world : World) → Grows world world
  stays world = ([], sym (append-nil world))

  grows_on : (a b c : World) → Grows a b → Grows b c → Grows a c
  grows_on a b c h k = (h.0 ++ k.0, k.1 ∙ (ap (λ w. w ++ k.0) h.1 ∙ append_assoc a h.0 k.0))

  file_grows : (world : World) (file : FileContent) → Grows world (with_file world file)
  file_grows world OtherVersion = stays world
  file_grows world NoClassFile = stays world
  file_grows world MoreThanProfile = stays world
  file_grows world (Holds class) = by_test (is_reserved class.name || is_some (number_named world class.name))
    where
      by_test : (b : Bool) → Grows world (cond b world (world ++ loaded false class ∷ []))
      by_test true = stays world
      by_test false = (loaded false class ∷ [], refl)

  files_grow : (world : World) (files : List FileContent) → Grows world (with_files world files)
  files_grow world [] = stays world
  files_grow world (file ∷ files) = grows_on world (with_file world file) (with_files (with_file world file) files) (file_grows world file) (files_grow (with_file world file) files)

  at_end : (world : World) (l : Loaded) (more : List Loaded) → slice_get ((world ++ l ∷ []) ++ more) (length world) ≡ Some l
  at_end [] l more = refl
  at_end (x ∷ world) l more = at_end world l more

  -- ---- the verdict on a file, by its entry

  one_verdict : (earlier : List FileContent) (file : FileContent) (all : World) → Grows (with_file (guests (classes_in host earlier)) file) all
      → verdict_of_entry all (entry_of (guests (classes_in host earlier)) file) ≡ verdict_behind host earlier all file
  one_verdict earlier OtherVersion all grows = refl
  one_verdict earlier NoClassFile all grows = refl
  one_verdict earlier MoreThanProfile all grows = refl
  one_verdict earlier (Holds class) all grows = by_reserved (is_reserved class.name) refl grows
    where
      now : World
      now = guests (classes_in host earlier)

      by_taken : (b : Bool) → Grows (cond b (guests (classes_in host earlier)) (guests (classes_in host earlier) ++ loaded false class ∷ [])) all
          → verdict_of_entry all (cond b (Err Duplicate) (Ok (length (guests (classes_in host earlier))))) ≡ cond b (Some Duplicate) (verdict_of_class all (loaded false class))
      by_taken true grows = refl
      by_taken false grows =
          ap (option_and_then (verdict_of_class all)) (ap (λ w. slice_get w (length (guests (classes_in host earlier)))) grows.1
          ∙ at_end (guests (classes_in host earlier)) (loaded false class) grows.0)

      by_reserved : (r : Bool) → is_reserved class.name ≡ r →
          Grows (cond (r || is_some (number_named (guests (classes_in host earlier)) class.name)) (guests (classes_in host earlier))
          (guests (classes_in host earlier) ++ loaded false class ∷ [])) all
          → verdict_of_entry all (cond r (Err Reserved) (cond (is_some (number_named (guests (classes_in host earlier)) class.name)) (Err Duplicate) (Ok (length (guests (classes_in host earlier))))))
          ≡ cond r (Some Reserved) (cond (has_class (classes_in host earlier) class.name) (Some Duplicate) (verdict_of_class all (loaded false class)))
      by_reserved true e grows = refl
      by_reserved false e grows =
          let same = taken (classes_in host earlier) class.name e in
          ap (λ b. verdict_of_entry all (cond b (Err Duplicate) (Ok (length (guests (classes_in host earlier)))))) same
          ∙ by_taken (has_class (classes_in host earlier) class.name)
          (subst (λ b. Grows (cond b (guests (classes_in host earlier)) (guests (classes_in host earlier) ++ loaded false class ∷ [])) all) same grows)

  one_more : (classes : List Class) (earlier : List FileContent) (file : FileContent) → joined_all classes (earlier ++ file ∷ []) ≡ with_class_of (joined_all classes earlier) file
  one_more classes [] file = refl
  one_more classes (f ∷ earlier) file = one_more (with_class_of classes f) earlier file

  next_guests : (earlier : List FileContent) (file : FileContent) → with_file (guests (classes_in host earlier)) file ≡ guests (classes_in host (earlier ++ file ∷ []))
  next_guests earlier file = file_joins (classes_in host earlier) file ∙ ap guests (sym (one_more host.front earlier file))

  verdict_from : (all : World) (earlier files : List FileContent) (k : ℕ) (file : FileContent)
      → Grows (with_files (guests (classes_in host earlier)) files) all → slice_get files k ≡ Some file
      → slice_get (map (verdict_of_entry all) (entries_from (guests (classes_in host earlier)) files)) k ≡ Some (verdict_behind host (earlier ++ take k files) all file)
  verdict_from all earlier [] k file grows e = absurd (past k e)
    where
      past : (j : ℕ) → slice_get [] j ≡ Some file → ⊥
      past zero e = absurd cc
      past (suc j) e = absurd cc
  verdict_from all earlier (f ∷ files) zero file grows e =
      let now = with_file (guests (classes_in host earlier)) f in
      ap (λ v. Some v) (one_verdict earlier f all (grows_on now (with_files now files) all (files_grow now files) grows)
      ∙ (ap (verdict_behind host earlier all) (same e) ∙ ap (λ es. verdict_behind host es all file) (sym (append-nil earlier))))
    where
      same : Some f ≡ Some file → f ≡ file
      same e = cc
  verdict_from all earlier (f ∷ files) (suc k) file grows e =
      let next = next_guests earlier f in
      ap (λ w. slice_get (map (verdict_of_entry all) (entries_from w files)) k) next
      ∙ (verdict_from all (earlier ++ f ∷ []) files k file (subst (λ w. Grows (with_files w files) all) next grows) e
      ∙ ap (λ es. Some (verdict_behind host es all file)) (append_assoc earlier (f ∷ []) (take k files)))

  pub verdict_is : (files : List FileContent) (k : ℕ) → k < length files
      → slice_get (map (verdict_of_entry (world_of host files)) (entries_from (host_world given) files)) k ≡ Some (load_verdict host files k)
  unfolding guests
  verdict_is files k h = by_file (slice_get files k) refl
    where
      all : World
      all = world_of host files

      clash : {x : FileContent} → Some x ≡ None → ⊥
      clash f = cc

      there : (fs : List FileContent) (j : ℕ) → j < length fs → slice_get fs j ≡ None → ⊥
      there [] j less e = absurd (omega (arith, less))
      there (x ∷ fs) j less e = clash (sym (slice_get-get_or (x ∷ fs) j x less) ∙ e)

      by_file : (o : Option FileContent) → slice_get files k ≡ o →
          slice_get (map (verdict_of_entry (world_of host files)) (entries_from (host_world given) files)) k ≡
          Some (load_verdict host files k)
      by_file None e = absurd (there files k h e)
      by_file (Some file) e =
          verdict_from (world_of host files) [] files k file
          ([], sym (append-nil (with_files (host_world given) files) ∙ world_is files)) e
          ∙ ap (λ v. Some v) (sym (behind e))
        where
          behind : slice_get files k ≡ Some file → load_verdict host files k ≡ verdict_behind host (take k files) (world_of host files) file
          behind e = rw e refl

  -- ---- lengths

  pub as_many : (world : World) (files : List FileContent) → length (entries_from world files) ≡ length files
  as_many world [] = refl
  as_many world (file ∷ files) = ap suc (as_many (with_file world file) files)

  one_place : (world all : World) (file : FileContent) → Grows (with_file world file) all → IsPlace all (entry_of world file)
  one_place world all OtherVersion grows = tt
  one_place world all NoClassFile grows = tt
  one_place world all MoreThanProfile grows = tt
  one_place world all (Holds class) grows = by_reserved (is_reserved class.name) (is_some (number_named world class.name)) grows
    where
      by_reserved : (r b : Bool) → Grows (cond (r || b) world (world ++ loaded false class ∷ [])) all → IsPlace all (cond r (Err Reserved) (cond b (Err Duplicate) (Ok (length world))))
      by_reserved true b grows = tt
      by_reserved false true grows = tt
      by_reserved false false grows =
          let one = length-append world (loaded false class ∷ []) in
          let more = length-append (world ++ loaded false class ∷ []) grows.0 in
          let size = ap length grows.1 in
          omega (arith, one, more, size)

  pub all_places : (world all : World) (files : List FileContent) → Grows (with_files world files) all → All (IsPlace all) (entries_from world files)
  all_places world all [] grows k d h = absurd (omega (arith, h))
  all_places world all (file ∷ files) grows k d h =
      let now = with_file world file in
      All-cons (IsPlace all) (entry_of world file) (entries_from now files)
      (one_place world all file (grows_on now (with_files now files) all (files_grow now files) grows)) (all_places now all files grows) k d h

  pub grown : (world : World) → Grows world world
  grown world = stays world
