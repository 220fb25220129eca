-- The classes that a host gives, file by file.
use Rattle.std.proofs.Common.{◌≡◌, ℕ, zero, suc, ◌+◌, ◌<◌, ◌≤◌, Bool, true, false, ◌||◌, Result, Ok, Err, List, [], ◌∷◌, ◌++◌, length, map, ◌-◌, take, drop, get_or, Option, None, Some, refl, sym, ap, ◌∙◌, subst, append_assoc, append-nil, add-zero, arith}
use Rattle.std.specs.Prelude.{IfOk, IsTrue, min, replicate, slice_get}
use Rattle.std.specs.Borrow.{Bor}
use Rattle.std.specs.List.{list_any}
use Rattle.std.specs.Option.{option_map}
use Rattle.std.specs.Str.{bytes_eq}
use Rattle.std.proofs.Math.Seq.{get_or-append_seam}
use Rattle.std.proofs.lemmas.List.{length-append, length-map, length-take-le, map-append, take_all, take_more as take_next, take_rest}
use Rattle.std.proofs.lemmas.List.Folds.{list_any-append}
use Rattle.std.proofs.lemmas.Option.{slice_get-get_or, slice_get-map}
use Rattle.jv_class.specs.Class.{Class}
use Rattle.jv_classes.proofs.Numbers.{take_more}
use Rattle.jv_classes.specs.Inside.KeptNames.{text_of, texts_of}
use Rattle.jv_meaning_world.specs.FileContent.{FileContent, IsContent, AreContents}
use Rattle.jv_meaning_world.specs.Library.{front_of, system_with, with_class_more, with_library}
use Rattle.jv_meaning_world.specs.Numbers.{number_named}
use Rattle.jv_meaning_world.specs.System.Classes.{classes_with_files, system_bytes, system_contents}
use Rattle.jv_meaning_world.specs.System.Io.{io}
use Rattle.jv_meaning_world.specs.World.{Loaded, World, has_class, loaded}
use Rattle.jv_meaning_world.specs.declared.content.Content.TheVariants.{Holds}
use Rattle.jv_meaning_world.proofs.Libraries.{no_library_is_one}
use Rattle.jv_loader.specs.Inside.Library.{AreHostFiles, IsHost, Joins, file_of, files_from, lent_classes}
use Rattle.jv_loader.specs.Inside.System.{host_world}
use Rattle.jv_loader.proofs.InSystem.{any_named, content_at, is_unlike, no_position, unlike_from}

pub if_ok : {A E : Type 0} (P Q : A → Type 0) → ((a : A) → P a → Q a) → (r : Result A E) → IfOk r P → IfOk r Q
if_ok P Q on (Ok a) h = on a h
if_ok P Q on (Err e) h = h

-- ---- the files of the system's classes

files_more : (own library : List (List ℕ)) (k : ℕ) (lenders : List (Option ℕ)) (lender : Option ℕ)
    → files_from own library k (lenders ++ lender ∷ []) ≡ files_from own library k lenders ++ file_of own library (k + length lenders) lender ∷ []
files_more own library k [] lender = ap (λ n. file_of own library n lender ∷ []) (sym (add-zero k))
files_more own library k (x ∷ lenders) lender =
    let same : (k + 1) + length lenders ≡ k + suc (length lenders) = omega arith in
    ap (λ fs. file_of own library k x ∷ fs)
    (files_more own library (k + 1) lenders lender ∙ ap (λ n. files_from own library (k + 1) lenders ++ file_of own library n lender ∷ []) same)

pub lent_next : (own library : List (List ℕ)) (lenders : List (Option ℕ)) (place : ℕ) (d : Option ℕ) (files more : List (Bor (List ℕ))) (file : Bor (List ℕ))
    → place < length lenders → texts_of files ≡ files_from own library 0 (take place lenders) → file.now ≡ file_of own library place (get_or lenders place d)
    → more ≡ files ++ file ∷ [] → texts_of more ≡ files_from own library 0 (take (place + 1) lenders)
lent_next own library lenders place d files more file less before is e =
    let here : 0 + length (take place lenders) ≡ place = omega (arith, length-take-le place lenders (omega (arith, less))) in
    ap texts_of e ∙ (map-append text_of files (file ∷ []) ∙ (ap (λ ts. ts ++ file.now ∷ []) before
    ∙ (ap (λ b. files_from own library 0 (take place lenders) ++ b ∷ []) (is ∙ ap (λ n. file_of own library n (get_or lenders place d)) (sym here))
    ∙ sym (ap (files_from own library 0) (take_next lenders place d less) ∙ files_more own library 0 (take place lenders) (get_or lenders place d)))))

-- ---- files that are known to hold classes

pub held_at : (bytes : List (List ℕ)) (classes : List Class) (k : ℕ) (b : List ℕ) → AreContents bytes (map Holds classes) → slice_get bytes k ≡ Some b
    → (c : Class) × (slice_get classes k ≡ Some c) × IsContent b (Holds c)
held_at bytes classes k b h e = let at = content_at bytes (map Holds classes) k b h e in of_mapped classes k at.0 at.1 at.2
  where
    of_mapped : (cs : List Class) (k : ℕ) (f : FileContent) → slice_get (map Holds cs) k ≡ Some f → IsContent b f → (c : Class) × (slice_get cs k ≡ Some c) × IsContent b (Holds c)
    of_mapped [] zero f e h = absurd cc
    of_mapped [] (suc k) f e h = absurd cc
    of_mapped (c ∷ cs) zero f e h = (c, refl, subst (IsContent b) (sym (same e)) h)
      where
        same : Some (Holds c) ≡ Some f → Holds c ≡ f
        same e = cc
    of_mapped (c ∷ cs) (suc k) f e h = of_mapped cs k f e h

pub held_as_many : (bytes : List (List ℕ)) (classes : List Class) → AreContents bytes (map Holds classes) → length classes ≡ length bytes
held_as_many [] [] h = refl
held_as_many [] (c ∷ classes) h = absurd h
held_as_many (b ∷ bytes) [] h = absurd h
held_as_many (b ∷ bytes) (c ∷ classes) h = ap suc (held_as_many bytes classes h.1)

pub text_at : (files : List (Bor (List ℕ))) (k : ℕ) (d : Bor (List ℕ)) → k < length files → slice_get (texts_of files) k ≡ Some (get_or files k d).now
text_at files k d less = slice_get-map text_of files k ∙ ap (option_map text_of) (slice_get-get_or files k d less)

joins_at : (world : World) (by_system : Bool) (classes : List Class) (k : ℕ) (c : Class) → Joins world by_system classes → slice_get classes k ≡ Some c
    → number_named (world ++ map (loaded by_system) (take k classes)) c.name ≡ None
joins_at world by_system [] zero c h e = absurd cc
joins_at world by_system [] (suc k) c h e = absurd cc
joins_at world by_system (x ∷ classes) zero c h e =
    ap (λ w. number_named w c.name) (append-nil world) ∙ subst (λ (y : Class). number_named world y.name ≡ None) (same e) h.0
  where
    same : Some x ≡ Some c → x ≡ c
    same e = cc
joins_at world by_system (x ∷ classes) (suc k) c h e =
    ap (λ w. number_named w c.name) (sym (append_assoc world (loaded by_system x ∷ []) (map (loaded by_system) (take k classes))))
    ∙ joins_at (world ++ loaded by_system x ∷ []) by_system classes k c h.1 e

-- one file more
module _ (files : List (Bor (List ℕ))) (place : ℕ) (d : Bor (List ℕ)) (less : place < length files) (classes : List Class)
    (held : AreContents (texts_of files) (map Holds classes)) (by_system : Bool) (before now : World) (joins : Joins before by_system classes)
    (now_is : now ≡ before ++ map (loaded by_system) (take place classes)) where
  this : (c : Class) × (slice_get classes place ≡ Some c) × IsContent (get_or files place d).now (Holds c)
  this = held_at (texts_of files) classes place (get_or files place d).now held (text_at files place d less)

  pub is_new : (c : Class) × IsContent (get_or files place d).now (Holds c) × (number_named now c.name ≡ None)
  is_new = (this.0, this.2, ap (λ w. number_named w this.0.name) now_is ∙ joins_at before by_system classes place this.0 joins this.1)

  pub one_more : (after : World) → ((c : Class) → IsContent (get_or files place d).now (Holds c) → after ≡ now ++ loaded by_system c ∷ [])
      → after ≡ before ++ map (loaded by_system) (take (place + 1) classes)
  one_more after adds =
      adds this.0 this.2 ∙ (ap (λ w. w ++ loaded by_system this.0 ∷ []) now_is
      ∙ (append_assoc before (map (loaded by_system) (take place classes)) (loaded by_system this.0 ∷ [])
      ∙ ap (λ ls. before ++ ls) (sym (ap (map (loaded by_system)) (take_more classes place this.0 this.1)
      ∙ map-append (loaded by_system) (take place classes) (this.0 ∷ [])))))

pub all_more : (files : List (Bor (List ℕ))) (place : ℕ) (classes : List Class) → AreContents (texts_of files) (map Holds classes) → length files ≤ place
    → take place classes ≡ classes
all_more files place classes held past =
    let many = held_as_many (texts_of files) classes held in
    let same = length-map files text_of in
    take_all place classes (omega (arith, many, same, past))

-- ---- the names of a host's classes differ

joins_by_names : (by_system : Bool) (earlier classes : List Class) → IsTrue (unlike_from earlier classes) → Joins (map (loaded by_system) earlier) by_system classes
joins_by_names by_system earlier [] h = tt
joins_by_names by_system earlier (c ∷ classes) h =
    let parts = is_unlike earlier c classes h in (
      no_position (λ (l : Loaded). bytes_eq l.class.name c.name) (map (loaded by_system) earlier) (any_named by_system earlier c.name ∙ parts.0),
      subst (λ w. Joins w by_system classes) (map-append (loaded by_system) earlier (c ∷ [])) (joins_by_names by_system (earlier ++ c ∷ []) classes parts.1),
    )

first_unlike : (given : List Class) → IsTrue (unlike_from [] (take 32 (lent_classes given)))
unfolding unlike_from
first_unlike [] = refl
first_unlike (first ∷ more) = refl

io_unlike : (given : List Class) → has_class (take 32 (lent_classes given)) io.name ≡ false
io_unlike [] = refl
io_unlike (first ∷ more) = refl

more_unlike : (given : List Class) → IsTrue (unlike_from (take 32 (lent_classes given) ++ io ∷ []) (drop 32 (lent_classes given)))
unfolding unlike_from
more_unlike [] = refl
more_unlike (first ∷ more) = refl

split : (given : List Class) → system_with given ≡ (take 32 (lent_classes given) ++ io ∷ []) ++ drop 32 (lent_classes given)
split [] = refl
split (first ∷ more) = refl

pub many : (given : List Class) → 32 ≤ length (lent_classes given)
many [] = omega arith
many (first ∷ more) = omega arith

joins_more : (world : World) (by_system : Bool) (classes : List Class) (c : Class) → Joins world by_system classes
    → number_named (world ++ map (loaded by_system) classes) c.name ≡ None → Joins world by_system (classes ++ c ∷ [])
joins_more world by_system [] c h e = (ap (λ w. number_named w c.name) (sym (append-nil world)) ∙ e, tt)
joins_more world by_system (x ∷ classes) c h e = (
  h.0,
  joins_more (world ++ loaded by_system x ∷ []) by_system classes c h.1
      (ap (λ w. number_named w c.name) (append_assoc world (loaded by_system x ∷ []) (map (loaded by_system) classes)) ∙ e),
)

neither_has : (a b : Bool) → (a || b) ≡ false → (a ≡ false) × (b ≡ false)
neither_has true b e = absurd cc
neither_has false b e = (refl, e)

module _ (library : List Class) where
  abbrev system : World
  system = map (loaded true) (system_with library)

  new_in_front : (front : List Class) (name : List ℕ) → has_class (system_with library) name ≡ false → has_class front name ≡ false
      → number_named (system ++ map (loaded false) front) name ≡ None
  new_in_front front name s f =
      no_position (λ (l : Loaded). bytes_eq l.class.name name) (system ++ map (loaded false) front)
      (list_any-append (λ (l : Loaded). bytes_eq l.class.name name) system (map (loaded false) front)
      ∙ (ap (λ b. b || list_any (λ (l : Loaded). bytes_eq l.class.name name) (map (loaded false) front)) (any_named true (system_with library) name ∙ s)
      ∙ (any_named false front name ∙ f)))

  one_in_front : (front : List Class) (c : Class) → Joins system false front → Joins system false (with_class_more library front c)
  one_in_front front c h = by_test (has_class (system_with library) c.name || has_class front c.name) refl
    where
      by_test : (b : Bool) → (has_class (system_with library) c.name || has_class front c.name) ≡ b → Joins system false (with_class_more library front c)
      by_test true e = rw e h
      by_test false e =
          let parts = neither_has (has_class (system_with library) c.name) (has_class front c.name) e in
          rw e (joins_more system false front c h (new_in_front front c.name parts.0 parts.1))

  all_in_front : (front classes : List Class) → Joins system false front → Joins system false (front_of library front classes)
  all_in_front front [] h = h
  all_in_front front (c ∷ classes) h = all_in_front (with_class_more library front c) classes (one_in_front front c h)

-- ---- the list of a host's classes

contents_before : (n : ℕ) (bytes : List (List ℕ)) (contents : List FileContent) → AreContents bytes contents → AreContents (take n bytes) (take n contents)
contents_before zero bytes contents h = tt
contents_before (suc n) [] [] h = tt
contents_before (suc n) [] (f ∷ contents) h = absurd h
contents_before (suc n) (b ∷ bytes) [] h = absurd h
contents_before (suc n) (b ∷ bytes) (f ∷ contents) h = (h.0, contents_before n bytes contents h.1)

contents_behind : (n : ℕ) (bytes : List (List ℕ)) (contents : List FileContent) → AreContents bytes contents → AreContents (drop n bytes) (drop n contents)
contents_behind zero bytes contents h = h
contents_behind (suc n) [] [] h = tt
contents_behind (suc n) [] (f ∷ contents) h = absurd h
contents_behind (suc n) (b ∷ bytes) [] h = absurd h
contents_behind (suc n) (b ∷ bytes) (f ∷ contents) h = contents_behind n bytes contents h.1

pub map-take : {X Y : Type 0} → (f : X → Y) (n : ℕ) (xs : List X) → map f (take n xs) ≡ take n (map f xs)
map-take f zero xs = refl
map-take f (suc n) [] = refl
map-take f (suc n) (x ∷ xs) = ap (λ ys. f x ∷ ys) (map-take f n xs)

map-drop : {X Y : Type 0} → (f : X → Y) (n : ℕ) (xs : List X) → map f (drop n xs) ≡ drop n (map f xs)
map-drop f zero xs = refl
map-drop f (suc n) [] = refl
map-drop f (suc n) (x ∷ xs) = map-drop f n xs

pub before_io : (lent front : List (Bor (List ℕ))) (given : List Class) → AreHostFiles (texts_of lent) (texts_of front) given → min 32 (length lent) ≡ 32
before_io lent front given files =
    let same = held_as_many (texts_of lent) (lent_classes given) files.system in
    let size = length-map lent text_of in
    let some = many given in
    omega (arith, same, size, some)

module _ (lent front : List (Bor (List ℕ))) (given : List Class) (files : AreHostFiles (texts_of lent) (texts_of front) given) where
  abbrev classes : List Class
  classes = lent_classes given

  pub first_held : AreContents (texts_of (take 32 lent)) (map Holds (take 32 classes))
  first_held =
      subst (λ bs. AreContents bs (map Holds (take 32 classes))) (sym (map-take text_of 32 lent))
      (subst (AreContents (take 32 (texts_of lent))) (sym (map-take Holds 32 classes)) (contents_before 32 (texts_of lent) (map Holds classes) files.system))

  pub more_held : AreContents (texts_of (drop 32 lent)) (map Holds (drop 32 classes))
  more_held =
      subst (λ bs. AreContents bs (map Holds (drop 32 classes))) (sym (map-drop text_of 32 lent))
      (subst (AreContents (drop 32 (texts_of lent))) (sym (map-drop Holds 32 classes)) (contents_behind 32 (texts_of lent) (map Holds classes) files.system))

  pub first_joins : Joins [] true (take 32 classes)
  first_joins = joins_by_names true [] (take 32 classes) (first_unlike given)

  pub io_joins : number_named (map (loaded true) (take 32 classes)) io.name ≡ None
  io_joins = no_position (λ (l : Loaded). bytes_eq l.class.name io.name) (map (loaded true) (take 32 classes)) (any_named true (take 32 classes) io.name ∙ io_unlike given)

  pub more_joins : Joins (map (loaded true) (take 32 classes) ++ loaded true io ∷ []) true (drop 32 classes)
  more_joins =
      subst (λ w. Joins w true (drop 32 classes)) (map-append (loaded true) (take 32 classes) (io ∷ []))
      (joins_by_names true (take 32 classes ++ io ∷ []) (drop 32 classes) (more_unlike given))

  pub system_is : (map (loaded true) (take 32 classes) ++ loaded true io ∷ []) ++ map (loaded true) (drop 32 classes) ≡ map (loaded true) (system_with given)
  system_is =
      sym (ap (map (loaded true)) (split given) ∙ (map-append (loaded true) (take 32 classes ++ io ∷ []) (drop 32 classes)
      ∙ ap (λ w. w ++ map (loaded true) (drop 32 classes)) (map-append (loaded true) (take 32 classes) (io ∷ []))))

  pub front_joins : Joins (map (loaded true) (system_with given)) false (with_library given).front
  front_joins = all_in_front given [] given tt

  -- ---- its four steps: what each wants, and what it leaves

  pub wants_first : (n : ℕ) (list : World) → n ≡ 32 → list ≡ [] → (x : List Class) × AreContents (texts_of (take n lent)) (map Holds x) × Joins list true x
  wants_first n list is start =
      subst (λ k. (x : List Class) × AreContents (texts_of (take k lent)) (map Holds x) × Joins list true x) (sym is)
      (take 32 classes, first_held, subst (λ w. Joins w true (take 32 classes)) (sym start) first_joins)

  pub has_first : (n : ℕ) (list after : World) → n ≡ 32 → list ≡ []
      → ((x : List Class) → AreContents (texts_of (take n lent)) (map Holds x) → Joins list true x → after ≡ list ++ map (loaded true) x)
      → after ≡ map (loaded true) (take 32 classes)
  has_first n list after is start adds =
      adds (take 32 classes) (subst (λ k. AreContents (texts_of (take k lent)) (map Holds (take 32 classes))) (sym is) first_held)
      (subst (λ w. Joins w true (take 32 classes)) (sym start) first_joins)
      ∙ ap (λ w. w ++ map (loaded true) (take 32 classes)) start

  pub wants_io : (list : World) (l : Loaded) → list ≡ map (loaded true) (take 32 classes) → l ≡ loaded true io → number_named list l.class.name ≡ None
  wants_io list l is this =
      ap (λ w. number_named w l.class.name) is
      ∙ (ap (λ (m : Loaded). number_named (map (loaded true) (take 32 classes)) m.class.name) this ∙ io_joins)

  pub has_io : (list after : World) (l : Loaded) → list ≡ map (loaded true) (take 32 classes) → l ≡ loaded true io → after ≡ list ++ l ∷ []
      → after ≡ map (loaded true) (take 32 classes) ++ loaded true io ∷ []
  has_io list after l is this e = e ∙ (ap (λ w. w ++ l ∷ []) is ∙ ap (λ m. map (loaded true) (take 32 classes) ++ m ∷ []) this)

  -- those behind, as a slice has them
  rest_is : (n : ℕ) → n ≡ 32 → take (length lent - n) (drop n lent) ≡ drop 32 lent
  rest_is n is = take_rest lent n ∙ ap (λ k. drop k lent) is

  pub wants_more : (n : ℕ) (list : World) → n ≡ 32 → list ≡ map (loaded true) (take 32 classes) ++ loaded true io ∷ []
      → (x : List Class) × AreContents (texts_of (take (length lent - n) (drop n lent))) (map Holds x) × Joins list true x
  wants_more n list is list_is =
      subst (λ files. (x : List Class) × AreContents (texts_of files) (map Holds x) × Joins list true x) (sym (rest_is n is))
      (drop 32 classes, more_held, subst (λ w. Joins w true (drop 32 classes)) (sym list_is) more_joins)

  pub has_more : (n : ℕ) (list after : World) → n ≡ 32 → list ≡ map (loaded true) (take 32 classes) ++ loaded true io ∷ []
      → ((x : List Class) → AreContents (texts_of (take (length lent - n) (drop n lent))) (map Holds x) → Joins list true x → after ≡ list ++ map (loaded true) x)
      → after ≡ map (loaded true) (system_with given)
  has_more n list after is list_is adds =
      adds (drop 32 classes) (subst (λ files. AreContents (texts_of files) (map Holds (drop 32 classes))) (sym (rest_is n is)) more_held)
      (subst (λ w. Joins w true (drop 32 classes)) (sym list_is) more_joins)
      ∙ (ap (λ w. w ++ map (loaded true) (drop 32 classes)) list_is ∙ system_is)

  pub wants_front : (list : World) → list ≡ map (loaded true) (system_with given)
      → (x : List Class) × AreContents (texts_of front) (map Holds x) × Joins list false x
  wants_front list is = ((with_library given).front, files.others, subst (λ w. Joins w false (with_library given).front) (sym is) front_joins)

  pub has_front : (list after : World) → list ≡ map (loaded true) (system_with given)
      → ((x : List Class) → AreContents (texts_of front) (map Holds x) → Joins list false x → after ≡ list ++ map (loaded false) x)
      → after ≡ host_world given
  has_front list after is adds =
      adds (with_library given).front files.others (subst (λ w. Joins w false (with_library given).front) (sym is) front_joins)
      ∙ ap (λ w. w ++ map (loaded false) (with_library given).front) is

-- ---- the files of the system alone

own_from : (library before rest : List (List ℕ)) → files_from (before ++ rest) library (length before) (replicate (length rest) None) ≡ rest
own_from library before [] = refl
own_from library before (b ∷ rest) =
    let behind : length (before ++ b ∷ []) ≡ length before + 1 = length-append before (b ∷ []) in
    let others = own_from library (before ++ b ∷ []) rest in
    let same = append_assoc before (b ∷ []) rest in
    let again = subst (λ n. files_from ((before ++ b ∷ []) ++ rest) library n (replicate (length rest) None) ≡ rest) behind others in
    let again' = subst (λ own. files_from own library (length before + 1) (replicate (length rest) None) ≡ rest) same again in
    ap (λ x. x ∷ files_from (before ++ b ∷ rest) library (length before + 1) (replicate (length rest) None)) (get_or-append_seam before b rest []) ∙ ap (λ xs. b ∷ xs) again'

pub system_alone : (own library : List (List ℕ)) (lenders : List (Option ℕ)) (front : List ℕ) → AreContents system_bytes system_contents → own ≡ system_bytes
    → library ≡ [] → lenders ≡ replicate 32 None → front ≡ [] → IsHost own library lenders front
system_alone own library lenders front holds own_is no_library no_lenders no_front =
    subst (λ f. IsHost own library lenders f) (sym no_front) (subst (λ ls. IsHost own library ls []) (sym no_lenders)
    (subst (λ l. IsHost own l (replicate 32 None) []) (sym no_library) (subst (λ o. IsHost o [] (replicate 32 None) []) (sym own_is) alone)))
  where
    alone : IsHost system_bytes [] (replicate 32 None) []
    alone = record {
      own_is = refl;
      given = [];
      gives = no_library_is_one;
      files = record { system = subst (λ bs. AreContents bs (map Holds classes_with_files)) (sym (own_from [] [] system_bytes)) holds; others = tt };
    }
