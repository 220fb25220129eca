-- Which classes of a guest were accepted, from the verdicts on its files.
use Rattle.std.proofs.Common.{◌≡◌, ℕ, zero, suc, ◌+◌, Bool, true, false, cond, not, ◌||◌, List, [], ◌∷◌, ◌++◌, length, map, take, replicate, Option, Some, None, refl, sym, ap, subst, ◌∙◌, append_assoc, append-nil, length-append, arith}
use Rattle.std.specs.Prelude.{⊤, slice_get}
use Rattle.std.specs.List.{cons_option, filter_map, flat_map, list_any}
use Rattle.std.specs.Option.{option_to_list}
use Rattle.std.specs.Str.{bytes_eq}
use Rattle.std.proofs.lemmas.List.{length-map, length-replicate, map-append}
use Rattle.std.proofs.lemmas.List.Concat.{flat_map-append, flat_map-cons}
use Rattle.std.proofs.lemmas.Slice.Eq.{bytes_eq-Decides}
use Rattle.jv_class.specs.Class.{Class}
use Rattle.jv_meaning_world.specs.FileContent.{FileContent}
use Rattle.jv_meaning_world.specs.declared.content.Content.TheVariants.{OtherVersion, NoClassFile, MoreThanProfile, Holds}
use Rattle.jv_meaning_world.specs.declared.verdict.LoadVerdict.{LoadVerdict}
use Rattle.jv_meaning_world.specs.declared.verdict.LoadVerdict.TheVariants.{Version, Format, Unsupported, Reserved, Duplicate, Circular, NoSuper, WrongKind, NoAccess, FinalBroken}
use Rattle.jv_meaning_world.specs.Library.{with_library}
use Rattle.jv_meaning_world.specs.World.{HostClasses, Loaded, World, loaded, is_reserved, has_class, with_class_of, joined_all, classes_in, world_of}
use Rattle.jv_meaning_world.specs.Above.{is_circular, superclasses}
use Rattle.jv_meaning_world.specs.Verdicts.{verdict_of_class, verdict_behind, verdict_at, each_super, is_loadable, have_right_kind, can_name_supers, has_final_super, breaks_final}
use Rattle.jv_meaning_world.specs.Numbers.{IsNumbered, number_named}
use Rattle.jv_meaning_typing.specs.declared.verdict.Verdict.{Verdict}
use Rattle.jv_meaning_typing.specs.declared.verdict.Verdict.TheVariants as verdicts
use Rattle.jv_meaning_typing.specs.Judgement.{IsVerdictOfMethods, IsVerdictBehind, IsVerdictOfContent, IsVerdictOfFile}
use Rattle.jv_meaning_machine.specs.State.{is_class_accepted}
use Rattle.jv_meaning_machine.specs.Alone.{Judged, IsJudged, accepted_in, accepted_names}
use Rattle.jv_interp.specs.VerifiedClasses.{class_accepted, accepted_by, TellsEach}

-- ---- the classes of files, each with whether it was accepted

abbrev Row : Type 0
Row = Class × Bool

abbrev row_of : Class → Option Bool → List Row
row_of class None = []
row_of class (Some accepted) = (class, accepted) ∷ []

abbrev row_in : FileContent → Verdict → List Row
row_in (Holds class) verdict = row_of class (class_accepted verdict)
row_in _ verdict = []

abbrev rows : List FileContent → List Verdict → List Row
rows (file ∷ files) (verdict ∷ more) = row_in file verdict ++ rows files more
rows _ _ = []

abbrev class_in : Row → Class
class_in row = row.0

abbrev flag_in : Row → Bool
flag_in row = row.1

abbrev name_if : Class → Bool → List (List ℕ)
name_if class true = class.name ∷ []
name_if class false = []

abbrev names_in : Row → List (List ℕ)
names_in row = name_if row.0 row.1

-- ---- one file

abbrev IsRight : HostClasses → World → List FileContent → FileContent → Verdict → Type 0
IsRight host world earlier file verdict = IsVerdictOfContent world (verdict_behind host earlier world file) (Some file) verdict

refused_row : (v : Verdict) (why : LoadVerdict) (none : class_accepted (verdicts.Refused why) ≡ None) → v ≡ verdicts.Refused why → class_accepted v ≡ None
refused_row v why none e = ap class_accepted e ∙ none

flag_of_file : (host : HostClasses) (world : World) (earlier : List FileContent) (file : FileContent) (v : Verdict)
    → IsRight host world earlier file v → filter_map class_accepted (v ∷ []) ≡ map flag_in (row_in file v)
flag_of_file host world earlier OtherVersion v e = rw (refused_row v Version refl e) refl
flag_of_file host world earlier NoClassFile v e = rw (refused_row v Format refl e) refl
flag_of_file host world earlier MoreThanProfile v e = rw (refused_row v Unsupported refl e) refl
flag_of_file host world earlier (Holds class) v e = by_flag (class_accepted v) refl
  where
    by_flag : (o : Option Bool) → class_accepted v ≡ o → filter_map class_accepted (v ∷ []) ≡ map flag_in (row_of class o)
    by_flag None f = rw f refl
    by_flag (Some b) f = rw f refl

names_of_file : (file : FileContent) (v : Verdict) → accepted_in file v ≡ flat_map names_in (row_in file v)
names_of_file OtherVersion v = refl
names_of_file NoClassFile v = refl
names_of_file MoreThanProfile v = refl
names_of_file (Holds class) verdicts.Accepted = refl
names_of_file (Holds class) (verdicts.Verify fault) = refl
names_of_file (Holds class) (verdicts.Refused Version) = refl
names_of_file (Holds class) (verdicts.Refused Format) = refl
names_of_file (Holds class) (verdicts.Refused Unsupported) = refl
names_of_file (Holds class) (verdicts.Refused Reserved) = refl
names_of_file (Holds class) (verdicts.Refused Duplicate) = refl
names_of_file (Holds class) (verdicts.Refused Circular) = refl
names_of_file (Holds class) (verdicts.Refused NoSuper) = refl
names_of_file (Holds class) (verdicts.Refused WrongKind) = refl
names_of_file (Holds class) (verdicts.Refused NoAccess) = refl
names_of_file (Holds class) (verdicts.Refused FinalBroken) = refl

-- a class of the world has a verdict of its own
own_row : (world : World) (l : Loaded) (class : Class) (v : Verdict) → IsVerdictBehind world l (verdict_of_class world l) v → map class_in (row_of class (class_accepted v)) ≡ class ∷ []
own_row world l class v e =
    by_tests (is_circular world l.class) (not (each_super world (is_loadable world) l.class)) (not (have_right_kind world l.class)) (not (can_name_supers world l))
    (has_final_super world l.class || breaks_final l [] (superclasses world l.class)) e
  where
    by_row : (o : Option Bool) (b : Bool) → o ≡ Some b → map class_in (row_of class o) ≡ class ∷ []
    by_row o b f = rw f refl

    by_methods : (v : Verdict) → IsVerdictOfMethods world l v → map class_in (row_of class (class_accepted v)) ≡ class ∷ []
    by_methods (verdicts.Refused why) h = absurd h
    by_methods (verdicts.Verify fault) h = refl
    by_methods verdicts.Accepted h = refl

    by_tests :
        (a b c d e : Bool) → IsVerdictBehind world l (cond a (Some Circular) (cond b (Some NoSuper) (cond c (Some WrongKind) (cond d (Some NoAccess) (cond e (Some FinalBroken) None))))) v
        → map class_in (row_of class (class_accepted v)) ≡ class ∷ []
    by_tests true b c d e h = by_row (class_accepted v) false (ap class_accepted h)
    by_tests false true c d e h = by_row (class_accepted v) false (ap class_accepted h)
    by_tests false false true d e h = by_row (class_accepted v) false (ap class_accepted h)
    by_tests false false false true e h = by_row (class_accepted v) false (ap class_accepted h)
    by_tests false false false false true h = by_row (class_accepted v) false (ap class_accepted h)
    by_tests false false false false false h = by_methods v h

class_of_file : (host : HostClasses) (world : World) (earlier : List FileContent) (file : FileContent) (v : Verdict)
    → IsRight host world earlier file v → with_class_of (classes_in host earlier) file ≡ classes_in host earlier ++ map class_in (row_in file v)
class_of_file host world earlier OtherVersion v e = sym (append-nil (classes_in host earlier))
class_of_file host world earlier NoClassFile v e = sym (append-nil (classes_in host earlier))
class_of_file host world earlier MoreThanProfile v e = sym (append-nil (classes_in host earlier))
class_of_file host world earlier (Holds class) v e = by_tests (is_reserved class.name) (has_class (classes_in host earlier) class.name) e
  where
    none :
        (why : LoadVerdict) → class_accepted (verdicts.Refused why) ≡ None → v ≡ verdicts.Refused why
        → classes_in host earlier ≡ classes_in host earlier ++ map class_in (row_of class (class_accepted v))
    none why is f = rw (refused_row v why is f) (sym (append-nil (classes_in host earlier)))

    by_tests :
        (r h : Bool) → IsVerdictBehind world (loaded false class) (cond r (Some Reserved) (cond h (Some Duplicate) (verdict_of_class world (loaded false class)))) v
        → cond (r || h) (classes_in host earlier) (classes_in host earlier ++ class ∷ []) ≡ classes_in host earlier ++ map class_in (row_of class (class_accepted v))
    by_tests true h f = none Reserved refl f
    by_tests false true f = none Duplicate refl f
    by_tests false false f = ap (λ (cs : List Class). classes_in host earlier ++ cs) (sym (own_row world (loaded false class) class v f))

-- ---- all files

abbrev AreRight : HostClasses → World → List FileContent → List FileContent → List Verdict → Type 0
AreRight host world earlier [] [] = ⊤
AreRight host world earlier (file ∷ files) (verdict ∷ more) = IsRight host world earlier file verdict × AreRight host world (earlier ++ file ∷ []) files more
AreRight host world earlier _ _ = ⊥

flags_are : (host : HostClasses) (world : World) (earlier files : List FileContent) (all : List Verdict)
    → AreRight host world earlier files all → filter_map class_accepted all ≡ map flag_in (rows files all)
flags_are host world earlier [] [] h = refl
flags_are host world earlier [] (v ∷ all) h = absurd h
flags_are host world earlier (f ∷ files) [] h = absurd h
flags_are host world earlier (f ∷ files) (v ∷ all) h =
    first_flag (class_accepted v) ∙ ap (λ (bs : List Bool). bs ++ filter_map class_accepted all) (flag_of_file host world earlier f v h.0)
    ∙ ap (λ (bs : List Bool). map flag_in (row_in f v) ++ bs) (flags_are host world (earlier ++ f ∷ []) files all h.1)
    ∙ sym (map-append flag_in (row_in f v) (rows files all))
  where
    first_flag : (o : Option Bool) → cons_option o (filter_map class_accepted all) ≡ cons_option o [] ++ filter_map class_accepted all
    first_flag None = refl
    first_flag (Some b) = refl

names_are : (files : List FileContent) (all : List Verdict) → accepted_names files all ≡ flat_map names_in (rows files all)
names_are [] all = refl
names_are (f ∷ files) [] = refl
names_are (f ∷ files) (v ∷ all) =
    ap (λ (ns : List (List ℕ)). ns ++ accepted_names files all) (names_of_file f v)
    ∙ ap (λ (ns : List (List ℕ)). flat_map names_in (row_in f v) ++ ns) (names_are files all)
    ∙ sym (flat_map-append names_in (row_in f v) (rows files all))

joined_both : (classes : List Class) (xs ys : List FileContent) → joined_all classes (xs ++ ys) ≡ joined_all (joined_all classes xs) ys
joined_both classes [] ys = refl
joined_both classes (x ∷ xs) ys = joined_both (with_class_of classes x) xs ys

classes_are : (host : HostClasses) (world : World) (earlier files : List FileContent) (all : List Verdict)
    → AreRight host world earlier files all → joined_all (classes_in host earlier) files ≡ classes_in host earlier ++ map class_in (rows files all)
classes_are host world earlier [] [] h = sym (append-nil (classes_in host earlier))
classes_are host world earlier [] (v ∷ all) h = absurd h
classes_are host world earlier (f ∷ files) [] h = absurd h
classes_are host world earlier (f ∷ files) (v ∷ all) h =
    let next : classes_in host (earlier ++ f ∷ []) ≡ with_class_of (classes_in host earlier) f = joined_both host.front earlier (f ∷ []) in
    ap (λ (cs : List Class). joined_all cs files) (sym next)
    ∙ classes_are host world (earlier ++ f ∷ []) files all h.1
    ∙ ap (λ (cs : List Class). cs ++ map class_in (rows files all)) (next ∙ class_of_file host world earlier f v h.0)
    ∙ append_assoc (classes_in host earlier) (map class_in (row_in f v)) (map class_in (rows files all))
    ∙ ap (λ (cs : List Class). classes_in host earlier ++ cs) (sym (map-append class_in (row_in f v) (rows files all)))

at_seam : (earlier files : List FileContent) (f : FileContent) → slice_get (earlier ++ f ∷ files) (length earlier) ≡ Some f
at_seam [] files f = refl
at_seam (x ∷ earlier) files f = at_seam earlier files f

to_seam : (earlier files : List FileContent) → take (length earlier) (earlier ++ files) ≡ earlier
to_seam [] files = refl
to_seam (x ∷ earlier) files = ap (λ (xs : List FileContent). x ∷ xs) (to_seam earlier files)

are_right :
    (host : HostClasses) (contents earlier files : List FileContent) (all : List Verdict) → contents ≡ earlier ++ files → length all ≡ length files
    → ((place : ℕ) (v : Verdict) → slice_get all place ≡ Some v → IsVerdictOfFile host contents (length earlier + place) v)
    → AreRight host (world_of host contents) earlier files all
are_right host contents earlier [] [] is count each = tt
are_right host contents earlier [] (v ∷ all) is count each = absurd cc
are_right host contents earlier (f ∷ files) [] is count each = absurd cc
are_right host contents earlier (f ∷ files) (v ∷ all) is count each = (here, are_right host contents (earlier ++ f ∷ []) files all longer fewer next)
  where
    none_more : length earlier + 0 ≡ length earlier
    none_more = omega arith

    at : slice_get contents (length earlier + 0) ≡ Some f
    at = ap (λ (n : ℕ). slice_get contents n) none_more ∙ ap (λ (fs : List FileContent). slice_get fs (length earlier)) is ∙ at_seam earlier files f

    before : take (length earlier + 0) contents ≡ earlier
    before =
        ap (λ (n : ℕ). take n contents) none_more ∙ ap (λ (fs : List FileContent). take (length earlier) fs) is
        ∙ to_seam earlier (f ∷ files)

    here : IsRight host (world_of host contents) earlier f v
    here =
        subst (λ (fs : List FileContent). IsVerdictOfContent (world_of host contents) (verdict_behind host fs (world_of host contents) f) (Some f) v) before
        (subst (λ (o : Option FileContent). IsVerdictOfContent (world_of host contents) (verdict_at host contents (length earlier + 0) o) o v) at (each 0 v refl))

    longer : contents ≡ (earlier ++ f ∷ []) ++ files
    longer = is ∙ sym (append_assoc earlier (f ∷ []) files)

    fewer : length all ≡ length files
    fewer = omega (arith, count)

    next : (place : ℕ) (w : Verdict) → slice_get all place ≡ Some w → IsVerdictOfFile host contents (length (earlier ++ f ∷ []) + place) w
    next place w e =
        let size = length-append earlier (f ∷ []) in
        let same : length earlier + suc place ≡ length (earlier ++ f ∷ []) + place = omega (arith, size) in
        subst (λ (n : ℕ). IsVerdictOfFile host contents n w) same (each (suc place) w e)

-- ---- the classes by their numbers

eq_itself : (a : List ℕ) → bytes_eq a a ≡ true
eq_itself a = (bytes_eq-Decides a a).1 refl

abbrev AreUnlike : List Row → Type 0
AreUnlike all = (j k : ℕ) (a b : Row) → slice_get all j ≡ Some a → slice_get all k ≡ Some b → a.0.name ≡ b.0.name → j ≡ k

any_both : (p : List ℕ → Bool) (xs ys : List (List ℕ)) → list_any p (xs ++ ys) ≡ (list_any p xs || list_any p ys)
any_both p [] ys = refl
any_both p (x ∷ xs) ys = by_test (p x) (any_both p xs ys)
  where
    by_test : (b : Bool) → list_any p (xs ++ ys) ≡ (list_any p xs || list_any p ys) → (b || list_any p (xs ++ ys)) ≡ ((b || list_any p xs) || list_any p ys)
    by_test true e = refl
    by_test false e = e

-- a row that was accepted has its name among those
any_here : (all : List Row) (n : ℕ) (r : Row) → slice_get all n ≡ Some r → r.1 ≡ true → list_any (bytes_eq r.0.name) (flat_map names_in all) ≡ true
any_here [] n r e on = absurd cc
any_here (x ∷ all) zero r e on =
    let same : x ≡ r = some_same e in
    ap (list_any (bytes_eq r.0.name)) (flat_map-cons names_in x all) ∙ any_both (bytes_eq r.0.name) (names_in x) (flat_map names_in all)
    ∙ ap (λ (b : Bool). b || list_any (bytes_eq r.0.name) (flat_map names_in all)) (subst (λ (y : Row). list_any (bytes_eq r.0.name) (names_in y) ≡ true) (sym same) own)
  where
    some_same : Some x ≡ Some r → x ≡ r
    some_same f = cc

    own : list_any (bytes_eq r.0.name) (name_if r.0 r.1) ≡ true
    own = rw on (ap (λ (b : Bool). b || false) (eq_itself r.0.name))
any_here (x ∷ all) (suc n) r e on =
    ap (list_any (bytes_eq r.0.name)) (flat_map-cons names_in x all) ∙ any_both (bytes_eq r.0.name) (names_in x) (flat_map names_in all)
    ∙ either (list_any (bytes_eq r.0.name) (names_in x)) (any_here all n r e on)
  where
    either : (b : Bool) → list_any (bytes_eq r.0.name) (flat_map names_in all) ≡ true → (b || list_any (bytes_eq r.0.name) (flat_map names_in all)) ≡ true
    either true f = refl
    either false f = f

-- and a name among those is a row's
any_row : (name : List ℕ) (all : List Row) → list_any (bytes_eq name) (flat_map names_in all) ≡ true → (j : ℕ) × (a : Row) × (slice_get all j ≡ Some a) × (a.1 ≡ true) × (name ≡ a.0.name)
any_row name [] e = absurd cc
any_row name (x ∷ all) e = by_first (list_any (bytes_eq name) (names_in x)) refl (λ f. any_row name all f) (sym split ∙ e)
  where
    split : list_any (bytes_eq name) (flat_map names_in (x ∷ all)) ≡ (list_any (bytes_eq name) (names_in x) || list_any (bytes_eq name) (flat_map names_in all))
    split = ap (list_any (bytes_eq name)) (flat_map-cons names_in x all) ∙ any_both (bytes_eq name) (names_in x) (flat_map names_in all)

    one : (b : Bool) → x.1 ≡ b → list_any (bytes_eq name) (name_if x.0 b) ≡ true → (x.1 ≡ true) × (name ≡ x.0.name)
    one true is f = (is, (bytes_eq-Decides name x.0.name).0 (sole (bytes_eq name x.0.name) f))
      where
        sole : (b : Bool) → (b || false) ≡ true → b ≡ true
        sole true g = refl
        sole false g = absurd cc
    one false is f = absurd cc

    by_first : (b : Bool) → list_any (bytes_eq name) (names_in x) ≡ b
        → (list_any (bytes_eq name) (flat_map names_in all) ≡ true → (j : ℕ) × (a : Row) × (slice_get all j ≡ Some a) × (a.1 ≡ true) × (name ≡ a.0.name))
        → (b || list_any (bytes_eq name) (flat_map names_in all)) ≡ true → (j : ℕ) × (a : Row) × (slice_get (x ∷ all) j ≡ Some a) × (a.1 ≡ true) × (name ≡ a.0.name)
    by_first true f again g = let is = one x.1 refl f in (0, x, refl, is.0, is.1)
    by_first false f again g = let found = again g in (suc found.0, found.1, found.2, found.3, found.4)

flag_is : (all : List Row) → AreUnlike all → (n : ℕ) (r : Row) → slice_get all n ≡ Some r → list_any (bytes_eq r.0.name) (flat_map names_in all) ≡ r.1
flag_is all unlike n r e = by_flag r.1 refl
  where
    by_any : (b : Bool) → list_any (bytes_eq r.0.name) (flat_map names_in all) ≡ b → r.1 ≡ false → b ≡ false
    by_any false f off = refl
    by_any true f off = absurd (clash found.0 found.1 found.2 found.3 found.4)
      where
        found : (j : ℕ) × (a : Row) × (slice_get all j ≡ Some a) × (a.1 ≡ true) × (r.0.name ≡ a.0.name)
        found = any_row r.0.name all f

        clash : (j : ℕ) (a : Row) → slice_get all j ≡ Some a → a.1 ≡ true → r.0.name ≡ a.0.name → ⊥
        clash j a at on named =
            let same : n ≡ j = unlike n j r a e at named in
            let rows_same : Some r ≡ Some a = sym e ∙ ap (slice_get all) same ∙ at in
            unequal (ap flag_in (some_same rows_same))
          where
            some_same : Some r ≡ Some a → r ≡ a
            some_same g = cc

            unequal : r.1 ≡ a.1 → ⊥
            unequal g = let h : false ≡ true = sym off ∙ g ∙ on in absurd cc

    by_flag : (b : Bool) → r.1 ≡ b → list_any (bytes_eq r.0.name) (flat_map names_in all) ≡ r.1
    by_flag true on = any_here all n r e on ∙ sym on
    by_flag false off = by_any (list_any (bytes_eq r.0.name) (flat_map names_in all)) refl off ∙ sym off

-- ---- the classes of the world

some_same : {X : Type 0} (a b : X) → Some a ≡ Some b → a ≡ b
some_same a b e = cc

record IsRowAt (all : List Row) (n : ℕ) (l : Loaded) : Type 0 where
  row : Row
  at : slice_get all n ≡ Some row
  own : loaded false row.0 ≡ l
  flag : slice_get (map flag_in all) n ≡ Some row.1

row_at : (all : List Row) (n : ℕ) (l : Loaded) → slice_get (map (loaded false) (map class_in all)) n ≡ Some l → IsRowAt all n l
row_at [] n l e = absurd cc
row_at (x ∷ all) zero l e = record { row = x; at = refl; own = some_same (loaded false x.0) l e; flag = refl }
row_at (x ∷ all) (suc n) l e =
    let there = row_at all n l e in
    record { row = there.row; at = there.at; own = there.own; flag = there.flag }

class_at_row : (all : List Row) (n : ℕ) (r : Row) → slice_get all n ≡ Some r → slice_get (map (loaded false) (map class_in all)) n ≡ Some (loaded false r.0)
class_at_row [] n r e = absurd cc
class_at_row (x ∷ all) zero r e = ap (λ (y : Row). Some (loaded false y.0)) (some_same x r e)
class_at_row (x ∷ all) (suc n) r e = class_at_row all n r e

behind_system : (system : List Class) (guests : World) (n : ℕ) → slice_get (map (loaded true) system ++ guests) (length system + n) ≡ slice_get guests n
behind_system [] guests n =
    let plain : length {A = Class} [] + n ≡ n = omega arith in
    ap (slice_get guests) plain
behind_system (c ∷ system) guests n =
    let plain : length (c ∷ system) + n ≡ suc (length system + n) = omega arith in
    ap (slice_get (map (loaded true) (c ∷ system) ++ guests)) plain ∙ behind_system system guests n

are_unlike : (system : List Class) (all : List Row) → IsNumbered (map (loaded true) system ++ map (loaded false) (map class_in all)) → AreUnlike all
are_unlike system all numbered j k a b at_j at_k named =
    let guests = map (loaded false) (map class_in all) in
    let first = numbered (length system + j) (loaded false a.0) (behind_system system guests j ∙ class_at_row all j a at_j) in
    let second = numbered (length system + k) (loaded false b.0) (behind_system system guests k ∙ class_at_row all k b at_k) in
    let both : length system + j ≡ length system + k =
    some_same (length system + j) (length system + k)
    (sym first ∙ ap (number_named (map (loaded true) system ++ guests)) named ∙ second) in
    omega (arith, both)

each_told :
    (system : List Class) (guests : World) (flags : List Bool) (test : Loaded → Bool) → ((c : Class) → test (loaded true c) ≡ true)
    → TellsEach guests flags test → TellsEach (map (loaded true) system ++ guests) (replicate (length system) true ++ flags) test
each_told [] guests flags test on tells n l e = tells n l e
each_told (c ∷ system) guests flags test on tells zero l e = ap Some (sym (on c) ∙ ap test (some_same (loaded true c) l e))
each_told (c ∷ system) guests flags test on tells (suc n) l e = each_told system guests flags test on tells n l e

abbrev is_accepted : List (List ℕ) → Loaded → Bool
is_accepted names l = l.by_system || list_any (bytes_eq l.class.name) names

guests_told : (all : List Row) → AreUnlike all → TellsEach (map (loaded false) (map class_in all)) (map flag_in all) (is_accepted (flat_map names_in all))
guests_told all unlike n l e =
    let there = row_at all n l e in
    there.flag
    ∙ ap Some (sym (flag_is all unlike n there.row there.at)
    ∙ ap (λ (l : Loaded). is_accepted (flat_map names_in all) l) there.own)

-- ---- the classes in front of a guest's, which all count as accepted

front_rows : List Class → List Row
front_rows [] = []
front_rows (c ∷ front) = (c, true) ∷ front_rows front

front_classes : (front : List Class) → map class_in (front_rows front) ≡ front
unfolding front_rows
front_classes [] = refl
front_classes (c ∷ front) = ap (λ (cs : List Class). c ∷ cs) (front_classes front)

front_flags : (front : List Class) → map flag_in (front_rows front) ≡ replicate (length front) true
unfolding front_rows
front_flags [] = refl
front_flags (c ∷ front) = ap (λ (bs : List Bool). true ∷ bs) (front_flags front)

front_names : (front : List Class) → flat_map names_in (front_rows front) ≡ map (λ c. c.name) front
unfolding front_rows
front_names [] = refl
front_names (c ∷ front) = flat_map-cons names_in (c, true) (front_rows front) ∙ ap (λ (ns : List (List ℕ)). c.name ∷ ns) (front_names front)

both_replicated : (a b : ℕ) (bs : List Bool) → replicate (a + b) true ++ bs ≡ replicate a true ++ (replicate b true ++ bs)
both_replicated a b bs =
    ap (λ (xs : List Bool). xs ++ bs) (replicated a) ∙ append_assoc (replicate a true) (replicate b true) bs
  where
    replicated : (n : ℕ) → replicate (n + b) true ≡ replicate n true ++ replicate b true
    replicated zero = let none : zero + b ≡ b = omega arith in ap (λ (k : ℕ). replicate k true) none
    replicated (suc n) =
        let more : suc n + b ≡ suc (n + b) = omega arith in
        ap (λ (k : ℕ). replicate k true) more ∙ ap (λ (bs : List Bool). true ∷ bs) (replicated n)

module _ (given : List Class) (contents : List FileContent) (all : List Verdict) (count : length all ≡ length contents)
    (each : (place : ℕ) (v : Verdict) → slice_get all place ≡ Some v → IsVerdictOfFile (with_library given) contents place v) where
  abbrev host : HostClasses
  host = with_library given

  abbrev table : List Row
  table = front_rows host.front ++ rows contents all

  right : AreRight host (world_of host contents) [] contents all
  right =
      are_right host contents [] contents all refl count
      (λ place v e. subst (λ (n : ℕ). IsVerdictOfFile host contents n v) (sym (none_before place)) (each place v e))
    where
      none_before : (place : ℕ) → length {A = FileContent} [] + place ≡ place
      none_before place = omega arith

  own_classes : classes_in host contents ≡ map class_in table
  own_classes =
      classes_are host (world_of host contents) [] contents all right
      ∙ ap (λ (cs : List Class). cs ++ map class_in (rows contents all)) (sym (front_classes host.front))
      ∙ sym (map-append class_in (front_rows host.front) (rows contents all))

  own_flags : map flag_in table ≡ replicate (length host.front) true ++ filter_map class_accepted all
  own_flags =
      map-append flag_in (front_rows host.front) (rows contents all)
      ∙ ap (λ (bs : List Bool). bs ++ map flag_in (rows contents all)) (front_flags host.front)
      ∙ ap (λ (bs : List Bool). replicate (length host.front) true ++ bs) (sym (flags_are host (world_of host contents) [] contents all right))

  own_names : flat_map names_in table ≡ map (λ c. c.name) host.front ++ accepted_names contents all
  own_names =
      flat_map-append names_in (front_rows host.front) (rows contents all)
      ∙ ap (λ (ns : List (List ℕ)). ns ++ flat_map names_in (rows contents all)) (front_names host.front)
      ∙ ap (λ (ns : List (List ℕ)). map (λ c. c.name) host.front ++ ns) (sym (names_are contents all))

  -- there are as many classes as flags
  pub class_count : length (world_of host contents) ≡ length host.system + length host.front + length (filter_map class_accepted all)
  class_count =
      let both = length-append (map (loaded true) host.system) (map (loaded false) (classes_in host contents)) in
      let first = length-map host.system (loaded true) in
      let behind = length-map (classes_in host contents) (loaded false) in
      let own = ap (λ (cs : List Class). length cs) own_classes in
      let rows_are = length-map table class_in in
      let flags_are = length-map table flag_in in
      let flags = ap (λ (bs : List Bool). length bs) own_flags in
      let parts = length-append (replicate (length host.front) true) (filter_map class_accepted all) in
      let front = length-replicate {A = Bool} (length host.front) true in
      omega (arith, both, first, behind, own, rows_are, flags_are, flags, parts, front)

  pub accepted_told :
      IsNumbered (world_of host contents)
      → TellsEach (world_of host contents) (accepted_by (length host.system + length host.front) all)
      (is_accepted (map (λ c. c.name) host.front ++ accepted_names contents all))
  accepted_told numbered =
      let unlike = are_unlike host.system table (subst (λ (cs : List Class). IsNumbered (map (loaded true) host.system ++ map (loaded false) cs)) own_classes numbered) in
      let told = each_told host.system (map (loaded false) (map class_in table)) (map flag_in table) (is_accepted (flat_map names_in table)) (λ c. refl) (guests_told table unlike) in
      subst (λ (cs : List Class). TellsEach (map (loaded true) host.system ++ map (loaded false) cs) (accepted_by (length host.system + length host.front) all)
      (is_accepted (map (λ c. c.name) host.front ++ accepted_names contents all))) (sym own_classes)
      (subst (λ (bs : List Bool). TellsEach (map (loaded true) host.system ++ map (loaded false) (map class_in table)) bs
      (is_accepted (map (λ c. c.name) host.front ++ accepted_names contents all)))
      (sym (both_replicated (length host.system) (length host.front) (filter_map class_accepted all)))
      (subst (λ (bs : List Bool). TellsEach (map (loaded true) host.system ++ map (loaded false) (map class_in table)) (replicate (length host.system) true ++ bs)
      (is_accepted (map (λ c. c.name) host.front ++ accepted_names contents all))) own_flags
      (subst (λ (ns : List (List ℕ)). TellsEach (map (loaded true) host.system ++ map (loaded false) (map class_in table))
      (replicate (length host.system) true ++ map flag_in table) (is_accepted ns)) own_names told)))

pub judged_told :
    (library files : List (List ℕ)) (judged : Judged) (right : IsJudged library files judged) → IsNumbered judged.program.world
    → TellsEach judged.program.world
    (accepted_by (length (with_library right.given).system + length (with_library right.given).front) judged.verdicts) (is_class_accepted judged.program)
judged_told library files judged is numbered =
    let host = with_library is.given in
    let flags = accepted_by (length host.system + length host.front) judged.verdicts in
    subst (λ (ns : List (List ℕ)). TellsEach judged.program.world flags (is_accepted ns)) (sym is.accepted)
    (subst (λ (w : World). TellsEach w flags (is_accepted (map (λ c. c.name) host.front ++ accepted_names is.contents judged.verdicts))) (sym is.world)
    (accepted_told is.given is.contents judged.verdicts is.count is.verdict (subst IsNumbered is.world numbered)))

-- ---- verdict by verdict

found_next : {X Y : Type 0} (look : X → Option Y) (xs : List X) (k : ℕ) (x : X) → slice_get xs k ≡ Some x
    → filter_map look (take (suc k) xs) ≡ filter_map look (take k xs) ++ option_to_list (look x)
found_next {Y = Y} look [] zero x e = absurd cc
found_next {Y = Y} look [] (suc k) x e = absurd cc
found_next {Y = Y} look (y ∷ xs) zero x e = one (look y) ∙ ap (λ o. option_to_list o) (ap look (some_same y x e))
  where
    one : (o : Option Y) → cons_option o [] ≡ option_to_list o
    one None = refl
    one (Some z) = refl
found_next {Y = Y} look (y ∷ xs) (suc k) x e = by_look (look y) (found_next look xs k x e)
  where
    by_look : (o : Option Y) → filter_map look (take (suc k) xs) ≡ filter_map look (take k xs) ++ option_to_list (look x)
        → cons_option o (filter_map look (take (suc k) xs)) ≡ cons_option o (filter_map look (take k xs)) ++ option_to_list (look x)
    by_look None f = f
    by_look (Some z) f = ap (λ zs. z ∷ zs) f

pub accepted_next : (given : ℕ) (all : List Verdict) (k : ℕ) (v : Verdict)
    → slice_get all k ≡ Some v → accepted_by given (take (k + 1) all) ≡ accepted_by given (take k all) ++ option_to_list (class_accepted v)
accepted_next given all k v e =
    let more : k + 1 ≡ suc k = omega arith in
    ap (λ (n : ℕ). accepted_by given (take n all)) more
    ∙ ap (λ (bs : List Bool). replicate given true ++ bs) (found_next class_accepted all k v e)
    ∙ sym (append_assoc (replicate given true) (filter_map class_accepted (take k all)) (option_to_list (class_accepted v)))
