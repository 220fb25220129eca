-- The class of a file stands at its number.
use Rattle.std.proofs.Common.{◌≡◌, ℕ, zero, suc, ◌+◌, Bool, true, false, cond, not, ◌||◌, List, [], ◌∷◌, ◌++◌, map, length, take, Option, Some, None, refl, sym, ap, subst, ◌∙◌, append_assoc, append-nil, arith}
use Rattle.std.specs.Prelude.{IsTrue, slice_get, drop}
use Rattle.std.proofs.lemmas.List.{length-append}
use Rattle.jv_class.specs.Class.{Class}
use Rattle.jv_meaning_world.specs.FileContent.{FileContent}
use Rattle.jv_meaning_world.specs.declared.content.Content.TheVariants.{OtherVersion, NoClassFile, MoreThanProfile, Holds}
use Rattle.jv_meaning_world.specs.declared.verdict.LoadVerdict.{LoadVerdict}
use Rattle.jv_meaning_world.specs.declared.verdict.LoadVerdict.TheVariants.{Reserved, Duplicate, Circular, NoSuper, WrongKind, NoAccess, FinalBroken}
use Rattle.jv_meaning_world.specs.Above.{is_circular, superclasses}
use Rattle.jv_meaning_world.specs.World.{HostClasses, Loaded, World, loaded, is_reserved, has_class, with_class_of, joined_all, classes_in, world_of}
use Rattle.jv_meaning_world.specs.Verdicts.{verdict_of_class, verdict_behind, load_verdict, each_super, is_loadable, have_right_kind, can_name_supers, has_final_super, breaks_final}
use Rattle.jv_verify.specs.Inside.Numbered.{joins, next_number, number_behind}

-- ---- lists

joined_next : (classes : List Class) (files : List FileContent) (k : ℕ) (f : FileContent) → slice_get files k ≡ Some f → joined_all classes
    (take (suc k) files) ≡ with_class_of (joined_all classes (take k files)) f
joined_next classes [] zero f e = absurd cc
joined_next classes [] (suc k) f e = absurd cc
joined_next classes (x ∷ files) zero f e =
    let same : x ≡ f = cc in
    ap (with_class_of classes) same
joined_next classes (x ∷ files) (suc k) f e = joined_next (with_class_of classes x) files k f e

joined_parts : (classes : List Class) (files : List FileContent) (k : ℕ) → joined_all classes files ≡ joined_all (joined_all classes (take k files)) (drop k files)
joined_parts classes [] zero = refl
joined_parts classes [] (suc k) = refl
joined_parts classes (x ∷ files) zero = refl
joined_parts classes (x ∷ files) (suc k) = joined_parts (with_class_of classes x) files k

abbrev pub Grows : List Class → List Class → Type 0
Grows before after = (more : List Class) × (after ≡ before ++ more)

one_grows : (classes : List Class) (f : FileContent) → Grows classes (with_class_of classes f)
one_grows classes OtherVersion = ([], sym (append-nil classes))
one_grows classes NoClassFile = ([], sym (append-nil classes))
one_grows classes MoreThanProfile = ([], sym (append-nil classes))
one_grows classes (Holds class) = by_test (is_reserved class.name || has_class classes class.name)
  where
    by_test : (b : Bool) → Grows classes (cond b classes (classes ++ class ∷ []))
    by_test true = ([], sym (append-nil classes))
    by_test false = (class ∷ [], refl)

pub all_grow : (classes : List Class) (files : List FileContent) → Grows classes (joined_all classes files)
all_grow classes [] = ([], sym (append-nil classes))
all_grow classes (f ∷ files) =
    let one = one_grows classes f in
    let more = all_grow (with_class_of classes f) files in
    (one.0 ++ more.0, more.1 ∙ (ap (λ cs. cs ++ more.0) one.1 ∙ append_assoc classes one.0 more.0))

pub behind_system : (system : List Class) (guests : World) (n : ℕ) → slice_get (map (loaded true) system ++ guests) (length system + n) ≡ slice_get guests n
behind_system [] guests n =
    let plain : length {A = Class} [] + n ≡ n = omega arith in
    ap (slice_get guests) plain
behind_system (c ∷ system) guests n =
    let plain : length (c ∷ system) + n ≡ suc (length system + n) = omega arith in
    ap (slice_get (map (loaded true) (c ∷ system) ++ guests)) plain ∙ behind_system system guests n

at_end : (classes : List Class) (class : Class) (more : List Class) → slice_get (map (loaded false) ((classes ++ class ∷ []) ++ more)) (length classes) ≡ Some (loaded false class)
at_end [] class more = refl
at_end (c ∷ classes) class more = at_end classes class more

-- ---- which classes join

one_of_world : (world : World) (l : Loaded) → joins (verdict_of_class world l) ≡ true
one_of_world world l =
    by_tests (is_circular world l.class) (not (each_super world (is_loadable world) l.class)) (not (have_right_kind world l.class))
    (not (can_name_supers world l)) (has_final_super world l.class || breaks_final l [] (superclasses world l.class))
  where
    by_tests : (a b c d e : Bool) → joins (cond a (Some Circular) (cond b (Some NoSuper) (cond c (Some WrongKind) (cond d (Some NoAccess) (cond e (Some FinalBroken) None))))) ≡ true
    by_tests true b c d e = refl
    by_tests false true c d e = refl
    by_tests false false true d e = refl
    by_tests false false false true e = refl
    by_tests false false false false true = refl
    by_tests false false false false false = refl

class_joins : (host : HostClasses) (earlier : List FileContent) (world : World) (class : Class)
    → with_class_of (classes_in host earlier) (Holds class) ≡ cond (joins (verdict_behind host earlier world (Holds class))) (classes_in host earlier ++ class ∷ []) (classes_in host earlier)
class_joins host earlier world class =
    by_tests (is_reserved class.name) (has_class (classes_in host earlier) class.name) (verdict_of_class world (loaded false class)) (one_of_world world (loaded false class))
  where
    by_tests : (r h : Bool) (v : Option LoadVerdict) → joins v ≡ true
        → cond (r || h) (classes_in host earlier) (classes_in host earlier ++ class ∷ []) ≡ cond (joins (cond r (Some Reserved) (cond h (Some Duplicate) v)))
        (classes_in host earlier ++ class ∷ []) (classes_in host earlier)
    by_tests true h v e = refl
    by_tests false true v e = refl
    by_tests false false v e = ap (λ b. cond b (classes_in host earlier ++ class ∷ []) (classes_in host earlier)) (sym e)

one_more : (n : ℕ) (classes : List Class) (class : Class) (b : Bool) → n + length (cond b (classes ++ class ∷ []) classes) ≡ cond b ((n + length classes) + 1) (n + length classes)
one_more n classes class false = refl
one_more n classes class true =
    let more = length-append classes (class ∷ []) in
    omega (arith, more)

number_of : (host : HostClasses) (earlier : List FileContent) (world : World) (f : FileContent) → length host.system + length
    (with_class_of (classes_in host earlier) f) ≡ next_number (number_behind host earlier) (verdict_behind host earlier world f)
number_of host earlier world OtherVersion = refl
number_of host earlier world NoClassFile = refl
number_of host earlier world MoreThanProfile = refl
number_of host earlier world (Holds class) =
    ap (λ (cs : List Class). length host.system + length cs) (class_joins host earlier world class)
    ∙ one_more (length host.system) (classes_in host earlier) class (joins (verdict_behind host earlier world (Holds class)))

must_hold : (host : HostClasses) (earlier : List FileContent) (world : World) (f : FileContent) → IsTrue (joins (verdict_behind host earlier world f)) → (class : Class) × (f ≡ Holds class)
must_hold host earlier world OtherVersion h = absurd cc
must_hold host earlier world NoClassFile h = absurd cc
must_hold host earlier world MoreThanProfile h = absurd cc
must_hold host earlier world (Holds class) h = (class, refl)

-- ---- the file at a place

module _ (host : HostClasses) (contents : List FileContent) (k : ℕ) (f : FileContent) (at : slice_get contents k ≡ Some f) where
  verdict_is : load_verdict host contents k ≡ verdict_behind host (take k contents) (world_of host contents) f
  verdict_is = rw at refl

  pub next_behind : (why : Option LoadVerdict) → why ≡ load_verdict host contents k → number_behind host (take (suc k) contents) ≡ next_number (number_behind host (take k contents)) why
  next_behind why e =
      ap (λ (cs : List Class). length host.system + length cs) (joined_next host.front contents k f at)
      ∙ (number_of host (take k contents) (world_of host contents) f ∙ ap (next_number (number_behind host (take k contents))) (sym (e ∙ verdict_is)))

  pub stands : (why : Option LoadVerdict) → why ≡ load_verdict host contents k → IsTrue (joins why)
      → (class : Class) × (f ≡ Holds class) × (slice_get (world_of host contents) (number_behind host (take k contents)) ≡ Some (loaded false class))
  stands why e on =
      let is : why ≡ verdict_behind host (take k contents) (world_of host contents) f = e ∙ verdict_is in
      let on_f : IsTrue (joins (verdict_behind host (take k contents) (world_of host contents) f)) = subst (λ w. IsTrue (joins w)) is on in
      let held = must_hold host (take k contents) (world_of host contents) f on_f in
      let on_class : joins (verdict_behind host (take k contents) (world_of host contents) (Holds held.0)) ≡ true =
      subst (λ g. joins (verdict_behind host (take k contents) (world_of host contents) g) ≡ true) held.1 on_f in
      let here : joined_all host.front (take (suc k) contents) ≡ classes_in host (take k contents) ++ held.0 ∷ [] =
      joined_next host.front contents k f at ∙ (ap (with_class_of (classes_in host (take k contents))) held.1
      ∙ (class_joins host (take k contents) (world_of host contents) held.0 ∙ ap (λ b. cond b (classes_in host (take k contents) ++ held.0 ∷ []) (classes_in host (take k contents))) on_class)) in
      let more = all_grow (joined_all host.front (take (suc k) contents)) (drop (suc k) contents) in
      let all : classes_in host contents ≡ (classes_in host (take k contents) ++ held.0 ∷ []) ++ more.0 =
      joined_parts host.front contents (suc k) ∙ (more.1 ∙ ap (λ (cs : List Class). cs ++ more.0) here) in (
        held.0,
        held.1,
        behind_system host.system (map (loaded false) (classes_in host contents)) (length (classes_in host (take k contents)))
            ∙ (ap (λ (cs : List Class). slice_get (map (loaded false) cs) (length (classes_in host (take k contents)))) all
            ∙ at_end (classes_in host (take k contents)) held.0 more.0),
      )
