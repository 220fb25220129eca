-- The program of a judged guest is sound.
use Rattle.std.proofs.Common.{◌≡◌, ◌⊎◌, inl, inr, ℕ, zero, suc, Bool, true, false, not, ◌&&◌, ◌||◌, List, [], ◌∷◌, ◌++◌, map, length, take, Option, Some, None, refl, sym, ap, subst, ◌∙◌}
use Rattle.std.specs.Prelude.{IsTrue, slice_get, if◌then◌else◌}
use Rattle.std.specs.List.{Contains, list_any, list_all}
use Rattle.std.specs.Str.{bytes_eq}
use Rattle.std.proofs.lemmas.Bool.{and_from, or_left}
use Rattle.std.proofs.lemmas.List.Elements.{All-contains, Contains-append_left, Contains-append_right, Contains-append_cases}
use Rattle.std.proofs.lemmas.Slice.Eq.{bytes_eq-Decides}
use Rattle.jv_class.specs.Class.{Class}
use Rattle.jv_meaning_world.specs.FileContent.{FileContent}
use Rattle.jv_meaning_world.specs.declared.content.Content.TheVariants.{OtherVersion, NoClassFile, MoreThanProfile, Holds}
use Rattle.jv_meaning_world.specs.declared.verdict.LoadVerdict.{LoadVerdict}
use Rattle.jv_meaning_world.specs.declared.verdict.LoadVerdict.TheVariants.{Reserved, Duplicate, Circular, NoSuper, WrongKind, NoAccess, FinalBroken}
use Rattle.jv_meaning_world.specs.World.{HostClasses, Loaded, World, loaded, class_named, is_reserved, has_class, with_class_of, joined_all, classes_in, world_of}
use Rattle.jv_meaning_world.specs.Above.{supers_in, super_names, above, is_circular, superclasses}
use Rattle.jv_meaning_world.specs.Laws.Above.{SystemStandsAlone, IsWayUp, stands_itself}
use Rattle.jv_meaning_world.specs.Verdicts.{passes, each_super, have_right_kind, can_name_supers, has_final_super, breaks_final, is_loadable, is_loadable_within, verdict_of_class, verdict_behind, load_verdict}
use Rattle.jv_meaning_world.proofs.Up.{none, single, first, later, same_name, named_stands, found_super, above_by_ways}
use Rattle.jv_meaning_world.proofs.Standing.{loadable_by_all}
use Rattle.jv_meaning_world.specs.Library.{front_of, system_with, with_class_more, with_library}
use Rattle.jv_meaning_world.proofs.Libraries.{not_of_system, system_reserved}
use Rattle.jv_meaning_world.proofs.OrderChains.{all_at}
use Rattle.jv_meaning_world.specs.Laws.Order.{IsRooted, leads_to, has_right_supers, object_name}
use Rattle.jv_meaning_typing.specs.declared.verdict.Verdict.{Verdict}
use Rattle.jv_meaning_typing.specs.declared.verdict.Verdict.TheVariants.{Accepted, Refused, Verify}
use Rattle.jv_meaning_typing.specs.Judgement.{AreTyped, IsVerdictBehind, IsVerdictOfClass, IsVerdictOfContent}
use Rattle.jv_meaning_machine.specs.State.{is_class_accepted}
use Rattle.jv_meaning_machine.specs.Alone.{Judged, IsJudged, Stands, accepted_names}
use Rattle.jv_meaning_machine.proofs.Rooting.{judged_is_rooted}
use Rattle.jv_sound.specs.Sound.{IsSound}
use Rattle.jv_sound.proofs.Logic.{clash}
use Rattle.jv_sound.proofs.Taking.{and_parts}

-- ---- names differ

found_left : (xs ys : World) (name : List ℕ) (l : Loaded) → class_named xs name ≡ Some l → class_named (xs ++ ys) name ≡ Some l
found_left [] ys name l e = absurd cc
found_left (x ∷ xs) ys name l e = by_test (bytes_eq x.class.name name) e (λ k. found_left xs ys name l k)
  where
    by_test : (b : Bool) → (if b then Some x else class_named xs name) ≡ Some l
        → (class_named xs name ≡ Some l → class_named (xs ++ ys) name ≡ Some l)
        → (if b then Some x else class_named (xs ++ ys) name) ≡ Some l
    by_test true k again = k
    by_test false k again = again k

or_parts : (a b : Bool) → (a || b) ≡ false → (a ≡ false) × (b ≡ false)
or_parts false b e = (refl, e)
or_parts true b e = absurd (clash (sym e))

passed_all : (by_system : Bool) (cs : List Class) (more : World) (name : List ℕ) → has_class cs name ≡ false
    → class_named (map (loaded by_system) cs ++ more) name ≡ class_named more name
passed_all by_system [] more name e = refl
passed_all by_system (c ∷ cs) more name e =
    let parts = or_parts (bytes_eq c.name name) (has_class cs name) e in
    ap (λ (b : Bool). if b then Some (loaded by_system c) else class_named
    (map (loaded by_system) cs ++ more) name) parts.0 ∙ passed_all by_system cs more name parts.1

itself_named : (by_system : Bool) (c : Class) (more : World) → class_named (loaded by_system c ∷ more) c.name ≡ Some (loaded by_system c)
itself_named by_system c more = ap (λ (b : Bool). if b then Some (loaded by_system c) else class_named more c.name)
    ((bytes_eq-Decides c.name c.name).1 refl)

abbrev AreNamed : Bool → List Class → Type 0
AreNamed by_system cs = (c : Class) → Contains cs c → class_named (map (loaded by_system) cs) c.name ≡ Some (loaded by_system c)

abbrev differ : List Class → Bool
differ [] = true
differ (c ∷ cs) = not (has_class cs c.name) && differ cs

not_true : (b : Bool) → not b ≡ true → b ≡ false
not_true false e = refl
not_true true e = absurd (clash e)

not_among : (cs : List Class) (name : List ℕ) (c : Class) → has_class cs name ≡ false → Contains cs c → bytes_eq c.name name ≡ false
not_among [] name c e h = absurd (none c h)
not_among (x ∷ cs) name c e h =
    let parts = or_parts (bytes_eq x.name name) (has_class cs name) e in
    by_part parts.0 (λ k. not_among cs name c parts.1 k) (Contains-append_cases (x ∷ []) cs c h)
  where
    by_part : bytes_eq x.name name ≡ false → (Contains cs c → bytes_eq c.name name ≡ false) → Contains (x ∷ []) c ⊎ Contains cs c
        → bytes_eq c.name name ≡ false
    by_part here again (inl k) = subst (λ (y : Class). bytes_eq y.name name ≡ false) (single x c k) here
    by_part here again (inr k) = again k

turned : (a b : List ℕ) → bytes_eq a b ≡ false → bytes_eq b a ≡ false
turned a b e = by_test (bytes_eq b a) refl
  where
    by_test : (t : Bool) → bytes_eq b a ≡ t → t ≡ false
    by_test false k = refl
    by_test true k = absurd (clash (sym e ∙ (bytes_eq-Decides a b).1 (sym (same_name b a k))))

differ_named : (by_system : Bool) (cs : List Class) → differ cs ≡ true → AreNamed by_system cs
differ_named by_system [] e c h = absurd (none c h)
differ_named by_system (x ∷ cs) e c h =
    let parts = and_parts (not (has_class cs x.name)) (differ cs) e in
    by_part parts.0 (λ k. differ_named by_system cs parts.1 c k) (Contains-append_cases (x ∷ []) cs c h)
  where
    by_part : not (has_class cs x.name) ≡ true → (Contains cs c → class_named (map (loaded by_system) cs) c.name ≡ Some
        (loaded by_system c)) → Contains (x ∷ []) c ⊎ Contains cs c
        → class_named (map (loaded by_system) (x ∷ cs)) c.name ≡ Some (loaded by_system c)
    by_part new again (inl k) = subst (λ (y : Class). class_named (map (loaded by_system) (x ∷ cs)) y.name ≡ Some (loaded by_system y))
        (single x c k) (itself_named by_system x (map (loaded by_system) cs))
    by_part new again (inr k) =
        ap (λ (b : Bool). if b then Some (loaded by_system x) else class_named (map (loaded by_system) cs) c.name)
        (turned c.name x.name (not_among cs x.name c (not_true (has_class cs x.name) new) k))
        ∙ again k

map_end : (by_system : Bool) (cs ds : List Class) → map (loaded by_system) (cs ++ ds) ≡ map (loaded by_system) cs ++ map
    (loaded by_system) ds
map_end by_system [] ds = refl
map_end by_system (c ∷ cs) ds = ap (λ (ls : World). loaded by_system c ∷ ls) (map_end by_system cs ds)

-- classes behind those of the system: each has its own name, which none of these has
record AreOwn (system cs : List Class) : Type 0 where
  named : AreNamed false cs
  free : (c : Class) → Contains cs c → has_class system c.name ≡ false

no_classes : (system : List Class) → AreOwn system []
no_classes system = record { named = λ c h. absurd (none c h); free = λ c h. absurd (none c h) }

one_more : (system cs : List Class) (c : Class) → AreOwn system cs → has_class system c.name ≡ false → has_class cs c.name ≡ false
    → AreOwn system (cs ++ c ∷ [])
one_more system cs c own free new = record {
  named = λ x h. named x (Contains-append_cases cs (c ∷ []) x h);
  free = λ x h. unreserved x
      (Contains-append_cases cs (c ∷ []) x h);
}
  where
    named : (x : Class) → Contains cs x ⊎ Contains (c ∷ []) x → class_named (map (loaded false) (cs ++ c ∷ [])) x.name ≡ Some
        (loaded false x)
    named x (inl k) = ap (λ (w : World). class_named w x.name) (map_end false cs (c ∷ [])) ∙ found_left (map (loaded false) cs)
        (loaded false c ∷ []) x.name (loaded false x) (own.named x k)
    named x (inr k) =
        subst (λ (y : Class). class_named (map (loaded false) (cs ++ c ∷ [])) y.name ≡ Some (loaded false y)) (single c x k)
        (ap (λ (w : World). class_named w c.name) (map_end false cs (c ∷ [])) ∙
        (passed_all false cs (loaded false c ∷ []) c.name new ∙ itself_named false c []))

    unreserved : (x : Class) → Contains cs x ⊎ Contains (c ∷ []) x → has_class system x.name ≡ false
    unreserved x (inl k) = own.free x k
    unreserved x (inr k) = subst (λ (y : Class). has_class system y.name ≡ false) (single c x k) free

system_differ : (library : List Class) → differ (system_with library) ≡ true
system_differ [] = refl
system_differ (c ∷ more) = refl

module _ (library : List Class) where
  abbrev AreBehind : List Class → Type 0
  AreBehind cs = AreOwn (system_with library) cs

  with_one : (cs : List Class) (f : FileContent) → AreBehind cs → AreBehind (with_class_of cs f)
  with_one cs OtherVersion own = own
  with_one cs NoClassFile own = own
  with_one cs MoreThanProfile own = own
  with_one cs (Holds c) own = by_test (is_reserved c.name) (has_class cs c.name) refl refl
    where
      by_test : (a b : Bool) → is_reserved c.name ≡ a → has_class cs c.name ≡ b → AreBehind (if a || b then cs else cs ++ c ∷ [])
      by_test true b e k = own
      by_test false true e k = own
      by_test false false e k =
          one_more (system_with library) cs c own (not_of_system (system_with library) c.name (system_reserved library) e) k

  all_own : (cs : List Class) (files : List FileContent) → AreBehind cs → AreBehind (joined_all cs files)
  all_own cs [] own = own
  all_own cs (f ∷ files) own = all_own (with_class_of cs f) files (with_one cs f own)

  one_front : (cs : List Class) (c : Class) → AreBehind cs → AreBehind (with_class_more library cs c)
  one_front cs c own = by_test (has_class (system_with library) c.name) (has_class cs c.name) refl refl
    where
      by_test : (a b : Bool) → has_class (system_with library) c.name ≡ a → has_class cs c.name ≡ b → AreBehind (if a || b then cs else cs ++ c ∷ [])
      by_test true b e k = own
      by_test false true e k = own
      by_test false false e k = one_more (system_with library) cs c own e k

  all_front : (cs classes : List Class) → AreBehind cs → AreBehind (front_of library cs classes)
  all_front cs [] own = own
  all_front cs (c ∷ classes) own = all_front (with_class_more library cs c) classes (one_front cs c own)

  all_behind : (contents : List FileContent) → AreBehind (classes_in (with_library library) contents)
  all_behind contents = all_own (with_library library).front contents (all_front [] library (no_classes (system_with library)))

pub in_mapped : (by_system : Bool) (classes : List Class) (l : Loaded) → Contains (map (loaded by_system) classes) l
    → (c : Class) × Contains classes c × (loaded by_system c ≡ l)
in_mapped by_system [] l h = absurd (none l h)
in_mapped by_system (c ∷ classes) l h = by_part (λ k. in_mapped by_system classes l k)
    (Contains-append_cases (loaded by_system c ∷ []) (map (loaded by_system) classes) l h)
  where
    by_part : (Contains (map (loaded by_system) classes) l → (x : Class) × Contains classes x × (loaded by_system x ≡ l))
        → Contains (loaded by_system c ∷ []) l ⊎ Contains (map (loaded by_system) classes) l
        → (x : Class) × Contains (c ∷ classes) x × (loaded by_system x ≡ l)
    by_part again (inl k) = (c, first c classes, single (loaded by_system c) l k)
    by_part again (inr k) = let found = again k in (found.0, later c classes found.0 found.1, found.2)

to_mapped : (by_system : Bool) (classes : List Class) (c : Class) → Contains classes c
    → Contains (map (loaded by_system) classes) (loaded by_system c)
to_mapped by_system [] c h = absurd (none c h)
to_mapped by_system (x ∷ classes) c h = by_part (Contains-append_cases (x ∷ []) classes c h) (λ k. to_mapped by_system classes c k)
  where
    by_part : Contains (x ∷ []) c ⊎ Contains classes c → (Contains classes c
        → Contains (map (loaded by_system) classes) (loaded by_system c))
        → Contains (map (loaded by_system) (x ∷ classes)) (loaded by_system c)
    by_part (inl k) again = subst (λ (y : Class). Contains (map (loaded by_system) (x ∷ classes)) (loaded by_system y)) (single x c k)
        (first (loaded by_system x) (map (loaded by_system) classes))
    by_part (inr k) again = later (loaded by_system x) (map (loaded by_system) classes) (loaded by_system c) (again k)

pub world_is_named : (library : List Class) (contents : List FileContent) (l : Loaded) → Contains (world_of (with_library library) contents) l
    → class_named (world_of (with_library library) contents) l.class.name ≡ Some l
world_is_named library contents l h = by_loader (Contains-append_cases (map (loaded true) system) (map (loaded false) behind) l h)
  where
    system : List Class
    system = system_with library

    behind : List Class
    behind = classes_in (with_library library) contents

    own : AreOwn system behind
    own = all_behind library contents

    by_loader : Contains (map (loaded true) system) l ⊎ Contains (map (loaded false) behind) l
        → class_named (map (loaded true) system ++ map (loaded false) behind) l.class.name ≡ Some l
    by_loader (inl k) =
        let c = in_mapped true system l k in
        subst (λ (x : Loaded). class_named (map (loaded true) system ++ map (loaded false) behind) x.class.name ≡ Some x) c.2
        (found_left (map (loaded true) system) (map (loaded false) behind) c.0.name (loaded true c.0)
        (differ_named true system (system_differ library) c.0 c.1))
    by_loader (inr k) =
        let c = in_mapped false behind l k in
        subst (λ (x : Loaded). class_named (map (loaded true) system ++ map (loaded false) behind) x.class.name ≡ Some x) c.2
        (passed_all true system (map (loaded false) behind) c.0.name (own.free c.0 c.1) ∙ own.named c.0 c.1)

-- ---- what is accepted

record IsAcceptedFile (contents : List FileContent) (verdicts : List Verdict) (name : List ℕ) : Type 0 where
  place : ℕ
  class : Class
  held : slice_get contents place ≡ Some (Holds class)
  accepted : slice_get verdicts place ≡ Some Accepted
  named : class.name ≡ name

next_file : (f : FileContent) (v : Verdict) (contents : List FileContent) (verdicts : List Verdict) (name : List ℕ)
    → IsAcceptedFile contents verdicts name → IsAcceptedFile (f ∷ contents) (v ∷ verdicts) name
next_file f v contents verdicts name h = record {
  place = suc h.place;
  class = h.class;
  held = h.held;
  accepted = h.accepted;
  named =
      h.named;
}

accepted_file : (contents : List FileContent) (verdicts : List Verdict) (name : List ℕ)
    → list_any (bytes_eq name) (accepted_names contents verdicts) ≡ true → IsAcceptedFile contents verdicts name
accepted_file [] [] name e = absurd (clash e)
accepted_file [] (v ∷ verdicts) name e = absurd (clash e)
accepted_file (f ∷ contents) [] name e = absurd (clash e)
accepted_file (Holds class ∷ contents) (Accepted ∷ verdicts) name e = by_test (bytes_eq name class.name) refl e
    (λ k. accepted_file contents verdicts name k)
  where
    by_test : (b : Bool) → bytes_eq name class.name ≡ b → (b || list_any (bytes_eq name) (accepted_names contents verdicts)) ≡ true
        → (list_any (bytes_eq name) (accepted_names contents verdicts) ≡ true → IsAcceptedFile contents verdicts name)
        → IsAcceptedFile (Holds class ∷ contents) (Accepted ∷ verdicts) name
    by_test true t k again = record { place = 0; class = class; held = refl; accepted = refl; named = sym (same_name name class.name t) }
    by_test false t k again = next_file (Holds class) Accepted contents verdicts name (again k)
accepted_file (Holds class ∷ contents) (Refused why ∷ verdicts) name e = next_file (Holds class) (Refused why) contents verdicts name
    (accepted_file contents verdicts name e)
accepted_file (Holds class ∷ contents) (Verify fault ∷ verdicts) name e = next_file (Holds class) (Verify fault) contents verdicts name
    (accepted_file contents verdicts name e)
accepted_file (OtherVersion ∷ contents) (v ∷ verdicts) name e = next_file OtherVersion v contents verdicts name
    (accepted_file contents verdicts name e)
accepted_file (NoClassFile ∷ contents) (v ∷ verdicts) name e = next_file NoClassFile v contents verdicts name
    (accepted_file contents verdicts name e)
accepted_file (MoreThanProfile ∷ contents) (v ∷ verdicts) name e = next_file MoreThanProfile v contents verdicts name
    (accepted_file contents verdicts name e)

-- a class joins at its file
stays_one : (cs : List Class) (f : FileContent) (c : Class) → Contains cs c → Contains (with_class_of cs f) c
stays_one cs OtherVersion c h = h
stays_one cs NoClassFile c h = h
stays_one cs MoreThanProfile c h = h
stays_one cs (Holds x) c h = by_test (is_reserved x.name || has_class cs x.name)
  where
    by_test : (b : Bool) → Contains (if b then cs else cs ++ x ∷ []) c
    by_test true = h
    by_test false = Contains-append_left cs (x ∷ []) c h

stays : (cs : List Class) (files : List FileContent) (c : Class) → Contains cs c → Contains (joined_all cs files) c
stays cs [] c h = h
stays cs (f ∷ files) c h = stays (with_class_of cs f) files c (stays_one cs f c h)

joins : (cs : List Class) (files : List FileContent) (place : ℕ) (c : Class) → slice_get files place ≡ Some (Holds c)
    → is_reserved c.name ≡ false → has_class (joined_all cs (take place files)) c.name ≡ false → Contains (joined_all cs files) c
joins cs [] place c e free new = absurd cc
joins cs (f ∷ files) zero c e free new =
    let same : f ≡ Holds c = cc in
    subst (λ (x : FileContent). Contains (joined_all (with_class_of cs x) files) c) (sym same)
    (stays (with_class_of cs (Holds c)) files c (subst (λ (b : Bool). Contains (if b then cs else cs ++ c ∷ []) c)
    (sym (ap (λ (b : Bool). b || has_class cs c.name) free ∙ new)) (Contains-append_right cs (c ∷ []) c (first c []))))
joins cs (f ∷ files) (suc place) c e free new = joins (with_class_of cs f) files place c e free new

-- where the load verdict is none
record IsPlain (host : HostClasses) (earlier : List FileContent) (world : World) (c : Class) : Type 0 where
  free : is_reserved c.name ≡ false
  new : has_class (classes_in host earlier) c.name ≡ false
  plain : verdict_of_class world (loaded false c) ≡ None

plain_behind : (host : HostClasses) (earlier : List FileContent) (world : World) (c : Class)
    → verdict_behind host earlier world (Holds c) ≡ None → IsPlain host earlier world c
plain_behind host earlier world c e = by_test (is_reserved c.name) (has_class (classes_in host earlier) c.name) refl refl e
  where
    by_test : (a b : Bool) → is_reserved c.name ≡ a → has_class (classes_in host earlier) c.name ≡ b
        → (if a then Some Reserved else if b then Some Duplicate else verdict_of_class world (loaded false c)) ≡ None
        → IsPlain host earlier world c
    by_test true b r d k = absurd cc
    by_test false true r d k = absurd cc
    by_test false false r d k = record { free = r; new = d; plain = k }

accepted_plain : (world : World) (l : Loaded) (why : Option LoadVerdict) → IsVerdictBehind world l why Accepted
    → (why ≡ None) × AreTyped world l l.class.methods
accepted_plain world l None h = (refl, h)
accepted_plain world l (Some why) h = absurd (unlike h)
  where
    unlike : Accepted ≡ Refused why → ⊥
    unlike k = cc

-- ---- loadable

record AreRight (world : World) (l : Loaded) : Type 0 where
  circle : is_circular world l.class ≡ false
  supers : each_super world (is_loadable world) l.class ≡ true
  kinds : have_right_kind world l.class ≡ true
  names : can_name_supers world l ≡ true

are_right : (world : World) (l : Loaded) → verdict_of_class world l ≡ None → AreRight world l
are_right world l e = by_tests (is_circular world l.class) (each_super world (is_loadable world) l.class) (have_right_kind world l.class)
    (can_name_supers world l) refl refl refl refl e
  where
    by_tests : (a b c d : Bool) → is_circular world l.class ≡ a → each_super world (is_loadable world) l.class ≡ b
        → have_right_kind world l.class ≡ c → can_name_supers world l ≡ d
        → (if a then Some Circular else if not b then Some NoSuper else if not c then Some WrongKind else if not d then Some NoAccess else
        if has_final_super world l.class || breaks_final l [] (superclasses world l.class) then Some FinalBroken else None) ≡ None
        → AreRight world l
    by_tests true b c d ea eb ec ed k = absurd cc
    by_tests false false c d ea eb ec ed k = absurd cc
    by_tests false true false d ea eb ec ed k = absurd cc
    by_tests false true true false ea eb ec ed k = absurd cc
    by_tests false true true true ea eb ec ed k = record { circle = ea; supers = eb; kinds = ec; names = ed }

pub all_weaker : {A : Type 0} (p q : A → Bool) (xs : List A) → ((x : A) → p x ≡ true → q x ≡ true) → list_all p xs ≡ true
    → list_all q xs ≡ true
all_weaker p q [] f h = refl
all_weaker p q (x ∷ xs) f h = let parts = and_parts (p x) (list_all p xs) h in and_from (q x) (list_all q xs) (f x parts.0)
    (all_weaker p q xs f parts.1)

loadable_there : (world : World) (o : Option Loaded) → passes (is_loadable world) o ≡ true → passes (λ (s : Loaded). true) o ≡ true
loadable_there world None h = absurd (clash h)
loadable_there world (Some s) h = refl

right_loadable : (world : World) (alone : SystemStandsAlone world) (l : Loaded) → Contains world l → AreRight world l
    → is_loadable world l ≡ true
right_loadable world alone l here r = (loadable_by_all world l alone here).1 (stands, λ s h. above_stand s h)
  where
    stands : stands_itself world l ≡ true
    stands = Rattle.std.proofs.lemmas.Bool.or_right l.by_system _
        (and_from (not (is_circular world l.class) && each_super world (λ s. true) l.class && have_right_kind world l.class)
        (can_name_supers world l)
        (and_from (not (is_circular world l.class) && each_super world (λ s. true) l.class) (have_right_kind world l.class)
        (and_from (not (is_circular world l.class)) (each_super world (λ s. true) l.class) (ap not r.circle)
        (all_weaker (λ (name : List ℕ). passes (is_loadable world) (class_named world name))
        (λ (name : List ℕ). passes (λ (s : Loaded). true) (class_named world name)) (super_names l.class)
        (λ name k. loadable_there world (class_named world name) k) r.supers))
        r.kinds) r.names)

    direct : (s : Loaded) → Contains (supers_in world l.class) s
        → IsTrue (stands_itself world s) × ((t : Loaded) → Contains (above world s.class) t → IsTrue (stands_itself world t))
    direct s h =
        let found = found_super world l.class s h in
        (loadable_by_all world s alone (named_stands world found.0 s found.2)).0
        (subst (λ (o : Option Loaded). passes (is_loadable world) o ≡ true) found.2
        (all_at (λ (name : List ℕ). passes (is_loadable world) (class_named world name))
        (super_names l.class) found.0 r.supers found.1))

    by_way : (s : Loaded) → (between : List Loaded) → IsWayUp world l.class between s → stands_itself world s ≡ true
    by_way s [] w = (direct s w).0
    by_way s (by ∷ more) w = (direct by w.0).1 s ((above_by_ways world by.class s).1 (more, w.1))

    above_stand : (s : Loaded) → Contains (above world l.class) s → stands_itself world s ≡ true
    above_stand s h = let w = (above_by_ways world l.class s).0 h in by_way s w.0 w.1

pub system_loadable : (world : World) (l : Loaded) → l.by_system ≡ true → is_loadable world l ≡ true
system_loadable world l e = by_number (length world)
  where
    by_number : (n : ℕ) → is_loadable_within world n l ≡ true
    by_number zero = e
    by_number (suc n) = or_left l.by_system _ e

-- ---- the system stands alone

stands_alone : (world : World) → IsRooted world → SystemStandsAlone world
stands_alone world rooted l s here by h =
    let both = and_parts (leads_to world object_name l) (has_right_supers world l.class) (rooted.system l here by) in
    let each = and_parts (each_super world (λ (s : Loaded). s.by_system) l.class) (have_right_kind world l.class) both.1 in
    let found = found_super world l.class s h in
    subst (λ (o : Option Loaded). passes (λ (s : Loaded). s.by_system) o ≡ true) found.2
    (all_at (λ (name : List ℕ). passes (λ (s : Loaded). s.by_system) (class_named world name)) (super_names l.class) found.0 each.0 found.1)

-- ---- the whole

-- a name is among those in front, or among the others
among_parts : (name : List ℕ) (front own : List (List ℕ)) → list_any (bytes_eq name) (front ++ own) ≡ true
    → (list_any (bytes_eq name) front ≡ true) ⊎ (list_any (bytes_eq name) own ≡ true)
among_parts name [] own e = inr e
among_parts name (x ∷ front) own e = by_test (bytes_eq name x) refl e (λ k. among_parts name front own k)
  where
    by_test : (b : Bool) → bytes_eq name x ≡ b → (b || list_any (bytes_eq name) (front ++ own)) ≡ true
        → (list_any (bytes_eq name) (front ++ own) ≡ true → (list_any (bytes_eq name) front ≡ true) ⊎ (list_any (bytes_eq name) own ≡ true))
        → (list_any (bytes_eq name) (x ∷ front) ≡ true) ⊎ (list_any (bytes_eq name) own ≡ true)
    by_test true t k again = inl (ap (λ (b : Bool). b || list_any (bytes_eq name) front) t)
    by_test false t k again = elim (again k) [
      | inl h ↦ inl (ap (λ (b : Bool). b || list_any (bytes_eq name) front) t ∙ h)
      | inr h ↦ inr h
    ]

front_named : (name : List ℕ) (front : List Class) → list_any (bytes_eq name) (map (λ c. c.name) front) ≡ true
    → (c : Class) × Contains front c × (c.name ≡ name)
front_named name [] e = absurd (clash e)
front_named name (x ∷ front) e = by_test (bytes_eq name x.name) refl e (λ k. front_named name front k)
  where
    by_test : (b : Bool) → bytes_eq name x.name ≡ b → (b || list_any (bytes_eq name) (map (λ c. c.name) front)) ≡ true
        → (list_any (bytes_eq name) (map (λ c. c.name) front) ≡ true → (c : Class) × Contains front c × (c.name ≡ name))
        → (c : Class) × Contains (x ∷ front) c × (c.name ≡ name)
    by_test true t k again = (x, first x front, sym (same_name name x.name t))
    by_test false t k again = let found = again k in (found.0, later x front found.0 found.1, found.2)

module _ (library files : List (List ℕ)) (judged : Judged) (right : IsJudged library files judged)
    (stands : Stands judged.program.world (with_library right.given)) where
  abbrev host : HostClasses
  host = with_library right.given

  abbrev whole : World
  whole = world_of host right.contents

  rooted_whole : IsRooted judged.program.world
  rooted_whole = judged_is_rooted library files judged right

  named_all : (l : Loaded) → Contains judged.program.world l → class_named judged.program.world l.class.name ≡ Some l
  named_all = subst (λ (w : World). (l : Loaded) → Contains w l → class_named w l.class.name ≡ Some l) (sym right.world)
      (world_is_named right.given right.contents)

  record IsGoodClass (l : Loaded) : Type 0 where
    typed : AreTyped judged.program.world l l.class.methods
    loadable : IsTrue (is_loadable judged.program.world l)

  one_some : (a b : Loaded) → Some a ≡ Some b → a ≡ b
  one_some a b e = cc

  -- a class behind the system's is the one of its name
  behind_is : (c : Class) (l : Loaded) → Contains (classes_in host right.contents) c → Contains judged.program.world l → c.name ≡ l.class.name
      → loaded false c ≡ l
  behind_is c l there here same =
      let there_too : Contains judged.program.world (loaded false c) = subst (λ (w : World). Contains w (loaded false c)) (sym right.world)
      (Contains-append_right (map (loaded true) host.system) (map (loaded false) (classes_in host right.contents)) (loaded false c)
      (to_mapped false (classes_in host right.contents) c there)) in
      one_some (loaded false c) l (sym (named_all (loaded false c) there_too) ∙ (ap (class_named judged.program.world) same ∙ named_all l here))

  front_good : (l : Loaded) → Contains judged.program.world l → (c : Class) → Contains host.front c → c.name ≡ l.class.name → IsGoodClass l
  front_good l here c h named =
      let same = behind_is c l (stays host.front right.contents c h) here named in
      let verdict : IsVerdictOfClass judged.program.world (loaded false c) Accepted =
      All-contains (λ (x : Class). IsVerdictOfClass judged.program.world (loaded false x) Accepted) host.front c stands.front h in
      let plain = accepted_plain judged.program.world (loaded false c) (verdict_of_class judged.program.world (loaded false c)) verdict in
      let here_too : Contains judged.program.world (loaded false c) = subst (λ (x : Loaded). Contains judged.program.world x) (sym same) here in
      subst IsGoodClass same (record {
        typed = plain.1;
        loadable = right_loadable judged.program.world (stands_alone judged.program.world rooted_whole) (loaded false c) here_too
            (are_right judged.program.world (loaded false c) plain.0);
      })

  guest_good : (l : Loaded) → Contains judged.program.world l → IsAcceptedFile right.contents judged.verdicts l.class.name → IsGoodClass l
  guest_good l here h = good
    where
      verdict : IsVerdictBehind whole (loaded false h.class) (load_verdict host right.contents h.place) Accepted
      verdict = subst (λ (o : Option FileContent). IsVerdictOfContent whole
          (load_verdict host right.contents h.place) o Accepted) h.held (right.verdict h.place Accepted h.accepted)

      plain : (load_verdict host right.contents h.place ≡ None) × AreTyped whole (loaded false h.class) h.class.methods
      plain = accepted_plain whole (loaded false h.class) (load_verdict host right.contents h.place) verdict

      is_plain : IsPlain host (take h.place right.contents) whole h.class
      is_plain = plain_behind host (take h.place right.contents) whole h.class
          (sym (ap (Rattle.jv_meaning_world.specs.Verdicts.verdict_at host right.contents h.place) h.held) ∙
          plain.0)

      there : Contains (classes_in host right.contents) h.class
      there = joins host.front right.contents h.place h.class h.held is_plain.free is_plain.new

      same : loaded false h.class ≡ l
      same = behind_is h.class l there here h.named

      here_too : Contains judged.program.world (loaded false h.class)
      here_too = subst (λ (x : Loaded). Contains judged.program.world x) (sym same) here

      good : IsGoodClass l
      good = subst IsGoodClass same (record {
        typed = subst (λ (w : World). AreTyped w (loaded false h.class) h.class.methods) (sym right.world) plain.1;
        loadable = right_loadable judged.program.world (stands_alone judged.program.world rooted_whole) (loaded false h.class) here_too
            (are_right judged.program.world (loaded false h.class)
            (subst (λ (w : World). verdict_of_class w (loaded false h.class) ≡ None) (sym right.world) is_plain.plain));
      })

  system_verdict : (l : Loaded) → Contains judged.program.world l → l.by_system ≡ true → IsVerdictOfClass judged.program.world l Accepted
  system_verdict l here by = by_loader (Contains-append_cases (map (loaded true) host.system) (map (loaded false) (classes_in host right.contents)) l
      (subst (λ (w : World). Contains w l) right.world here))
    where
      by_loader : Contains (map (loaded true) host.system) l ⊎ Contains (map (loaded false) (classes_in host right.contents)) l
          → IsVerdictOfClass judged.program.world l Accepted
      by_loader (inl k) =
          let c = in_mapped true host.system l k in
          subst (λ (x : Loaded). IsVerdictOfClass judged.program.world x Accepted) c.2
          (All-contains (λ (x : Class). IsVerdictOfClass judged.program.world (loaded true x) Accepted) host.system c.0 stands.system c.1)
      by_loader (inr k) =
          let c = in_mapped false (classes_in host right.contents) l k in
          absurd (clash (ap (λ (x : Loaded). x.by_system) c.2 ∙ by))

  system_good : (l : Loaded) → Contains judged.program.world l → l.by_system ≡ true → IsGoodClass l
  system_good l here by = record {
    typed = (accepted_plain judged.program.world l (verdict_of_class judged.program.world l) (system_verdict l here by)).1;
    loadable = system_loadable judged.program.world l by;
  }

  own_good : (l : Loaded) → Contains judged.program.world l
      → (list_any (bytes_eq l.class.name) (map (λ c. c.name) host.front) ≡ true)
      ⊎ (list_any (bytes_eq l.class.name) (accepted_names right.contents judged.verdicts) ≡ true) → IsGoodClass l
  own_good l here (inl h) = let c = front_named l.class.name host.front h in front_good l here c.0 c.1 c.2
  own_good l here (inr h) = guest_good l here (accepted_file right.contents judged.verdicts l.class.name h)

  good_class : (l : Loaded) → Contains judged.program.world l → is_class_accepted judged.program l ≡ true → IsGoodClass l
  good_class l here e = by_loader l.by_system refl e
    where
      by_loader : (b : Bool) → l.by_system ≡ b → (b || list_any (bytes_eq l.class.name) judged.program.accepted) ≡ true → IsGoodClass l
      by_loader true s k = system_good l here s
      by_loader false s k = own_good l here (among_parts l.class.name (map (λ c. c.name) host.front) (accepted_names right.contents judged.verdicts)
          (ap (list_any (bytes_eq l.class.name)) (sym right.accepted) ∙ k))

  pub judged_is_sound : IsSound judged.program
  judged_is_sound = record {
    rooted = rooted_whole;
    alone = stands_alone judged.program.world rooted_whole;
    library = right.given;
    guests = classes_in host right.contents;
    world = right.world;
    named = named_all;
    typed = λ l here e. (good_class l here e).typed;
    loadable = λ l here e. (good_class l here e).loadable;
    instructions = right.instructions;
  }
