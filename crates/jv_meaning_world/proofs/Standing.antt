-- A class is loadable exactly where it and all above it stand themselves.
use Rattle.std.proofs.Common.{◌≡◌, ℕ, zero, suc, Bool, true, false, ◌||◌, ◌&&◌, List, [], ◌∷◌, length, Option, Some, None, refl, sym, ap, ◌∙◌, subst, inl, inr, arith}
use Rattle.std.specs.Prelude.{◌⊎◌, IsTrue, not}
use Rattle.std.specs.List.{Contains, cons_option, filter_map, list_all, list_any}
use Rattle.std.specs.Set.{is_member}
use Rattle.std.specs.Str.{bytes_eq}
use Rattle.std.specs.Cmp.Lexicographic.{nat_list_eq_equiv}
use Rattle.std.proofs.lemmas.Bool.{and_parts, and_from}
use Rattle.std.proofs.lemmas.List.{length-map}
use Rattle.std.proofs.lemmas.List.Elements.{Contains-append_cases}
use Rattle.std.proofs.lemmas.Map.Made.{length-le_from_is_member}
use Rattle.jv_class.specs.Class.{Class}
use Rattle.jv_meaning_world.specs.World.{Loaded, World, class_named}
use Rattle.jv_meaning_world.specs.Above.{super_names, supers_in, above, is_circular}
use Rattle.jv_meaning_world.specs.Verdicts.{passes, each_super, have_right_kind, can_name_supers, is_loadable_within, is_loadable}
use Rattle.jv_meaning_world.specs.Laws.Above.{IsWayUp, stands_itself, SystemStandsAlone, LoadableByAll}
use Rattle.jv_meaning_world.proofs.Up.{none, single, first, later, same_name, super_is_named, name_of, names_of, named_is_member, named_stands, NoTwo, IsFresh, distinct, above_by_ways, above_is_transitive, found_super}

-- ---- tests

true_left : (a b : Bool) → IsTrue a → IsTrue (a || b)
true_left true b h = refl
true_left false b h = absurd cc

true_right : (a b : Bool) → IsTrue b → IsTrue (a || b)
true_right true b h = refl
true_right false b h = h

either : (a b : Bool) → IsTrue (a || b) → IsTrue a ⊎ IsTrue b
either true b h = inl refl
either false b h = inr h

clash : (b : Bool) → IsTrue b → IsTrue (not b) → ⊥
clash true h k = absurd cc
clash false h k = absurd cc

-- ---- what a test of each super says

super_passes : (world : World) (test : Loaded → Bool) (class : Class) (s : Loaded) → IsTrue (each_super world test class) → Contains (supers_in world class) s → IsTrue (test s)
super_passes world test class s all h =
    let found = found_super world class s h in
    subst (λ o. IsTrue (passes test o)) found.2 (of_all (super_names class) all found.0 found.1)
  where
    of_all : (names : List (List ℕ)) → IsTrue (list_all (λ name. passes test (class_named world name)) names) → (name : List ℕ) → Contains names name → IsTrue (passes test (class_named world name))
    of_all [] all name h = absurd (none name h)
    of_all (n ∷ names) all name h =
        let parts = and_parts (passes test (class_named world n)) (list_all (λ m. passes test (class_named world m)) names) all in
        by_part parts.0 (λ k. of_all names parts.1 name k) (Contains-append_cases (n ∷ []) names name h)
      where
        by_part : IsTrue (passes test (class_named world n)) → (Contains names name → IsTrue (passes test (class_named world name))) →
            Contains (n ∷ []) name ⊎ Contains names name → IsTrue (passes test (class_named world name))
        by_part here again (inl k) = subst (λ m. IsTrue (passes test (class_named world m))) (single n name k) here
        by_part here again (inr k) = again k

-- each super that is there passes, or one is found that goes on
all_or_one : (world : World) (test : Loaded → Bool) (More : Loaded → Type 0) (names : List (List ℕ)) → IsTrue (list_all (λ name. passes (λ s. true) (class_named world name)) names)
    → ((name : List ℕ) (s : Loaded) → Contains names name → class_named world name ≡ Some s → IsTrue (test s) ⊎ More s)
    → IsTrue (list_all (λ name. passes test (class_named world name)) names) ⊎ ((name : List ℕ) × (s : Loaded) × Contains names name × (class_named world name ≡ Some s) × More s)
all_or_one world test More [] there each = inl refl
all_or_one world test More (n ∷ names) there each =
    let parts = and_parts (passes (λ s. true) (class_named world n)) (list_all (λ m. passes (λ s. true) (class_named world m)) names) there in
    by_rest (class_named world n) refl parts.0 (all_or_one world test More names parts.1 (λ name s k e. each name s (later n names name k) e))
  where
    by_rest : (o : Option Loaded) → class_named world n ≡ o → IsTrue (passes (λ s. true) o) →
        IsTrue (list_all (λ name. passes test (class_named world name)) names) ⊎
        ((name : List ℕ) × (s : Loaded) × Contains names name × (class_named world name ≡ Some s) × More s)
        → IsTrue (list_all (λ name. passes test (class_named world name)) (n ∷ names)) ⊎ ((name : List ℕ) × (s : Loaded) × Contains (n ∷ names) name × (class_named world name ≡ Some s) × More s)
    by_rest None e t rest = absurd cc
    by_rest (Some s) e t (inr one) = inr (one.0, one.1, later n names one.0 one.2, one.3, one.4)
    by_rest (Some s) e t (inl all) = by_first (each n s (first n names) e)
      where
        by_first : IsTrue (test s) ⊎ More s → IsTrue (list_all (λ name. passes test (class_named world name)) (n ∷ names)) ⊎
            ((name : List ℕ) × (s : Loaded) × Contains (n ∷ names) name × (class_named world name ≡ Some s) × More s)
        by_first (inl pass) = inl (and_from (passes test (class_named world n)) (list_all (λ name. passes test (class_named world name)) names) (subst (λ o. IsTrue (passes test o)) (sym e) pass) all)
        by_first (inr more) = inr (n, s, first n names, e, more)

-- ---- a class of the system

system_stands : (world : World) (l : Loaded) → IsTrue l.by_system → IsTrue (stands_itself world l)
system_stands world l h = true_left l.by_system _ h

system_loadable : (world : World) (k : ℕ) (l : Loaded) → IsTrue l.by_system → IsTrue (is_loadable_within world k l)
system_loadable world zero l h = h
system_loadable world (suc k) l h = true_left l.by_system _ h

in_world : (world : World) (class : Class) (s : Loaded) → Contains (supers_in world class) s → Contains world s
in_world world class s h = let found = found_super world class s h in named_stands world found.0 s found.2

system_above : (world : World) → SystemStandsAlone world → (l to : Loaded) (between : List Loaded) → Contains world l → IsTrue l.by_system → IsWayUp world l.class between to → IsTrue to.by_system
system_above world alone l to [] there h way = alone l to there h way
system_above world alone l to (by ∷ more) there h way = system_above world alone by to more (in_world world l.class by way.0) (alone l by there h way.0) way.1

-- ---- a loadable class stands itself, and so do those above it

own_parts : (world : World) (k : ℕ) (l : Loaded) → IsTrue (is_loadable_within world (suc k) l)
    → IsTrue l.by_system ⊎ (IsTrue (each_super world (is_loadable_within world k) l.class) × IsTrue (stands_itself world l))
own_parts world k l h = by_parts (either l.by_system _ h)
  where
    A : Bool
    A = not (is_circular world l.class)

    B : Bool
    B = each_super world (is_loadable_within world k) l.class

    C : Bool
    C = have_right_kind world l.class

    D : Bool
    D = can_name_supers world l

    any_super : (names : List (List ℕ)) → IsTrue (list_all (λ name. passes (is_loadable_within world k) (class_named world name)) names) →
        IsTrue (list_all (λ name. passes (λ s. true) (class_named world name)) names)
    any_super [] all = refl
    any_super (n ∷ names) all =
        let parts = and_parts (passes (is_loadable_within world k) (class_named world n)) (list_all (λ m. passes (is_loadable_within world k) (class_named world m)) names) all in
        and_from (passes (λ s. true) (class_named world n)) (list_all (λ m. passes (λ s. true) (class_named world m)) names) (there (class_named world n) parts.0) (any_super names parts.1)
      where
        there : (o : Option Loaded) → IsTrue (passes (is_loadable_within world k) o) → IsTrue (passes (λ s. true) o)
        there None t = absurd cc
        there (Some s) t = refl

    by_parts : IsTrue l.by_system ⊎ IsTrue (((A && B) && C) && D) → IsTrue l.by_system ⊎ (IsTrue B × IsTrue (stands_itself world l))
    by_parts (inl h) = inl h
    by_parts (inr h) =
        let d = and_parts ((A && B) && C) D h in
        let c = and_parts (A && B) C d.0 in
        let b = and_parts A B c.0 in
        inr (b.1, true_right l.by_system _ (and_from _ D (and_from _ C (and_from A _ b.0 (any_super (super_names l.class) b.1)) c.1) d.1))

stands : (world : World) (k : ℕ) (l : Loaded) → IsTrue (is_loadable_within world k l) → IsTrue (stands_itself world l)
stands world zero l h = system_stands world l h
stands world (suc k) l h = by_parts (own_parts world k l h)
  where
    by_parts : IsTrue l.by_system ⊎ (IsTrue (each_super world (is_loadable_within world k) l.class) × IsTrue (stands_itself world l)) → IsTrue (stands_itself world l)
    by_parts (inl h) = system_stands world l h
    by_parts (inr h) = h.1

above_stand : (world : World) → SystemStandsAlone world → (k : ℕ) (l to : Loaded) (between : List Loaded) → Contains world l →
    IsTrue (is_loadable_within world k l) → IsWayUp world l.class between to → IsTrue (stands_itself world to)
above_stand world alone zero l to between there h way = system_stands world to (system_above world alone l to between there h way)
above_stand world alone (suc k) l to [] there h way = by_parts (own_parts world k l h)
  where
    by_parts : IsTrue l.by_system ⊎ (IsTrue (each_super world (is_loadable_within world k) l.class) × IsTrue (stands_itself world l)) → IsTrue (stands_itself world to)
    by_parts (inl h) = system_stands world to (alone l to there h way)
    by_parts (inr h) = stands world k to (super_passes world (is_loadable_within world k) l.class to h.0 way)
above_stand world alone (suc k) l to (by ∷ more) there h way =
    by_parts (own_parts world k l h) (λ t. above_stand world alone k by to more (in_world world l.class by way.0) t way.1)
  where
    by_parts : IsTrue l.by_system ⊎ (IsTrue (each_super world (is_loadable_within world k) l.class) × IsTrue (stands_itself world l)) →
        (IsTrue (is_loadable_within world k by) → IsTrue (stands_itself world to)) → IsTrue (stands_itself world to)
    by_parts (inl h) again = system_stands world to (system_above world alone l to (by ∷ more) there h way)
    by_parts (inr h) again = again (super_passes world (is_loadable_within world k) l.class by h.0 way.0)

-- ---- where all stand themselves, a way of guests' classes would be too long

-- classes of the guest, each a direct super of the one before
abbrev Chain : World → Loaded → List Loaded → Type 0
Chain world l [] = l.by_system ≡ false
Chain world l (s ∷ more) = (l.by_system ≡ false) × Contains (supers_in world l.class) s × Chain world s more

abbrev AllStand : World → Loaded → Type 0
AllStand world l = IsTrue (stands_itself world l) × ((s : Loaded) → Contains (above world l.class) s → IsTrue (stands_itself world s))

direct : (world : World) (class : Class) (s : Loaded) → Contains (supers_in world class) s → Contains (above world class) s
direct world class s h = (above_by_ways world class s).1 ([], h)

all_above : (world : World) (l s : Loaded) → AllStand world l → Contains (supers_in world l.class) s → AllStand world s
all_above world l s all h = (all.1 s (direct world l.class s h), λ to k. all.1 to (above_is_transitive world l.class s to (direct world l.class s h) k))

pub named_super : (world : World) (names : List (List ℕ)) (name : List ℕ) (s : Loaded) → Contains names name → class_named world name ≡ Some s → Contains (filter_map (class_named world) names) s
named_super world [] name s h e = absurd (none name h)
named_super world (n ∷ names) name s h e = by_part (λ k. named_super world names name s k e) (Contains-append_cases (n ∷ []) names name h)
  where
    put : (o : Option Loaded) → o ≡ Some s → Contains (cons_option o (filter_map (class_named world) names)) s
    put None e = absurd cc
    put (Some x) e = subst (λ y. Contains (y ∷ filter_map (class_named world) names) s) (same e) (first s (filter_map (class_named world) names))
      where
        same : Some x ≡ Some s → s ≡ x
        same e = cc

    behind : (o : Option Loaded) → Contains (filter_map (class_named world) names) s → Contains (cons_option o (filter_map (class_named world) names)) s
    behind None h = h
    behind (Some x) h = later x (filter_map (class_named world) names) s h

    by_part : (Contains names name → Contains (filter_map (class_named world) names) s) → Contains (n ∷ []) name ⊎ Contains names name → Contains (filter_map (class_named world) (n ∷ names)) s
    by_part again (inl k) = put (class_named world n) (ap (class_named world) (single n name k) ∙ e)
    by_part again (inr k) = behind (class_named world n) (again k)

abbrev Deep : World → ℕ → Loaded → Type 0
Deep world k l = (more : List Loaded) × (length more ≡ k) × Chain world l more

loadable_or_deep : (world : World) (k : ℕ) (l : Loaded) → AllStand world l → IsTrue (is_loadable_within world k l) ⊎ Deep world k l
loadable_or_deep world zero l all = by_system l.by_system refl
  where
    by_system : (b : Bool) → l.by_system ≡ b → IsTrue l.by_system ⊎ Deep world zero l
    by_system true e = inl e
    by_system false e = inr ([], refl, e)
loadable_or_deep world (suc k) l all = by_system l.by_system refl (λ s t. loadable_or_deep world k s t)
  where
    A : Bool
    A = not (is_circular world l.class)

    B : Bool
    B = each_super world (λ s. true) l.class

    C : Bool
    C = have_right_kind world l.class

    D : Bool
    D = can_name_supers world l

    by_supers : l.by_system ≡ false → IsTrue A → IsTrue C → IsTrue D
        → IsTrue (each_super world (is_loadable_within world k) l.class) ⊎ ((name : List ℕ) × (s : Loaded) × Contains (super_names l.class) name × (class_named world name ≡ Some s) × Deep world k s)
        → IsTrue (is_loadable_within world (suc k) l) ⊎ Deep world (suc k) l
    by_supers e a c d (inl each) = inl (true_right l.by_system _ (and_from _ D (and_from _ C (and_from A _ a each) c) d))
    by_supers e a c d (inr one) =
        inr (one.1 ∷ one.4.0, ap suc one.4.1, (e, named_super world (super_names l.class) one.0 one.1 one.2 one.3, one.4.2))

    by_system : (b : Bool) → l.by_system ≡ b → ((s : Loaded) → AllStand world s → IsTrue (is_loadable_within world k s) ⊎ Deep world k s) →
        IsTrue (is_loadable_within world (suc k) l) ⊎ Deep world (suc k) l
    by_system true e again = inl (system_loadable world (suc k) l e)
    by_system false e again =
        let own : IsTrue (((A && B) && C) && D) = guest_parts e (either l.by_system (((A && B) && C) && D) all.0) in
        let d = and_parts ((A && B) && C) D own in
        let c = and_parts (A && B) C d.0 in
        let b = and_parts A B c.0 in
        by_supers e b.0 c.1 d.1 (all_or_one world (is_loadable_within world k) (Deep world k) (super_names l.class) b.1
        (λ name s t f. again s (all_above world l s all (named_super world (super_names l.class) name s t f))))
      where
        guest_parts : l.by_system ≡ false → IsTrue l.by_system ⊎ IsTrue (((A && B) && C) && D) → IsTrue (((A && B) && C) && D)
        guest_parts e (inl h) = absurd (unlike (sym h ∙ e))
          where
            unlike : true ≡ false → ⊥
            unlike f = cc
        guest_parts e (inr h) = h

-- such a way meets no class twice

not_above_itself : (world : World) (l : Loaded) → l.by_system ≡ false → IsTrue (stands_itself world l) → IsTrue (is_circular world l.class) → ⊥
not_above_itself world l e h circle = by_parts (either l.by_system _ h)
  where
    by_parts : IsTrue l.by_system ⊎ IsTrue (((not (is_circular world l.class) && each_super world (λ s. true) l.class) && have_right_kind world l.class) && can_name_supers world l) → ⊥
    by_parts (inl k) = absurd (unlike (sym k ∙ e))
      where
        unlike : true ≡ false → ⊥
        unlike f = cc
    by_parts (inr k) =
        let d = and_parts _ (can_name_supers world l) k in
        let c = and_parts _ (have_right_kind world l.class) d.0 in
        let b = and_parts (not (is_circular world l.class)) _ c.0 in
        clash (is_circular world l.class) circle b.0

circle_found : (name : List ℕ) (ls : List Loaded) (s : Loaded) → Contains ls s → bytes_eq name s.class.name ≡ true → IsTrue (list_any (λ x. bytes_eq x.class.name name) ls)
circle_found name [] s h e = absurd (none s h)
circle_found name (l ∷ ls) s h e = by_part (λ k. circle_found name ls s k e) (Contains-append_cases (l ∷ []) ls s h)
  where
    by_part : (Contains ls s → IsTrue (list_any (λ x. bytes_eq x.class.name name) ls)) → Contains (l ∷ []) s ⊎ Contains ls s →
        IsTrue (bytes_eq l.class.name name || list_any (λ x. bytes_eq x.class.name name) ls)
    by_part again (inl k) = true_left (bytes_eq l.class.name name) _ (nat_list_eq_equiv.symm l.class.name name ∙ ap (λ (m : Loaded). bytes_eq name m.class.name) (single l s k) ∙ e)
    by_part again (inr k) = true_right (bytes_eq l.class.name name) _ (again k)

fresh : (world : World) (x : Loaded) → (IsTrue (is_circular world x.class) → ⊥) → (l : Loaded) (more : List Loaded) → Chain world l more →
    ((to : Loaded) → Contains (supers_in world l.class) to → Contains (above world x.class) to) → IsFresh x.class.name more
fresh world x no_circle l [] chain reach = tt
fresh world x no_circle l (s ∷ more) chain reach =
    (by_test (bytes_eq x.class.name s.class.name) refl, fresh world x no_circle s more chain.2 (λ to h. above_is_transitive world x.class s to (reach s chain.1) (direct world s.class to h)))
  where
    by_test : (b : Bool) → bytes_eq x.class.name s.class.name ≡ b → bytes_eq x.class.name s.class.name ≡ false
    by_test true e = absurd (no_circle (circle_found x.class.name (above world x.class) s (reach s chain.1) e))
    by_test false e = e

all_once : (world : World) (l : Loaded) (more : List Loaded) → AllStand world l → Chain world l more → NoTwo (l ∷ more)
all_once world l [] all chain = (tt, tt)
all_once world l (s ∷ more) all chain = (
  fresh world l (not_above_itself world l chain.0 all.0) l (s ∷ more) chain (λ to h. direct world l.class to h),
  all_once world s more (all_above world l s all chain.1) chain.2,
)

contained_is_member : (world : World) (l : Loaded) → Contains world l → is_member bytes_eq (names_of world) l.class.name ≡ true
contained_is_member [] l h = absurd (none l h)
contained_is_member (x ∷ world) l h = by_part (λ k. contained_is_member world l k) (Contains-append_cases (x ∷ []) world l h)
  where
    by_part : (Contains world l → is_member bytes_eq (names_of world) l.class.name ≡ true) → Contains (x ∷ []) l ⊎ Contains world l →
        (bytes_eq l.class.name x.class.name || is_member bytes_eq (names_of world) l.class.name) ≡ true
    by_part again (inl k) = true_left (bytes_eq l.class.name x.class.name) _ (ap (λ (m : Loaded). bytes_eq l.class.name m.class.name) (single x l k) ∙ nat_list_eq_equiv.refl l.class.name)
    by_part again (inr k) = true_right (bytes_eq l.class.name x.class.name) _ (again k)

member_or_behind : (world : World) (l : Loaded) (more : List Loaded) (q : List ℕ) → is_member bytes_eq (names_of world) l.class.name ≡ true
    → (is_member bytes_eq (names_of more) q ≡ true → is_member bytes_eq (names_of world) q ≡ true)
    → is_member bytes_eq (names_of (l ∷ more)) q ≡ true → is_member bytes_eq (names_of world) q ≡ true
member_or_behind world l more q there again h = by_test (bytes_eq q l.class.name) refl h
  where
    by_test : (b : Bool) → bytes_eq q l.class.name ≡ b → (b || is_member bytes_eq (names_of more) q) ≡ true → is_member bytes_eq (names_of world) q ≡ true
    by_test true e h = subst (λ name. is_member bytes_eq (names_of world) name ≡ true) (sym (same_name q l.class.name e)) there
    by_test false e h = again h

chain_in_world : (world : World) (l : Loaded) (more : List Loaded) → is_member bytes_eq (names_of world) l.class.name ≡ true → Chain world l more →
    (q : List ℕ) → is_member bytes_eq (names_of (l ∷ more)) q ≡ true → is_member bytes_eq (names_of world) q ≡ true
chain_in_world world l [] there chain q h = member_or_behind world l [] q there (λ k. absurd (no_member k)) h
  where
    no_member : is_member bytes_eq [] q ≡ true → ⊥
    no_member k = cc
chain_in_world world l (s ∷ more) there chain q h =
    member_or_behind world l (s ∷ more) q there (λ k. chain_in_world world s more (named_is_member world s.class.name s (super_is_named world l.class s chain.1)) chain.2 q k) h

not_deep : (world : World) (l : Loaded) → Contains world l → AllStand world l → Deep world (length world) l → ⊥
not_deep world l there all deep =
    let few = length-le_from_is_member nat_list_eq_equiv (names_of (l ∷ deep.0)) (names_of world)
    (distinct (l ∷ deep.0) (all_once world l deep.0 all deep.2)) (chain_in_world world l deep.0 (contained_is_member world l there) deep.2) in
    absurd (omega (arith, few, deep.1, length-map (l ∷ deep.0) name_of, length-map world name_of))

pub loadable_by_all : LoadableByAll
loadable_by_all world l alone there = (
  λ h. (stands world (length world) l h, λ s k. let way = (above_by_ways world l.class s).0 k in above_stand world alone (length world) l s way.0 there h way.1),
  λ all. loadable (loadable_or_deep world (length world) l all) all,
)
  where
    loadable : IsTrue (is_loadable_within world (length world) l) ⊎ Deep world (length world) l → AllStand world l → IsTrue (is_loadable world l)
    loadable (inl h) all = h
    loadable (inr deep) all = absurd (not_deep world l there all deep)
