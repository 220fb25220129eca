-- Ways up from a class, and that short ones suffice.
use Rattle.std.proofs.Common.{◌≡◌, ℕ, zero, suc, ◌≤◌, Bool, true, false, cond, ◌||◌, List, [], ◌∷◌, ◌++◌, length, map, Option, Some, None, refl, sym, ap, ◌∙◌, subst, inl, inr, if◌then◌else◌, arith}
use Rattle.std.specs.Prelude.{◌⊎◌, ⊤}
use Rattle.std.specs.List.{AllByRecursion, Contains, IsDistinct, filter_map, flat_map, cons_option}
use Rattle.std.specs.Set.{is_member}
use Rattle.std.specs.Str.{bytes_eq}
use Rattle.std.specs.Cmp.Lexicographic.{nat_list_eq_equiv}
use Rattle.std.proofs.lemmas.List.{length-map}
use Rattle.std.proofs.lemmas.List.Elements.{Contains-append_left, Contains-append_right, Contains-append_cases}
use Rattle.std.proofs.lemmas.Map.Keys.{IsDistinct-cons}
use Rattle.std.proofs.lemmas.Map.Made.{length-le_from_is_member}
use Rattle.std.proofs.lemmas.Slice.Eq.{bytes_eq-Decides}
use Rattle.jv_class.specs.Class.{Class}
use Rattle.jv_meaning_world.specs.World.{Loaded, World, class_named}
use Rattle.jv_meaning_world.specs.Above.{super_names, supers_in, above_within}
use Rattle.jv_meaning_world.specs.Laws.Above.{IsWayUp, AboveByWays, AboveIsTransitive}

-- ---- elements

module _ {X : Type 0} where
  pub none : (y : X) → Contains [] y → ⊥
  none y h = absurd (omega (arith, h.1))

  pub single : (x y : X) → Contains (x ∷ []) y → x ≡ y
  single x y (zero, less, e) = e
  single x y (suc k, less, e) = absurd (omega (arith, less))

  pub first : (x : X) (xs : List X) → Contains (x ∷ xs) x
  first x xs = Contains-append_left (x ∷ []) xs x (zero, omega arith, refl)

  pub later : (x : X) (xs : List X) (y : X) → Contains xs y → Contains (x ∷ xs) y
  later x xs y h = Contains-append_right (x ∷ []) xs y h

module _ {X Y : Type 0} (f : X → List Y) where
  in_flat : (xs : List X) (y : Y) → Contains (flat_map f xs) y → (x : X) × Contains xs x × Contains (f x) y
  in_flat [] y h = absurd (none y h)
  in_flat (x ∷ xs) y h = by_part (λ k. in_flat xs y k) (Contains-append_cases (f x) (flat_map f xs) y h)
    where
      by_part : (Contains (flat_map f xs) y → (x : X) × Contains xs x × Contains (f x) y) → Contains (f x) y ⊎ Contains (flat_map f xs) y → (z : X) × Contains (x ∷ xs) z × Contains (f z) y
      by_part again (inl here) = (x, first x xs, here)
      by_part again (inr there) = let found = again there in (found.0, later x xs found.0 found.1, found.2)

  flat_in : (xs : List X) (x : X) (y : Y) → Contains xs x → Contains (f x) y → Contains (flat_map f xs) y
  flat_in [] x y h k = absurd (none x h)
  flat_in (z ∷ xs) x y h k = by_part (λ there. flat_in xs x y there k) (Contains-append_cases (z ∷ []) xs x h)
    where
      by_part : (Contains xs x → Contains (flat_map f xs) y) → Contains (z ∷ []) x ⊎ Contains xs x → Contains (f z ++ flat_map f xs) y
      by_part again (inl here) = Contains-append_left (f z) (flat_map f xs) y (subst (λ w. Contains (f w) y) (sym (single z x here)) k)
      by_part again (inr there) = Contains-append_right (f z) (flat_map f xs) y (again there)

module _ {X Y : Type 0} (look : X → Option Y) where
  in_found : (xs : List X) (y : Y) → Contains (filter_map look xs) y → (x : X) × Contains xs x × (look x ≡ Some y)
  in_found [] y h = absurd (none y h)
  in_found (x ∷ xs) y h = by_look (λ k. in_found xs y k) (look x) refl h
    where
      further : (z : X) × Contains xs z × (look z ≡ Some y) → (z : X) × Contains (x ∷ xs) z × (look z ≡ Some y)
      further found = (found.0, later x xs found.0 found.1, found.2)

      by_part : (Contains (filter_map look xs) y → (z : X) × Contains xs z × (look z ≡ Some y)) → (w : Y) → look x ≡ Some w → Contains (w ∷ []) y ⊎
          Contains (filter_map look xs) y → (z : X) × Contains (x ∷ xs) z × (look z ≡ Some y)
      by_part again w e (inl here) = (x, first x xs, e ∙ ap (λ v. Some v) (single w y here))
      by_part again w e (inr there) = further (again there)

      by_look : (Contains (filter_map look xs) y → (z : X) × Contains xs z × (look z ≡ Some y)) → (o : Option Y) → look x ≡ o →
          Contains (cons_option o (filter_map look xs)) y → (z : X) × Contains (x ∷ xs) z × (look z ≡ Some y)
      by_look again None e k = further (again k)
      by_look again (Some w) e k = by_part again w e (Contains-append_cases (w ∷ []) (filter_map look xs) y k)

-- ---- a class in the world is the one of its name

pub same_name : (a b : List ℕ) → bytes_eq a b ≡ true → a ≡ b
same_name a b e = (bytes_eq-Decides a b).0 e

pub found_is_named : (world : World) (name : List ℕ) (s : Loaded) → class_named world name ≡ Some s → s.class.name ≡ name
found_is_named [] name s e = absurd cc
found_is_named (l ∷ world) name s e = by_test (bytes_eq l.class.name name) refl (λ k. found_is_named world name s k) e
  where
    some_same : Some l ≡ Some s → l ≡ s
    some_same e = cc

    by_test : (b : Bool) → bytes_eq l.class.name name ≡ b → (class_named world name ≡ Some s → s.class.name ≡ name) → cond b (Some l) (class_named world name) ≡ Some s → s.class.name ≡ name
    by_test true t again e = ap (λ (m : Loaded). m.class.name) (sym (some_same e)) ∙ same_name l.class.name name t
    by_test false t again e = again e

pub super_is_named : (world : World) (class : Class) (s : Loaded) → Contains (supers_in world class) s → class_named world s.class.name ≡ Some s
super_is_named world class s h =
    let found = in_found (class_named world) (super_names class) s h in
    ap (class_named world) (found_is_named world found.0 s found.2) ∙ found.2

-- a super has a name among those of the supers
pub found_super : (world : World) (class : Class) (s : Loaded) → Contains (supers_in world class) s → (name : List ℕ) × Contains (super_names class) name × (class_named world name ≡ Some s)
found_super world class s h = in_found (class_named world) (super_names class) s h

-- what has a name stands in the world
pub named_stands : (world : World) (name : List ℕ) (s : Loaded) → class_named world name ≡ Some s → Contains world s
named_stands [] name s e = absurd cc
named_stands (l ∷ world) name s e = by_test (bytes_eq l.class.name name) (λ k. named_stands world name s k) e
  where
    some_same : Some l ≡ Some s → l ≡ s
    some_same e = cc

    by_test : (b : Bool) → (class_named world name ≡ Some s → Contains world s) → cond b (Some l) (class_named world name) ≡ Some s → Contains (l ∷ world) s
    by_test true again e = subst (Contains (l ∷ world)) (some_same e) (first l world)
    by_test false again e = later l world s (again e)

one_of_name : (world : World) (a b : Loaded) → class_named world a.class.name ≡ Some a → class_named world b.class.name ≡ Some b → a.class.name ≡ b.class.name → a ≡ b
one_of_name world a b ha hb e = some_same (sym ha ∙ ap (class_named world) e ∙ hb)
  where
    some_same : Some a ≡ Some b → a ≡ b
    some_same e = cc

abbrev pub name_of : Loaded → List ℕ
name_of l = l.class.name

abbrev pub names_of : List Loaded → List (List ℕ)
names_of ls = map name_of ls

pub named_is_member : (world : World) (name : List ℕ) (s : Loaded) → class_named world name ≡ Some s → is_member bytes_eq (names_of world) name ≡ true
named_is_member [] name s e = absurd cc
named_is_member (l ∷ world) name s e = by_test (bytes_eq l.class.name name) refl (λ k. named_is_member world name s k) e
  where
    turned : (b : Bool) → bytes_eq l.class.name name ≡ b → bytes_eq name l.class.name ≡ b
    turned b t = nat_list_eq_equiv.symm name l.class.name ∙ t

    by_test : (b : Bool) → bytes_eq l.class.name name ≡ b → (class_named world name ≡ Some s → is_member bytes_eq (names_of world) name ≡ true) → cond b (Some l) (class_named world name) ≡ Some s
        → (bytes_eq name l.class.name || is_member bytes_eq (names_of world) name) ≡ true
    by_test true t again e = ap (λ b. b || is_member bytes_eq (names_of world) name) (turned true t)
    by_test false t again e = ap (λ b. b || is_member bytes_eq (names_of world) name) (turned false t) ∙ again e

-- ---- ways and distances

way_of : (world : World) (k : ℕ) (class : Class) (to : Loaded) → Contains (above_within world k class) to → (between : List Loaded) × IsWayUp world class between to
way_of world zero class to h = ([], h)
way_of world (suc k) class to h =
    by_part (λ s there. way_of world k s to there) (Contains-append_cases (supers_in world class) (flat_map (λ s. above_within world k s.class) (supers_in world class)) to h)
  where
    by_part : ((c : Class) → Contains (above_within world k c) to → (between : List Loaded) × IsWayUp world c between to)
        → Contains (supers_in world class) to ⊎ Contains (flat_map (λ s. above_within world k s.class) (supers_in world class)) to → (between : List Loaded) × IsWayUp world class between to
    by_part again (inl here) = ([], here)
    by_part again (inr there) =
        let found = in_flat (λ s. above_within world k s.class) (supers_in world class) to there in
        let way = again found.0.class found.2 in
        (found.0 ∷ way.0, (found.1, way.1))

at_distance : (world : World) (k : ℕ) (class : Class) (to : Loaded) (between : List Loaded) → length between ≤ k → IsWayUp world class between to → Contains (above_within world k class) to
at_distance world zero class to [] few way = way
at_distance world zero class to (by ∷ more) few way = absurd (omega (arith, few))
at_distance world (suc k) class to [] few way = Contains-append_left (supers_in world class) _ to way
at_distance world (suc k) class to (by ∷ more) few way =
    let fewer : length more ≤ k = omega (arith, few) in
    Contains-append_right (supers_in world class) _ to
    (flat_in (λ s. above_within world k s.class) (supers_in world class) by to way.0 (at_distance world k by.class to more fewer way.1))

-- ---- ways that meet no class twice

abbrev pub IsFresh : List ℕ → List Loaded → Type 0
IsFresh name ls = AllByRecursion (λ other. bytes_eq name other ≡ false) (names_of ls)

abbrev pub NoTwo : List Loaded → Type 0
NoTwo [] = ⊤
NoTwo (l ∷ ls) = IsFresh l.class.name ls × NoTwo ls

pub distinct : (ls : List Loaded) → NoTwo ls → IsDistinct bytes_eq (names_of ls)
unfolding IsDistinct
distinct [] h = search
distinct (l ∷ ls) h = IsDistinct-cons bytes_eq l.class.name (names_of ls) h.0 (distinct ls h.1)

record Short (world : World) (class : Class) (to : Loaded) : Type 0 where
  between : List Loaded
  way : IsWayUp world class between to
  once : NoTwo between

record ShortFresh (world : World) (from to : Loaded) : Type 0 where
  between : List Loaded
  way : IsWayUp world from.class between to
  once : NoTwo between
  fresh : IsFresh from.class.name between

-- a class is not on a way, or a way goes on from it
on_way : (world : World) (n : Loaded) → class_named world n.class.name ≡ Some n → (class : Class) (to : Loaded) (ls : List Loaded) →
    IsWayUp world class ls to → NoTwo ls → IsFresh n.class.name ls ⊎ ShortFresh world n to
on_way world n named class to [] way once = inl tt
on_way world n named class to (l ∷ ls) way once = by_test (bytes_eq n.class.name l.class.name) refl (on_way world n named l.class to ls way.1 once.1)
  where
    by_test : (b : Bool) → bytes_eq n.class.name l.class.name ≡ b → IsFresh n.class.name ls ⊎ ShortFresh world n to → IsFresh n.class.name (l ∷ ls) ⊎ ShortFresh world n to
    by_test true t rest =
        let is : n ≡ l = one_of_name world n l named (super_is_named world class l way.0) (same_name n.class.name l.class.name t) in
        inr (record {
          between = ls;
          way = subst (λ (m : Loaded). IsWayUp world m.class ls to) (sym is) way.1;
          once = once.1;
          fresh = subst (λ (m : Loaded). IsFresh m.class.name ls) (sym is) once.0;
        })
    by_test false t (inl fresh) = inl (t, fresh)
    by_test false t (inr short) = inr short

cut : (world : World) (class : Class) (l to : Loaded) → Contains (supers_in world class) l → Short world l.class to → Short world class to
cut world class l to step short = by_way (on_way world l (super_is_named world class l step) l.class to short.between short.way short.once)
  where
    by_way : IsFresh l.class.name short.between ⊎ ShortFresh world l to → Short world class to
    by_way (inl fresh) = record { between = l ∷ short.between; way = (step, short.way); once = (fresh, short.once) }
    by_way (inr on) = record { between = l ∷ on.between; way = (step, on.way); once = (on.fresh, on.once) }

shortened : (world : World) (class : Class) (to : Loaded) (ls : List Loaded) → IsWayUp world class ls to → Short world class to
shortened world class to [] way = record { between = []; way = way; once = tt }
shortened world class to (l ∷ ls) way = cut world class l to way.0 (shortened world l.class to ls way.1)

all_in_world : (world : World) (class : Class) (to : Loaded) (ls : List Loaded) → IsWayUp world class ls to → (q : List ℕ) → is_member bytes_eq
    (names_of ls) q ≡ true → is_member bytes_eq (names_of world) q ≡ true
all_in_world world class to [] way q h = absurd cc
all_in_world world class to (l ∷ ls) way q h = by_test (bytes_eq q l.class.name) refl (λ k. all_in_world world l.class to ls way.1 q k) h
  where
    by_test : (b : Bool) → bytes_eq q l.class.name ≡ b → (is_member bytes_eq (names_of ls) q ≡ true → is_member bytes_eq (names_of world) q ≡ true) →
        (b || is_member bytes_eq (names_of ls) q) ≡ true → is_member bytes_eq (names_of world) q ≡ true
    by_test true t again h = subst (λ name. is_member bytes_eq (names_of world) name ≡ true) (sym (same_name q l.class.name t))
        (named_is_member world l.class.name l (super_is_named world class l way.0))
    by_test false t again h = again h

short_enough : (world : World) (class : Class) (to : Loaded) (short : Short world class to) → length short.between ≤ length world
short_enough world class to short =
    let few = length-le_from_is_member nat_list_eq_equiv (names_of short.between) (names_of world) (distinct short.between short.once) (all_in_world world class to short.between short.way) in
    omega (arith, few, length-map short.between name_of, length-map world name_of)

pub above_by_ways : AboveByWays
above_by_ways world class to = (
  λ h. way_of world (length world) class to h,
  λ way. let short = shortened world class to way.0 way.1 in at_distance world (length world) class to short.between (short_enough world class to short) short.way,
)

joined_ways : (world : World) (class : Class) (by to : Loaded) (xs ys : List Loaded) → IsWayUp world class xs by → IsWayUp world by.class ys to → IsWayUp world class (xs ++ by ∷ ys) to
joined_ways world class by to [] ys h k = (h, k)
joined_ways world class by to (x ∷ xs) ys h k = (h.0, joined_ways world x.class by to xs ys h.1 k)

pub above_is_transitive : AboveIsTransitive
above_is_transitive world class by to h k =
    let first_way = (above_by_ways world class by).0 h in
    let second_way = (above_by_ways world by.class to).0 k in
    (above_by_ways world class to).1 (first_way.0 ++ by ∷ second_way.0, joined_ways world class by to first_way.0 second_way.0 first_way.1 second_way.1)

-- a class that is found by a name has it
pub has_name : (world : World) (name : List ℕ) (s : Loaded) → class_named world name ≡ Some s → s.class.name ≡ name
has_name [] name s e = absurd cc
has_name (x ∷ world) name s e = by_test (bytes_eq x.class.name name) refl (λ f. has_name world name s f) e
  where
    same : Some x ≡ Some s → x ≡ s
    same f = cc

    by_test : (t : Bool) → bytes_eq x.class.name name ≡ t → (class_named world name ≡ Some s → s.class.name ≡ name) → (if t then Some x else class_named world name) ≡ Some s → s.class.name ≡ name
    by_test true t again f = ap (λ (l : Loaded). l.class.name) (sym (same f)) ∙ same_name x.class.name name t
    by_test false t again f = again f
