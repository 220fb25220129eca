-- The superclasses of a superclass are superclasses, in a world with circles too.
use Rattle.std.proofs.Common.{◌≡◌, ℕ, zero, suc, ◌<◌, Bool, true, false, ◌||◌, List, [], ◌∷◌, ◌++◌, length, Option, Some, None, refl, sym, ap, ◌∙◌, subst, inl, inr, arith}
use Rattle.std.specs.Prelude.{◌⊎◌, IsTrue}
use Rattle.std.specs.List.{Contains, list_all, list_any}
use Rattle.std.specs.Set.{is_member}
use Rattle.std.specs.Str.{bytes_eq}
use Rattle.std.specs.Cmp.Lexicographic.{nat_list_eq_equiv}
use Rattle.std.proofs.lemmas.Bool.{and_parts, or_cases, or_left, or_right}
use Rattle.std.proofs.lemmas.List.{length-map}
use Rattle.std.proofs.lemmas.List.Elements.{Contains-append_cases}
use Rattle.std.proofs.lemmas.Map.Made.{length-le_from_is_member}
use Rattle.jv_class.specs.Class.{Class}
use Rattle.jv_meaning_world.specs.World.{Loaded, World, class_named}
use Rattle.jv_meaning_world.specs.Above.{class_if_named, superclass_in, chain_within, superclasses}
use Rattle.jv_meaning_world.proofs.Up.{none, single, first, later, same_name, name_of, names_of, named_is_member, IsFresh, NoTwo, distinct}
use Rattle.jv_meaning_world.proofs.Up.{has_name}

-- ---- what a list has

pub any_made : {X : Type 0} (test : X → Bool) (xs : List X) (x : X) → Contains xs x → IsTrue (test x) → IsTrue (list_any test xs)
any_made test [] x h t = absurd (none x h)
any_made test (y ∷ xs) x h t = by_part (λ k. any_made test xs x k t) (Contains-append_cases (y ∷ []) xs x h)
  where
    by_part : (Contains xs x → IsTrue (list_any test xs)) → Contains (y ∷ []) x ⊎ Contains xs x → IsTrue (test y || list_any test xs)
    by_part again (inl k) = or_left (test y) (list_any test xs) (subst (λ z. IsTrue (test z)) (sym (single y x k)) t)
    by_part again (inr k) = or_right (test y) (list_any test xs) (again k)

pub any_found : {X : Type 0} (test : X → Bool) (xs : List X) → IsTrue (list_any test xs) → (x : X) × Contains xs x × IsTrue (test x)
any_found {X = X} test [] h = absurd cc
any_found {X = X} test (y ∷ xs) h = by_part (λ k. any_found test xs k) (or_cases (test y) (list_any test xs) h)
  where
    by_part : (IsTrue (list_any test xs) → (x : X) × Contains xs x × IsTrue (test x)) → (test y ≡ true) ⊎ (list_any test xs ≡ true) → (x : X) × Contains (y ∷ xs) x × IsTrue (test x)
    by_part again (inl k) = (y, first y xs, k)
    by_part again (inr k) = let found = again k in (found.0, later y xs found.0 found.1, found.2)

pub all_at : {X : Type 0} (test : X → Bool) (xs : List X) (x : X) → IsTrue (list_all test xs) → Contains xs x → IsTrue (test x)
all_at test [] x all h = absurd (none x h)
all_at test (y ∷ xs) x all h =
    let parts = and_parts (test y) (list_all test xs) all in
    by_part parts.0 (λ k. all_at test xs x parts.1 k) (Contains-append_cases (y ∷ []) xs x h)
  where
    by_part : IsTrue (test y) → (Contains xs x → IsTrue (test x)) → Contains (y ∷ []) x ⊎ Contains xs x → IsTrue (test x)
    by_part here again (inl k) = subst (λ z. IsTrue (test z)) (single y x k) here
    by_part here again (inr k) = again k

-- ---- ways up by superclasses alone

abbrev pub IsUp : World → Class → List Loaded → Loaded → Type 0
IsUp world class [] to = superclass_in world class ≡ Some to
IsUp world class (by ∷ more) to = (superclass_in world class ≡ Some by) × IsUp world by.class more to

abbrev pub IsNamedIn : World → Loaded → Type 0
IsNamedIn world l = class_named world l.class.name ≡ Some l

superclass_is_named : (world : World) (name : Option (List ℕ)) (s : Loaded) → class_if_named world name ≡ Some s → IsNamedIn world s
superclass_is_named world None s e = absurd cc
superclass_is_named world (Some name) s e = ap (class_named world) (has_name world name s e) ∙ e

pub up_is_named : (world : World) (class : Class) (between : List Loaded) (to : Loaded) → IsUp world class between to → IsNamedIn world to
up_is_named world class [] to way = superclass_is_named world class.super_class to way
up_is_named world class (by ∷ more) to way = up_is_named world by.class more to way.1

one_of_name : (world : World) (a b : Loaded) → IsNamedIn world a → IsNamedIn world b → a.class.name ≡ b.class.name → a ≡ b
one_of_name world a b at_a at_b e = same (sym at_a ∙ ap (class_named world) e ∙ at_b)
  where
    same : Some a ≡ Some b → a ≡ b
    same f = cc

pub joined_ways : (world : World) (class : Class) (by to : Loaded) (xs ys : List Loaded) → IsUp world class xs by → IsUp world by.class ys to → IsUp world class (xs ++ by ∷ ys) to
joined_ways world class by to [] ys h k = (h, k)
joined_ways world class by to (x ∷ xs) ys h k = (h.0, joined_ways world x.class by to xs ys h.1 k)

-- ---- a chain and the ways up

up_of : (world : World) (k : ℕ) (class : Class) (to : Loaded) → Contains (chain_within world k (superclass_in world class)) to → (between : List Loaded) × IsUp world class between to
up_of world zero class to h = absurd (none to h)
up_of world (suc k) class to h = by_super (superclass_in world class) refl h (λ s j. up_of world k s.class to j)
  where
    by_super : (o : Option Loaded) → superclass_in world class ≡ o → Contains (chain_within world (suc k) o) to
        → ((s : Loaded) → Contains (chain_within world k (superclass_in world s.class)) to → (between : List Loaded) × IsUp world s.class between to)
        → (between : List Loaded) × IsUp world class between to
    by_super None e h again = absurd (none to h)
    by_super (Some s) e h again = by_part (Contains-append_cases (s ∷ []) (chain_within world k (superclass_in world s.class)) to h)
      where
        by_part : Contains (s ∷ []) to ⊎ Contains (chain_within world k (superclass_in world s.class)) to → (between : List Loaded) × IsUp world class between to
        by_part (inl here) = ([], e ∙ ap (λ l. Some l) (single s to here))
        by_part (inr there) = let way = again s there in (s ∷ way.0, (e, way.1))

on_chain : (world : World) (k : ℕ) (class : Class) (to : Loaded) (between : List Loaded) → length between < k → IsUp world class between to →
    Contains (chain_within world k (superclass_in world class)) to
on_chain world zero class to between few way = absurd (omega (arith, few))
on_chain world (suc k) class to [] few way =
    subst (λ o. Contains (chain_within world (suc k) o) to) (sym way) (first to (chain_within world k (superclass_in world to.class)))
on_chain world (suc k) class to (by ∷ more) few way =
    let fewer : length more < k = omega (arith, few) in
    subst (λ o. Contains (chain_within world (suc k) o) to) (sym way.0)
    (later by (chain_within world k (superclass_in world by.class)) to (on_chain world k by.class to more fewer way.1))

-- ---- a way that meets no class twice

record Short (world : World) (class : Class) (to : Loaded) : Type 0 where
  between : List Loaded
  way : IsUp world class between to
  once : NoTwo (to ∷ between)

record ShortFresh (world : World) (from to : Loaded) : Type 0 where
  between : List Loaded
  way : IsUp world from.class between to
  once : NoTwo (to ∷ between)
  fresh : IsFresh from.class.name between

-- a class is not on a way, or a way goes on from it
on_way : (world : World) (n : Loaded) → IsNamedIn world n → (class : Class) (to : Loaded) (ls : List Loaded) → IsUp world class ls to →
    NoTwo (to ∷ ls) → IsFresh n.class.name ls ⊎ ShortFresh world n to
on_way world n named class to [] way once = inl tt
on_way world n named class to (l ∷ ls) way once = by_test (bytes_eq n.class.name l.class.name) refl (on_way world n named l.class to ls way.1 (once.0.1, once.1.1))
  where
    by_test : (b : Bool) → bytes_eq n.class.name l.class.name ≡ b → IsFresh n.class.name ls ⊎ ShortFresh world n to → IsFresh n.class.name (l ∷ ls) ⊎ ShortFresh world n to
    by_test true t rest =
        let is : n ≡ l = one_of_name world n l named (up_is_named world class [] l way.0) (same_name n.class.name l.class.name t) in
        inr (record {
          between = ls;
          way = subst (λ (m : Loaded). IsUp world m.class ls to) (sym is) way.1;
          once = (once.0.1, once.1.1);
          fresh = subst (λ (m : Loaded). IsFresh m.class.name ls) (sym is) once.1.0;
        })
    by_test false t (inl fresh) = inl (t, fresh)
    by_test false t (inr short) = inr short

cut : (world : World) (class : Class) (l to : Loaded) → superclass_in world class ≡ Some l → Short world l.class to → Short world class to
cut world class l to step short = by_end (bytes_eq to.class.name l.class.name) refl
  where
    named : IsNamedIn world l
    named = up_is_named world class [] l step

    by_way : bytes_eq to.class.name l.class.name ≡ false → IsFresh l.class.name short.between ⊎ ShortFresh world l to → Short world class to
    by_way t (inl fresh) = record { between = l ∷ short.between; way = (step, short.way); once = ((t, short.once.0), (fresh, short.once.1)) }
    by_way t (inr on) = record { between = l ∷ on.between; way = (step, on.way); once = ((t, on.once.0), (on.fresh, on.once.1)) }

    by_end : (b : Bool) → bytes_eq to.class.name l.class.name ≡ b → Short world class to
    by_end true t =
        let is : l ≡ to = one_of_name world l to named (up_is_named world l.class short.between to short.way) (sym (same_name to.class.name l.class.name t)) in
        record { between = []; way = step ∙ ap (λ m. Some m) is; once = (tt, tt) }
    by_end false t = by_way t (on_way world l named l.class to short.between short.way short.once)

shortened : (world : World) (class : Class) (to : Loaded) (ls : List Loaded) → IsUp world class ls to → Short world class to
shortened world class to [] way = record { between = []; way = way; once = (tt, tt) }
shortened world class to (l ∷ ls) way = cut world class l to way.0 (shortened world l.class to ls way.1)

-- ---- and so is no longer than there are classes

member_or_behind : (world : World) (l : Loaded) (more : List Loaded) (q : List ℕ) → IsNamedIn world l
    → (is_member bytes_eq (names_of more) q ≡ true → is_member bytes_eq (names_of world) q ≡ true)
    → is_member bytes_eq (names_of (l ∷ more)) q ≡ true → is_member bytes_eq (names_of world) q ≡ true
member_or_behind world l more q named again h = by_test (bytes_eq q l.class.name) refl h
  where
    by_test : (b : Bool) → bytes_eq q l.class.name ≡ b → (b || is_member bytes_eq (names_of more) q) ≡ true → is_member bytes_eq (names_of world) q ≡ true
    by_test true t k = subst (λ name. is_member bytes_eq (names_of world) name ≡ true) (sym (same_name q l.class.name t)) (named_is_member world l.class.name l named)
    by_test false t k = again k

between_in_world : (world : World) (class : Class) (to : Loaded) (ls : List Loaded) → IsUp world class ls to → (q : List ℕ) → is_member bytes_eq
    (names_of ls) q ≡ true → is_member bytes_eq (names_of world) q ≡ true
between_in_world world class to [] way q h = absurd cc
between_in_world world class to (l ∷ ls) way q h = member_or_behind world l ls q (up_is_named world class [] l way.0) (λ k. between_in_world world l.class to ls way.1 q k) h

all_in_world : (world : World) (class : Class) (to : Loaded) (ls : List Loaded) → IsUp world class ls to → (q : List ℕ) → is_member bytes_eq
    (names_of (to ∷ ls)) q ≡ true → is_member bytes_eq (names_of world) q ≡ true
all_in_world world class to ls way q h = member_or_behind world to ls q (up_is_named world class ls to way) (λ k. between_in_world world class to ls way q k) h

short_enough : (world : World) (class : Class) (to : Loaded) (short : Short world class to) → length short.between < length world
short_enough world class to short =
    let few = length-le_from_is_member nat_list_eq_equiv (names_of (to ∷ short.between)) (names_of world) (distinct (to ∷ short.between) short.once)
    (all_in_world world class to short.between short.way) in
    omega (arith, few, length-map (to ∷ short.between) name_of, length-map world name_of)

-- ---- laws

-- a superclass is what a way by direct superclasses leads to, however long
pub superclass_by_way : (world : World) (class : Class) (to : Loaded) → Contains (superclasses world class) to → (between : List Loaded) × IsUp world class between to
superclass_by_way world class to h = up_of world (length world) class to h

pub way_to_superclass : (world : World) (class : Class) (to : Loaded) (between : List Loaded) → IsUp world class between to → Contains (superclasses world class) to
way_to_superclass world class to between way =
    let short = shortened world class to between way in
    on_chain world (length world) class to short.between (short_enough world class to short) short.way

-- a superclass of a superclass is one
pub superclasses_are_transitive : (world : World) (class : Class) (by to : Loaded) → Contains (superclasses world class) by →
    Contains (superclasses world by.class) to → Contains (superclasses world class) to
superclasses_are_transitive world class by to h k =
    let first_way = superclass_by_way world class by h in
    let second_way = superclass_by_way world by.class to k in
    way_to_superclass world class to (first_way.0 ++ by ∷ second_way.0) (joined_ways world class by to first_way.0 second_way.0 first_way.1 second_way.1)

pub superclasses_are_named : (world : World) (class : Class) (to : Loaded) → Contains (superclasses world class) to → IsNamedIn world to
superclasses_are_named world class to h = let way = superclass_by_way world class to h in up_is_named world class way.0 to way.1
