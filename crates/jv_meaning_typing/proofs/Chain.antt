-- The superclasses of a class with no circle above it begin with the direct one, and go on with that one's.
use Rattle.std.proofs.Common.{◌≡◌, ℕ, zero, suc, ◌≤◌, Bool, true, false, cond, ◌||◌, List, [], ◌∷◌, length, map, Option, Some, None, refl, sym, ap, ◌∙◌, subst, inl, inr, arith}
use Rattle.std.specs.Prelude.{◌⊎◌, ⊤, IsTrue, IsFalse}
use Rattle.std.specs.List.{AllByRecursion, Contains, IsDistinct, list_any}
use Rattle.std.specs.Set.{is_member}
use Rattle.std.specs.Str.{bytes_eq}
use Rattle.std.specs.Cmp.Lexicographic.{nat_list_eq_equiv}
use Rattle.std.proofs.lemmas.List.{length-map}
use Rattle.std.proofs.lemmas.Map.Keys.{IsDistinct-cons}
use Rattle.std.proofs.lemmas.Map.Made.{length-le_from_is_member}
use Rattle.jv_class.specs.Class.{Class}
use Rattle.jv_meaning_world.specs.World.{Loaded, World, class_named}
use Rattle.jv_meaning_world.specs.Above.{above, is_circular, class_if_named, superclass_in, chain_within, superclasses}
use Rattle.jv_meaning_world.specs.Laws.Above.{AboveByWays, AboveIsTransitive}
use Rattle.jv_meaning_world.proofs.Up.{none, first, later, name_of, names_of, named_is_member, found_is_named}
use Rattle.jv_meaning_typing.proofs.Found.{split, same_text}
use Rattle.jv_meaning_typing.proofs.Searched.{AllOf, superclass_is_super, of_chain, direct}

pub in_any : {X : Type 0} (test : X → Bool) (xs : List X) (x : X) → Contains xs x → IsTrue (test x) → IsTrue (list_any test xs)
in_any test [] x h t = absurd (none x h)
in_any test (y ∷ xs) x h t = by_part (λ k. in_any test xs x k t) (split y xs x h)
  where
    left : (a b : Bool) → IsTrue a → IsTrue (a || b)
    left true b h = refl
    left false b h = absurd cc

    right : (a b : Bool) → IsTrue b → IsTrue (a || b)
    right true b h = refl
    right false b h = h

    by_part : (Contains xs x → IsTrue (list_any test xs)) → (y ≡ x) ⊎ Contains xs x → IsTrue (test y || list_any test xs)
    by_part again (inl e) = left (test y) (list_any test xs) (subst (λ z. IsTrue (test z)) (sym e) t)
    by_part again (inr k) = right (test y) (list_any test xs) (again k)

-- ---- names of classes in the world

abbrev pub IsNamedIn : World → Loaded → Type 0
IsNamedIn world l = class_named world l.class.name ≡ Some l

pub superclass_is_named : (world : World) (class : Class) (s : Loaded) → superclass_in world class ≡ Some s → IsNamedIn world s
superclass_is_named world class s e = by_name class.super_class e
  where
    by_name : (o : Option (List ℕ)) → class_if_named world o ≡ Some s → IsNamedIn world s
    by_name None e = absurd cc
    by_name (Some name) e = ap (class_named world) (found_is_named world name s e) ∙ e

-- ---- classes whose names differ

abbrev pub IsFresh : List ℕ → List Loaded → Type 0
IsFresh name ls = AllByRecursion (λ other. bytes_eq name other ≡ false) (names_of ls)

abbrev pub NoTwo : List Loaded → Type 0
NoTwo [] = ⊤
NoTwo (l ∷ ls) = IsFresh l.class.name ls × NoTwo ls

distinct : (ls : List Loaded) → NoTwo ls → IsDistinct bytes_eq (names_of ls)
unfolding IsDistinct
distinct [] h = search
distinct (l ∷ ls) h = IsDistinct-cons bytes_eq l.class.name (names_of ls) h.0 (distinct ls h.1)

all_in_world : (world : World) (ls : List Loaded) → AllOf (IsNamedIn world) ls → (q : List ℕ) → is_member bytes_eq (names_of ls) q ≡ true → is_member bytes_eq (names_of world) q ≡ true
all_in_world world [] all q h = absurd cc
all_in_world world (l ∷ ls) all q h = by_test (bytes_eq q l.class.name) refl (λ k. all_in_world world ls (λ c j. all c (later l ls c j)) q k) h
  where
    by_test : (b : Bool) → bytes_eq q l.class.name ≡ b → (is_member bytes_eq (names_of ls) q ≡ true → is_member bytes_eq (names_of world) q ≡ true) →
        (b || is_member bytes_eq (names_of ls) q) ≡ true → is_member bytes_eq (names_of world) q ≡ true
    by_test true t again h = subst (λ name. is_member bytes_eq (names_of world) name ≡ true) (sym (same_text q l.class.name t)) (named_is_member world l.class.name l (all l (first l ls)))
    by_test false t again h = again h

pub few : (world : World) (ls : List Loaded) → NoTwo ls → AllOf (IsNamedIn world) ls → length ls ≤ length world
few world ls once all =
    let bound = length-le_from_is_member nat_list_eq_equiv (names_of ls) (names_of world) (distinct ls once) (all_in_world world ls all) in
    omega (arith, bound, length-map ls name_of, length-map world name_of)

-- ---- a chain ends where it is not cut off

ends : (world : World) (k : ℕ) (o : Option Loaded) → length (chain_within world (suc k) o) ≤ k → chain_within world k o ≡ chain_within world (suc k) o
ends world zero None h = refl
ends world zero (Some l) h = absurd (omega (arith, h))
ends world (suc k) None h = refl
ends world (suc k) (Some l) h =
    let fewer : length (chain_within world (suc k) (superclass_in world l.class)) ≤ k = omega (arith, h) in
    ap (λ ls. l ∷ ls) (ends world k (superclass_in world l.class) fewer)

chain_is_named : (world : World) (k : ℕ) (o : Option Loaded) → ((s : Loaded) → o ≡ Some s → IsNamedIn world s) → AllOf (IsNamedIn world) (chain_within world k o)
chain_is_named world zero o here c h = absurd (none c h)
chain_is_named world (suc k) None here c h = absurd (none c h)
chain_is_named world (suc k) (Some l) here c h =
    by_part (λ j. chain_is_named world k (superclass_in world l.class) (λ s e. superclass_is_named world l.class s e) c j)
    (split l (chain_within world k (superclass_in world l.class)) c h)
  where
    by_part : (Contains (chain_within world k (superclass_in world l.class)) c → IsNamedIn world c) → (l ≡ c) ⊎ Contains (chain_within world k (superclass_in world l.class)) c → IsNamedIn world c
    by_part again (inl e) = subst (IsNamedIn world) e (here l refl)
    by_part again (inr j) = again j

pub superclasses_are_named : (world : World) (class : Class) → AllOf (IsNamedIn world) (superclasses world class)
superclasses_are_named world class = chain_is_named world (length world) (superclass_in world class) (λ s e. superclass_is_named world class s e)

module _ (ways : AboveByWays) (above_above : AboveIsTransitive) (world : World) where
  -- a chain upward from a class's superclass, however far
  pub chain_is_above : (k : ℕ) (class : Class) → AllOf (λ s. Contains (above world class) s) (chain_within world k (superclass_in world class))
  chain_is_above k class =
      of_chain world (λ s. Contains (above world class) s) (λ by s h j. above_above world class by s h (direct ways above_above world by.class s j)) k (superclass_in world class)
      (λ s e. direct ways above_above world class s (superclass_is_super world class s e))

  abbrev pub NoCircle : Loaded → Type 0
  NoCircle l = IsFalse (is_circular world l.class)

  pub fresh : (l : Loaded) (ls : List Loaded) → NoCircle l → AllOf (λ s. Contains (above world l.class) s) ls → IsFresh l.class.name ls
  fresh l [] straight all = tt
  fresh l (s ∷ ls) straight all = (by_test (bytes_eq l.class.name s.class.name) refl, fresh l ls straight (λ c h. all c (later s ls c h)))
    where
      clash : (b : Bool) → IsTrue b → IsFalse b → ⊥
      clash true h k = absurd cc
      clash false h k = absurd cc

      by_test : (b : Bool) → bytes_eq l.class.name s.class.name ≡ b → bytes_eq l.class.name s.class.name ≡ false
      by_test false e = e
      by_test true e =
          absurd (clash (is_circular world l.class) (in_any (λ x. bytes_eq x.class.name l.class.name) (above world l.class) s (all s (first s ls))
          (nat_list_eq_equiv.symm s.class.name l.class.name ∙ e)) straight)

  chain_once : (k : ℕ) (o : Option Loaded) → AllOf NoCircle (chain_within world k o) → NoTwo (chain_within world k o)
  chain_once zero o straight = tt
  chain_once (suc k) None straight = tt
  chain_once (suc k) (Some l) straight = (
    fresh l (chain_within world k (superclass_in world l.class)) (straight l (first l (chain_within world k (superclass_in world l.class)))) (chain_is_above k l.class),
    chain_once k (superclass_in world l.class) (λ c h. straight c (later l (chain_within world k (superclass_in world l.class)) c h)),
  )

  -- the direct superclass, and then its own
  pub chain_goes_on : (l s : Loaded) → ((c : Loaded) → Contains (above world l.class) c → NoCircle c) → superclass_in world l.class ≡ Some s →
      superclasses world l.class ≡ s ∷ superclasses world s.class
  chain_goes_on l s straight e =
      by_size (length world)
      (few world (chain_within world (suc (length world)) (Some s))
      (chain_once (suc (length world)) (Some s)
      (λ c h. straight c (subst (λ o. (d : Loaded) → Contains (chain_within world (suc (length world)) o) d → Contains (above world l.class) d) e
      (chain_is_above (suc (length world)) l.class) c h)))
      (chain_is_named world (suc (length world)) (Some s) (λ x f. superclass_is_named world l.class x (e ∙ f))))
    where
      by_size : (n : ℕ) → length (chain_within world (suc n) (Some s)) ≤ n → chain_within world n (superclass_in world l.class) ≡ s ∷ chain_within world n (superclass_in world s.class)
      by_size n h = ap (chain_within world n) e ∙ ends world n (Some s) h
