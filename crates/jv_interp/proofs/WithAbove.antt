-- A test of a class and of all above it, by numbers.
use Rattle.std.proofs.Common.{◌≡◌, ◌==◌, ℕ, zero, suc, ◌+◌, ◌<◌, ◌≤◌, Bool, true, false, not, ◌||◌, List, [], ◌∷◌, length, Some, refl, sym, ap, subst, ◌∙◌, arith}
use Rattle.std.specs.Prelude.{IsTrue, slice_get}
use Rattle.std.specs.List.{Contains, list_all}
use Rattle.std.specs.Str.{bytes_eq}
use Rattle.std.proofs.lemmas.Slice.Eq.{bytes_eq-Decides}
use Rattle.std.proofs.lemmas.Bool.{eqb-true, eqb-false}
use Rattle.std.proofs.lemmas.Option.{slice_get_within}
use Rattle.jv_class.specs.Class.{Class}
use Rattle.jv_meaning_world.specs.World.{Loaded, World, class_named}
use Rattle.jv_meaning_world.specs.Above.{above, is_above}
use Rattle.jv_meaning_world.specs.Laws.Above.{IsWayUp}
use Rattle.jv_meaning_world.specs.Numbers.{IsNumbered, number_named}
use Rattle.jv_meaning_world.proofs.Up.{above_by_ways, super_is_named, named_stands, same_name, none, first, later}
use Rattle.jv_meaning_world.proofs.OrderChains.{any_made, any_found, all_at}
use Rattle.jv_interp.specs.VerifiedClasses.{TellsEach, AreToldBefore, holds_with_above, holds_if_above}

-- ---- what is above a class stands in the world

above_is_named : (world : World) (class : Class) (to : Loaded) → Contains (above world class) to → class_named world to.class.name ≡ Some to
above_is_named world class to h = let way = (above_by_ways world class to).0 h in by_way class way.0 way.1
  where
    by_way : (c : Class) (between : List Loaded) → IsWayUp world c between to → class_named world to.class.name ≡ Some to
    by_way c [] w = super_is_named world c to w
    by_way c (b ∷ more) w = by_way b.class more w.1

place_of : {X : Type 0} (xs : List X) (x : X) → Contains xs x → (k : ℕ) × (slice_get xs k ≡ Some x)
place_of [] x h = absurd (none x h)
place_of (y ∷ xs) x (zero, less, e) = (0, ap (λ z. Some z) e)
place_of (y ∷ xs) x (suc k, less, e) = let there = place_of xs x (k, omega (arith, less), e) in (suc there.0, there.1)

-- ---- all of them pass a test where each of the world's that is above does

all_by_each : {X : Type 0} (test : X → Bool) (xs : List X) → ((x : X) → Contains xs x → test x ≡ true) → list_all test xs ≡ true
all_by_each test [] each = refl
all_by_each test (x ∷ xs) each = rw (each x (first x xs)) (all_by_each test xs (λ y h. each y (later x xs y h)))

name_itself : (a : List ℕ) → bytes_eq a a ≡ true
name_itself a = (bytes_eq-Decides a a).1 refl

module _ (world : World) (numbered : IsNumbered world) (test : Loaded → Bool) (l : Loaded) where
  pub all_hold :
      ((k : ℕ) (to : Loaded) → slice_get world k ≡ Some to → is_above world to.class.name l.class ≡ true → test to ≡ true)
      → list_all test (above world l.class) ≡ true
  all_hold each = all_by_each test (above world l.class) (λ s h.
      let named = above_is_named world l.class s h in
      let place = place_of world s (named_stands world s.class.name s named) in
      each place.0 s place.1 (any_made (λ (t : Loaded). bytes_eq t.class.name s.class.name) (above world l.class) s h (name_itself s.class.name)))

  pub one_fails :
      (k : ℕ) (to : Loaded) → slice_get world k ≡ Some to → is_above world to.class.name l.class ≡ true → test to ≡ false
      → list_all test (above world l.class) ≡ false
  one_fails k to at is off = by_all (list_all test (above world l.class)) refl
    where
      there : (s : Loaded) × Contains (above world l.class) s × IsTrue (bytes_eq s.class.name to.class.name)
      there = any_found (λ (t : Loaded). bytes_eq t.class.name to.class.name) (above world l.class) is

      same_class : there.0 ≡ to
      same_class =
          let s = there.0 in
          let place = place_of world s (named_stands world s.class.name s (above_is_named world l.class s there.1)) in
          let here = numbered place.0 s place.1 in
          let other = numbered k to at in
          let name = same_name s.class.name to.class.name there.2 in
          let numbers : Some place.0 ≡ Some k = sym here ∙ ap (number_named world) name ∙ other in
          same_at (sym place.1 ∙ ap (slice_get world) (same_number numbers) ∙ at)
        where
          same_number : {a b : ℕ} → Some a ≡ Some b → a ≡ b
          same_number e = cc

          same_at : {a b : Loaded} → Some a ≡ Some b → a ≡ b
          same_at e = cc

      by_all : (b : Bool) → list_all test (above world l.class) ≡ b → b ≡ false
      by_all false e = refl
      by_all true e =
          let holds : test to ≡ true = subst (λ (s : Loaded). test s ≡ true) same_class (all_at test (above world l.class) there.0 e there.1) in
          let clash : true ≡ false = sym holds ∙ off in
          clash

-- ---- class by class

-- what flags tell of is true of each class before this one that is above the class
abbrev pub HoldsBefore : World → List Bool → ℕ → ℕ → Type 0
HoldsBefore world flags class other =
    (test : Loaded → Bool) → TellsEach world flags test → (l : Loaded) → slice_get world class ≡ Some l
    → (k : ℕ) (to : Loaded) → k < other → slice_get world k ≡ Some to → is_above world to.class.name l.class ≡ true → test to ≡ true

-- and of each class before this one it is told whether it is true of it with all above
abbrev pub ToldBefore : World → List Bool → ℕ → List Bool → Type 0
ToldBefore world flags class all =
    (test : Loaded → Bool) → TellsEach world flags test → (k : ℕ) (l : Loaded) → k < class → slice_get world k ≡ Some l
    → slice_get all k ≡ Some (holds_with_above world test l)

pub told_if : (b c : Bool) (result : Bool) → result ≡ c → b ≡ true → result ≡ (not b || c)
told_if true c result e f = e
told_if false c result e f = absurd cc

class_there : (world : World) (k : ℕ) → k < length world → (l : Loaded) × (slice_get world k ≡ Some l)
class_there [] k h = absurd (omega (arith, h))
class_there (l ∷ world) zero h = (l, refl)
class_there (l ∷ world) (suc k) h = class_there world k (omega (arith, h))

-- flags tell true of one more
pub told_next : (flags : List Bool) (count : ℕ) (told : Bool) → told ≡ true → ((t : Bool) → slice_get flags count ≡ Some t → told ≡ t)
    → AreToldBefore flags count → AreToldBefore flags (count + 1)
told_next flags count told on is before number t less at = by_number (number == count) refl
  where
    by_number : (b : Bool) → (number == count) ≡ b → t ≡ true
    by_number true e = sym (is t (subst (λ (n : ℕ). slice_get flags n ≡ Some t) (eqb-true number count e) at)) ∙ on
    by_number false e =
        let unlike = eqb-false number count e in
        before number t (omega (arith, less, unlike)) at

module _ (world : World) (flags : List Bool) (class other : ℕ) where
  pub next_holds :
      HoldsBefore world flags class other
      → ((test : Loaded → Bool) → TellsEach world flags test → (l : Loaded) → slice_get world class ≡ Some l
      → (to : Loaded) → slice_get world other ≡ Some to → true ≡ holds_if_above world test l to)
      → HoldsBefore world flags class (other + 1)
  next_holds before here test tells l at k to less at_k is = by_place (k == other) refl
    where
      by_above : (b c : Bool) → true ≡ (not b || c) → b ≡ true → c ≡ true
      by_above true c e f = sym e
      by_above false c e f = absurd cc

      by_place : (b : Bool) → (k == other) ≡ b → test to ≡ true
      by_place true e =
          let same = eqb-true k other e in
          by_above (is_above world to.class.name l.class) (test to) (here test tells l at to (subst (λ (n : ℕ). slice_get world n ≡ Some to) same at_k)) is
      by_place false e =
          let unlike = eqb-false k other e in
          before test tells l at k to (omega (arith, less, unlike)) at_k is

  pub fails :
      IsNumbered world → other < length world
      → ((test : Loaded → Bool) → TellsEach world flags test → (l : Loaded) → slice_get world class ≡ Some l
      → (to : Loaded) → slice_get world other ≡ Some to → false ≡ holds_if_above world test l to)
      → (test : Loaded → Bool) → TellsEach world flags test → (l : Loaded) → slice_get world class ≡ Some l → false ≡ list_all test (above world l.class)
  fails numbered within here test tells l at =
      let there = class_there world other within in
      let to = there.0 in
      let both = neither (is_above world to.class.name l.class) (test to) (here test tells l at to there.1) in
      sym (one_fails world numbered test l other to there.1 both.0 both.1)
    where
      neither : (b c : Bool) → false ≡ (not b || c) → (b ≡ true) × (c ≡ false)
      neither true c e = (refl, sym e)
      neither false c e = absurd cc

  pub hold :
      IsNumbered world → length world ≤ other → HoldsBefore world flags class other
      → (test : Loaded → Bool) → TellsEach world flags test → (l : Loaded) → slice_get world class ≡ Some l → true ≡ list_all test (above world l.class)
  hold numbered past before test tells l at =
      sym (all_hold world numbered test l (λ k to at_k is.
      let within = slice_get_within world k to at_k in
      before test tells l at k to (omega (arith, past, within)) at_k is))
