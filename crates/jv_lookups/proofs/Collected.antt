-- The specific methods, collected class by class: none, one or several.
use Rattle.std.proofs.Common.{◌≡◌, ℕ, ◌+◌, ◌<◌, ◌++◌, List, [], ◌∷◌, length, get_or, drop, Option, Some, None, refl, sym, ap, ◌∙◌, subst, false}
use Rattle.std.specs.Prelude.{IfSome, is_some, slice_get}
use Rattle.std.specs.List.{filter_map, cons_option}
use Rattle.std.specs.Option.{option_and_then}
use Rattle.jv_meaning_world.specs.World.{Loaded, World}
use Rattle.jv_meaning_world.specs.Overriding.{Declared}
use Rattle.jv_meaning_world.specs.LookUps.{only}
use Rattle.jv_meaning_world.specs.Numbers.{HoldsAtNumber, classes_at}
use Rattle.jv_lookups.specs.declared.place.Place.{Place}
use Rattle.jv_lookups.specs.Defaults.{AreSeveral}
use Rattle.jv_lookups.specs.Places.{method_at, IsMethodPlace}
use Rattle.jv_lookups.specs.declared.defaults.Defaults.TheVariants.{Absent, One}
use Rattle.jv_lookups.specs.Inside.Members.{candidates_at, specific_in, AreSpecifics}
use Rattle.jv_lookups.proofs.Standing.{method_stands}
use Rattle.jv_lookups.proofs.Tests.{none_found}
use Rattle.jv_lookups.proofs.Found.{one_class_more, no_class_left}

-- what was found before, and behind it what the rest has
abbrev pub before : {A : Type 0} → Option A → List A
before None = []
before (Some a) = a ∷ []

abbrev pub AreLeft : World → (Loaded → Option Declared) → List ℕ → ℕ → Option Declared → Type 0
AreLeft world look searched place found = (before found ++ filter_map look (classes_at world (drop place searched))) ≡ filter_map look (classes_at world searched)

abbrev pub specific_at : World → List ℕ → List ℕ → List ℕ → Loaded → Loaded → Option Declared
specific_at world searched name descriptor l c = specific_in world (candidates_at world searched name descriptor l) name descriptor l c

pub record LeavesSpecifics (world : World) (from : ℕ) (searched name descriptor : List ℕ) (place : ℕ) (found : Option Place) : Type 0 where
  pub stands : IfSome found (IsMethodPlace world)
  pub left : HoldsAtNumber world from (λ l. AreLeft world (specific_at world searched name descriptor l) searched place (option_and_then (method_at world) found))

module _ (world : World) (look : Loaded → Option Declared) (searched : List ℕ) where
  opened : (i k : ℕ) (c : Loaded) (o found : Option Declared) → i < length searched → get_or searched i 0 ≡ k → slice_get world k ≡ Some c → look c ≡ o → AreLeft world look searched i found
      → (before found ++ cons_option o (filter_map look (classes_at world (drop (i + 1) searched)))) ≡ filter_map look (classes_at world searched)
  opened i k c o found h e at is left =
      ap (λ p. before found ++ cons_option p (filter_map look (classes_at world (drop (i + 1) searched)))) (sym is)
      ∙ (ap (λ cs. before found ++ filter_map look cs) (sym (one_class_more world searched i k c h e at)) ∙ left)

  pub none_more : (i k : ℕ) (c : Loaded) (found : Option Declared) → i < length searched → get_or searched i 0 ≡ k → slice_get world k ≡ Some c →
      look c ≡ None → AreLeft world look searched i found → AreLeft world look searched (i + 1) found
  none_more i k c found h e at is left = opened i k c None found h e at is left

  pub first_one : (i k : ℕ) (c : Loaded) (d : Declared) → i < length searched → get_or searched i 0 ≡ k → slice_get world k ≡ Some c → look c ≡
      Some d → AreLeft world look searched i None → AreLeft world look searched (i + 1) (Some d)
  first_one i k c d h e at is left = opened i k c (Some d) None h e at is left

  pub two : (i k : ℕ) (c : Loaded) (b d : Declared) → i < length searched → get_or searched i 0 ≡ k → slice_get world k ≡ Some c → look c ≡ Some d →
      AreLeft world look searched i (Some b) → AreSeveral (filter_map look (classes_at world searched))
  two i k c b d h e at is left = record {
    one = b;
    other = d;
    more = filter_map look (classes_at world (drop (i + 1) searched));
    all = sym (opened i k c (Some d) (Some b) h e at is left);
  }

  pub no_more : (i : ℕ) (found : Option Declared) → length searched ≡ i → AreLeft world look searched i found → filter_map look (classes_at world searched) ≡ before found
  no_more i found e left = sym left ∙ (ap (λ cs. before found ++ filter_map look cs) (no_class_left world searched i e) ∙ nothing_behind found)
    where
      nothing_behind : (o : Option Declared) → (before o ++ []) ≡ before o
      nothing_behind None = refl
      nothing_behind (Some a) = refl

module _ (world : World) (from : ℕ) (searched name descriptor : List ℕ) (i k : ℕ) (c : Loaded) (found : Option Place) where
  pub leaves_as_before : i < length searched → get_or searched i 0 ≡ k → slice_get world k ≡ Some c → HoldsAtNumber world from (λ l. None ≡ specific_at world searched name descriptor l c)
      → LeavesSpecifics world from searched name descriptor i found → LeavesSpecifics world from searched name descriptor (i + 1) found
  leaves_as_before h e at none on = record {
    stands = on.stands;
    left = λ l at_l. none_more world (specific_at world searched name descriptor l) searched i k c (option_and_then (method_at world) found) h e at (sym (none l at_l)) (on.left l at_l);
  }

  pub leaves_one : (place : Place) → i < length searched → get_or searched i 0 ≡ k → slice_get world k ≡ Some c → HoldsAtNumber world from
      (λ l. method_at world place ≡ specific_at world searched name descriptor l c) → IsMethodPlace world place → is_some found ≡ false
      → LeavesSpecifics world from searched name descriptor i found → LeavesSpecifics world from searched name descriptor (i + 1) (Some place)
  leaves_one place h e at some stands empty on = record {
    stands = stands;
    left = λ l at_l.
        let look = specific_at world searched name descriptor l in
        let there = method_stands world place stands in
        subst (AreLeft world look searched (i + 1)) (sym there.1)
        (first_one world look searched i k c there.0 h e at (sym (some l at_l) ∙ there.1) (subst (AreLeft world look searched i) (none_found world found empty) (on.left l at_l)));
  }

-- ---- at the end

module _ (world : World) (from : ℕ) (searched name descriptor : List ℕ) (i : ℕ) (found : Option Place) (size : length searched ≡ i)
    (on : LeavesSpecifics world from searched name descriptor i found) where
  pub one_alone : (place : Place) → found ≡ Some place → AreSpecifics world from searched name descriptor (One place)
  one_alone place e = λ l at_l.
      let look = specific_at world searched name descriptor l in
      let there = method_stands world place (subst (λ o. IfSome o (IsMethodPlace world)) e on.stands) in
      (there.0, there.1, no_more world look searched i (Some there.0) size (subst (AreLeft world look searched i) (ap (option_and_then (method_at world)) e ∙ there.1) (on.left l at_l)))

  pub none_at_all : found ≡ None → AreSpecifics world from searched name descriptor Absent
  none_at_all e = λ l at_l.
      let look = specific_at world searched name descriptor l in
      no_more world look searched i None size (subst (AreLeft world look searched i) (ap (option_and_then (method_at world)) e) (on.left l at_l))

pub none_of_several : (methods : List Declared) → AreSeveral methods → None ≡ only methods
none_of_several methods are = sym (ap only are.all)
