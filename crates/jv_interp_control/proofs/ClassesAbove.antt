-- A class is another one or below it, by their numbers (JVMS 6.5).
use Rattle.std.proofs.Common.{◌≡◌, ℕ, Bool, true, false, ◌||◌, nat_eq, List, Option, Some, slice_get, refl, sym, ap, ◌∙◌, arith}
use Rattle.std.specs.Str.{bytes_eq}
use Rattle.std.specs.Cmp.Lexicographic.{nat_list_eq_equiv}
use Rattle.std.proofs.lemmas.Bool.{eqb-true}
use Rattle.jv_meaning_world.specs.World.{Loaded, World, class_named}
use Rattle.jv_meaning_world.specs.Above.{is_above}
use Rattle.jv_meaning_world.specs.Numbers.{IsNumbered}
use Rattle.jv_classes.proofs.Numbers.{number_at}
use Rattle.jv_meaning_machine.specs.Objects.{is_below, is_at_or_below}
use Rattle.jv_interp_control.proofs.StatesSet.{other_name}

same_some : {A : Type 0} (x y : A) → Some x ≡ Some y → x ≡ y
same_some x y e = cc

pub either : (a b : Bool) → a ≡ false → (a || b) ≡ b
either a b e = ap (λ (x : Bool). x || b) e

pub unlike : (x y : ℕ) → (x ≡ y → ⊥) → nat_eq x y ≡ false
unlike x y apart = by_test (nat_eq x y) refl
  where
    by_test : (b : Bool) → nat_eq x y ≡ b → b ≡ false
    by_test true e = absurd (apart (eqb-true x y e))
    by_test false e = refl

-- ---- by number

module _ (world : World) (numbers : IsNumbered world) (class : ℕ) (l : Loaded) (at : slice_get world class ≡ Some l) where
  pub own_name : class_named world l.class.name ≡ Some l
  own_name = number_at world l.class.name class (numbers class l at) ∙ at

  below_by : (other : List ℕ) → is_at_or_below world l.class.name other ≡ (bytes_eq l.class.name other || is_above world other l.class)
  below_by other = ap (λ (o : Option Loaded). bytes_eq l.class.name other || is_below world o other) own_name

  pub by_numbers :
      (other : ℕ) (to : Loaded) → slice_get world other ≡ Some to
      → is_at_or_below world l.class.name to.class.name ≡ (nat_eq class other || is_above world to.class.name l.class)
  by_numbers other to there = below_by to.class.name ∙ by_test (nat_eq class other) refl
    where
      differ : (x y : ℕ) → nat_eq x y ≡ false → x ≡ y → ⊥
      differ x y e same = absurd (grind (arith, e, same))

      by_test :
          (b : Bool) → nat_eq class other ≡ b
          → (bytes_eq l.class.name to.class.name || is_above world to.class.name l.class) ≡ (b || is_above world to.class.name l.class)
      by_test true e =
          let same : l ≡ to = same_some l to (sym at ∙ ap (slice_get world) (eqb-true class other e) ∙ there) in
          ap (λ (m : Loaded). bytes_eq l.class.name m.class.name || is_above world to.class.name l.class) (sym same)
          ∙ ap (λ (b : Bool). b || is_above world to.class.name l.class) (nat_list_eq_equiv.refl l.class.name)
      by_test false e =
          ap (λ (b : Bool). b || is_above world to.class.name l.class) (other_name world class other l to numbers at there (differ class other e))
