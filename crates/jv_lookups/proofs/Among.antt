-- Numbers that are there, and classes that are among others.
use Rattle.std.proofs.Common.{◌≡◌, ℕ, suc, ◌<◌, Bool, true, false, ◌||◌, List, [], ◌∷◌, ◌++◌, length, nat_eq, Some, refl, sym, ap, ◌∙◌, subst, arith}
use Rattle.std.specs.Prelude.{slice_get}
use Rattle.std.specs.List.{All, list_any, cons_option}
use Rattle.std.specs.Str.{bytes_eq}
use Rattle.std.specs.Cmp.Lexicographic.{nat_list_eq_equiv}
use Rattle.std.proofs.lemmas.Bool.{eqb-true, eqb-false}
use Rattle.std.proofs.lemmas.List.Elements.{filter_map-append}
use Rattle.jv_meaning_world.specs.World.{Loaded, World}
use Rattle.jv_meaning_world.specs.LookUps.{is_among}
use Rattle.jv_meaning_world.specs.Numbers.{IsNumbered}
use Rattle.jv_classes.proofs.Told.{other_name}
use Rattle.jv_classes.proofs.Ways.{one_class}
use Rattle.jv_classes.proofs.Followed.{some_class}
use Rattle.jv_meaning_world.specs.Numbers.{classes_at, AreNumbers}

-- classes have one name where they have one number
pub same_test : (world : World) → IsNumbered world → (a b : ℕ) (l m : Loaded) → slice_get world a ≡ Some l → slice_get world b ≡ Some m → nat_eq a b ≡ bytes_eq m.class.name l.class.name
same_test world numbers a b l m at_a at_b = by_test (nat_eq a b) refl
  where
    by_test : (t : Bool) → nat_eq a b ≡ t → t ≡ bytes_eq m.class.name l.class.name
    by_test true e =
        let same : l ≡ m = one_class (slice_get world a) l m at_a (ap (slice_get world) (eqb-true a b e) ∙ at_b) in
        sym (subst (λ (x : Loaded). bytes_eq m.class.name x.class.name ≡ true) (sym same) (nat_list_eq_equiv.refl m.class.name))
    by_test false e = sym (other_name world numbers b a m l at_b at_a (λ f. eqb-false a b e (sym f)))

pub one_more : (world : World) (k : ℕ) (l : Loaded) (numbers : List ℕ) → slice_get world k ≡ Some l → classes_at world (k ∷ numbers) ≡ l ∷ classes_at world numbers
one_more world k l numbers e = ap (λ o. cons_option o (classes_at world numbers)) e

all_first : (size n : ℕ) (numbers : List ℕ) → All (λ j. j < size) (n ∷ numbers) → n < size
all_first size n numbers h = h 0 n (omega arith)

all_rest : (size n : ℕ) (numbers : List ℕ) → All (λ j. j < size) (n ∷ numbers) → All (λ j. j < size) numbers
all_rest size n numbers h = λ k d less. h (suc k) d (omega (arith, less))

pub among : (world : World) → IsNumbered world → (k : ℕ) (l : Loaded) (numbers : List ℕ) → slice_get world k ≡ Some l → AreNumbers world numbers →
    list_any (nat_eq k) numbers ≡ is_among (classes_at world numbers) l
among world numbered k l [] at h = refl
among world numbered k l (n ∷ numbers) at h =
    let class = some_class world n (all_first (length world) n numbers h) in
    ap (λ b. b || list_any (nat_eq k) numbers) (same_test world numbered k n l class.0 at class.1)
    ∙ (ap (λ b. bytes_eq class.0.class.name l.class.name || b) (among world numbered k l numbers at (all_rest (length world) n numbers h))
    ∙ ap (λ ls. is_among ls l) (sym (one_more world n class.0 numbers class.1)))

pub one_behind : (world : World) (k : ℕ) (l : Loaded) (numbers : List ℕ) → slice_get world k ≡ Some l → classes_at world (numbers ++ k ∷ []) ≡ classes_at world numbers ++ l ∷ []
one_behind world k l numbers e = filter_map-append (slice_get world) numbers (k ∷ []) ∙ ap (λ ls. classes_at world numbers ++ ls) (one_more world k l [] e)
