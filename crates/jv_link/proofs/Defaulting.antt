-- Whether a class has a default, method by method.
use Rattle.std.proofs.Common.{◌≡◌, ℕ, zero, suc, ◌+◌, ◌<◌, ◌≤◌, Bool, true, false, ◌||◌, List, [], ◌∷◌, ◌++◌, length, get_or, drop, Option, Some, None, refl, sym, ap, ◌∙◌, append_assoc, append-nil, arith}
use Rattle.std.specs.Prelude.{slice_get, if◌then◌else◌}
use Rattle.std.specs.List.{All, list_any, filter_map, cons_option}
use Rattle.std.specs.Option.{option_map}
use Rattle.jv_format.specs.Format.{◌>>=◌}
use Rattle.jv_class.specs.Class.{Method}
use Rattle.jv_meaning_world.specs.World.{Loaded, World, class_named}
use Rattle.jv_meaning_world.specs.Above.{superclass_names}
use Rattle.jv_meaning_world.specs.Overriding.{Declared}
use Rattle.jv_meaning_world.specs.Verdicts.{declared_by}
use Rattle.jv_meaning_world.specs.Numbers.{number_named, superclass_number}
use Rattle.jv_meaning_world.proofs.Lists.{drop_one_more}
use Rattle.jv_meaning_world.specs.Numbers.{HoldsAtNumber}
use Rattle.jv_classes.proofs.Followed.{at_named, some_class}
use Rattle.jv_lookups.specs.declared.place.Place.{Place}
use Rattle.jv_lookups.specs.Places.{method_of, method_at}
use Rattle.jv_meaning_world.specs.Numbers.{classes_at}
use Rattle.jv_lookups.proofs.Among.{one_behind}
use Rattle.jv_lookups.proofs.Found.{one_class_more, no_class_left}
use Rattle.jv_lookups.proofs.Next.{those_at}
use Rattle.jv_meaning_typing.specs.InitializationOrder.{is_default, declares_default}
use Rattle.jv_link.specs.Inside.Enumerating.{with_default, superclass_first}

-- ---- numbers of one class

one_super : (world : World) (name : Option (List ℕ)) → those_at world ((name >>= number_named world) ∷ []) ≡ filter_map (class_named world) (superclass_names name)
one_super world None = refl
one_super world (Some name) = ap (λ o. cons_option o []) (at_named world name)

pub no_superclass : (world : World) (l : Loaded) → superclass_number world l.class ≡ None → [] ≡ superclass_first world l
no_superclass world l e = sym (ap (λ (o : Option ℕ). those_at world (o ∷ [])) e) ∙ one_super world l.class.super_class

pub one_superclass : (world : World) (l : Loaded) (k : ℕ) → superclass_number world l.class ≡ Some k → classes_at world (k ∷ []) ≡ superclass_first world l
one_superclass world l k e = sym (ap (λ (o : Option ℕ). those_at world (o ∷ [])) e) ∙ one_super world l.class.super_class

pub one_number : (size n : ℕ) → n < size → All (λ j. j < size) (n ∷ [])
one_number size n h zero d less = h
one_number size n h (suc k) d less = absurd (omega (arith, less))

-- ---- methods

pub method_there : (world : World) (place : Place) (l : Loaded) (d : Declared) → slice_get world place.class ≡ Some l → method_at world place ≡
    Some d → slice_get l.class.methods place.member ≡ Some d.method
method_there world place l d at e = by_method (slice_get l.class.methods place.member) (sym (ap (λ o. o >>= method_of place.member) at) ∙ e)
  where
    by_method : (o : Option Method) → option_map (declared_by l) o ≡ Some d → o ≡ Some d.method
    by_method None e = absurd cc
    by_method (Some m) e = ap (λ o. option_map (λ (x : Declared). x.method) o) e

pub has_default : (l : Loaded) (i : ℕ) (m : Method) → slice_get l.class.methods i ≡ Some m → is_default m ≡ true → list_any is_default
    (drop i l.class.methods) ≡ declares_default l → true ≡ declares_default l
has_default l i m at is left = sym (ap (list_any is_default) (drop_one_more l.class.methods i m at) ∙ ap (λ b. b || list_any is_default (drop (i + 1) l.class.methods)) is) ∙ left

pub no_default : (l : Loaded) (i : ℕ) (m : Method) → slice_get l.class.methods i ≡ Some m → is_default m ≡ false → list_any is_default
    (drop i l.class.methods) ≡ declares_default l → list_any is_default (drop (i + 1) l.class.methods) ≡ declares_default l
no_default l i m at is left = sym (ap (list_any is_default) (drop_one_more l.class.methods i m at) ∙ ap (λ b. b || list_any is_default (drop (i + 1) l.class.methods)) is) ∙ left

past_all : {X : Type 0} → (test : X → Bool) (xs : List X) (i : ℕ) → length xs ≤ i → list_any test (drop i xs) ≡ false
past_all test [] zero h = refl
past_all test [] (suc i) h = refl
past_all test (x ∷ xs) zero h = absurd (omega (arith, h))
past_all test (x ∷ xs) (suc i) h = let less : length xs ≤ i = omega (arith, h) in past_all test xs i less

pub none_default : (l : Loaded) (i : ℕ) → length l.class.methods ≤ i → list_any is_default (drop i l.class.methods) ≡ declares_default l → false ≡ declares_default l
none_default l i h left = sym (past_all is_default l.class.methods i h) ∙ left

-- ---- interfaces

abbrev pub IsDefaultLeft : World → List ℕ → List ℕ → ℕ → List ℕ → Type 0
IsDefaultLeft world before interfaces place order = (classes_at world order ++ with_default (classes_at world (drop place interfaces))) ≡
    (classes_at world before ++ with_default (classes_at world interfaces))

with_one : (c : Loaded) (ls : List Loaded) → with_default (c ∷ ls) ≡ with_default (c ∷ []) ++ with_default ls
with_one c ls = by_test (declares_default c)
  where
    by_test : (b : Bool) → (if b then c ∷ with_default ls else with_default ls) ≡ (if b then c ∷ [] else []) ++ with_default ls
    by_test true = refl
    by_test false = refl

pub default_more : (world : World) (before interfaces order more : List ℕ) (place k : ℕ) → place < length interfaces → get_or interfaces place 0 ≡ k → k < length world
    → HoldsAtNumber world k (λ l. classes_at world more ≡ classes_at world order ++ with_default (l ∷ [])) → IsDefaultLeft world before interfaces
    place order → IsDefaultLeft world before interfaces (place + 1) more
default_more world before interfaces order more place k h e less is left =
    let class = some_class world k less in
    let rest = classes_at world (drop (place + 1) interfaces) in
    ap (λ ls. ls ++ with_default rest) (is class.0 class.1)
    ∙ (append_assoc (classes_at world order) (with_default (class.0 ∷ [])) (with_default rest)
    ∙ (ap (λ ls. classes_at world order ++ ls) (sym (with_one class.0 rest))
    ∙ (ap (λ ls. classes_at world order ++ with_default ls) (sym (one_class_more world interfaces place k class.0 h e class.1)) ∙ left)))

pub default_end : (world : World) (before interfaces order : List ℕ) (place : ℕ) → length interfaces ≡ place → IsDefaultLeft world before interfaces
    place order → classes_at world order ≡ classes_at world before ++ with_default (classes_at world interfaces)
default_end world before interfaces order place e left =
    sym (append-nil (classes_at world order)) ∙ (ap (λ ls. classes_at world order ++ with_default ls) (sym (no_class_left world interfaces place e)) ∙ left)

pub added_default : (world : World) (order : List ℕ) (k : ℕ) (l : Loaded) → slice_get world k ≡ Some l → declares_default l ≡ true →
    classes_at world (order ++ k ∷ []) ≡ classes_at world order ++ with_default (l ∷ [])
added_default world order k l at is = one_behind world k l order at ∙ ap (λ b. classes_at world order ++ (if b then l ∷ [] else [])) (sym is)

pub left_out : (world : World) (order : List ℕ) (l : Loaded) → declares_default l ≡ false → classes_at world order ≡ classes_at world order ++ with_default (l ∷ [])
left_out world order l is = sym (append-nil (classes_at world order)) ∙ ap (λ b. classes_at world order ++ (if b then l ∷ [] else [])) (sym is)
