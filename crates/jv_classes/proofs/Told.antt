-- What rows of numbers tell of a world.
use Rattle.std.proofs.Common.{◌≡◌, ℕ, zero, suc, ◌<◌, Bool, true, false, ◌||◌, List, [], ◌∷◌, map, length, get_or, nat_eq, Option, Some, None, refl, sym, ap, ◌∙◌, subst, inl, inr, arith}
use Rattle.std.specs.Prelude.{◌↔◌, ◌⊎◌, IsTrue, slice_get}
use Rattle.std.specs.Global.{Vec}
use Rattle.std.specs.List.{All, Contains, list_any}
use Rattle.std.proofs.lemmas.Bool.{eqb-true, eqb-false}
use Rattle.std.proofs.lemmas.List.{length-map, get_or-map, map-append}
use Rattle.std.proofs.lemmas.List.Elements.{Contains-append_cases, All-cons, All-append}
use Rattle.std.proofs.lemmas.Option.{slice_get-get_or}
use Rattle.jv_format.specs.Format.{◌>>=◌}
use Rattle.jv_classes.specs.Ways.{Rows, related, IsBelowSize, is_there}
use Rattle.jv_class.specs.Class.{Class}
use Rattle.jv_meaning_world.specs.World.{Loaded, World, class_named}
use Rattle.jv_meaning_world.specs.Above.{super_names, superclass_names, class_if_named}
use Rattle.jv_meaning_world.proofs.Up.{none, first, later, single, same_name, found_super}
use Rattle.std.specs.Str.{bytes_eq}
use Rattle.jv_meaning_world.proofs.Standing.{named_super}
use Rattle.jv_meaning_world.specs.Numbers.{number_named, super_numbers, superclass_number, IsNumbered}
use Rattle.jv_classes.specs.Once.{each_once, direct_numbers}
use Rattle.jv_classes.specs.Inside.Direct.{IsDirectSuper, IsDirect, IsSuperclass}
use Rattle.jv_classes.specs.Inside.Rows.{row_of, numbers_of, all_direct_numbers, AreAllBelow}
use Rattle.jv_classes.proofs.Numbers.{numbered, number_at, position_within}
use Rattle.jv_classes.proofs.OnceEach.{any_behind, each_of_once}
use Rattle.jv_classes.proofs.Rows.{row_there, told_at}

-- ---- rows

pub many_rows : (world : World) (rows : List (Vec (Option ℕ))) → numbers_of rows ≡ all_direct_numbers world → length rows ≡ length world
many_rows world rows e = sym (length-map rows row_of) ∙ (ap length e ∙ length-map world _)

pub row_of_class : (world : World) (rows : List (Vec (Option ℕ))) (from : ℕ) (v : Vec (Option ℕ)) (c : Loaded) → numbers_of rows ≡
    all_direct_numbers world → from < length world → v ≡ get_or rows from v → c ≡ get_or world from c
    → v.items ≡ direct_numbers world c.class
row_of_class world rows from v c e h is c_is =
    sym (row_there rows from v (subst (λ n. from < n) (sym (many_rows world rows e)) h) is)
    ∙ (ap (λ rs. get_or rs from []) e ∙ (get_or-map (λ l. direct_numbers world l.class) world from c [] h ∙ ap (λ l. direct_numbers world l.class) (sym c_is)))

-- ---- numbers are below

pub named_below : (world : World) (name : List ℕ) → IsBelowSize (length world) (number_named world name)
named_below world name = by_number (number_named world name) refl
  where
    by_number : (o : Option ℕ) → number_named world name ≡ o → IsBelowSize (length world) o
    by_number None e = tt
    by_number (Some k) e = position_within _ world k e

pub superclass_below : (world : World) (name : Option (List ℕ)) → IsBelowSize (length world) (name >>= number_named world)
superclass_below world None = tt
superclass_below world (Some name) = named_below world name

-- ---- one number

same_number : (b : ℕ) → IsTrue (nat_eq b b)
same_number b = elim (nat_eq b b) as (λ t. nat_eq b b ≡ t → IsTrue t) [
  | true ↦ λ e. refl
  | false ↦ λ e. absurd (eqb-false b b e refl)
] refl

pub same_some : {X : Type 0} → (o : Option X) (x y : X) → o ≡ Some x → o ≡ Some y → x ≡ y
same_some o x y e f = same (sym e ∙ f)
  where
    same : Some x ≡ Some y → x ≡ y
    same e = cc

pub stands_at : (world : World) (name : List ℕ) (k : ℕ) → number_named world name ≡ Some k → (to : Loaded) × (slice_get world k ≡ Some to) × (class_named world name ≡ Some to)
stands_at world name k e = by_class (class_named world name) refl
  where
    by_class : (o : Option Loaded) → class_named world name ≡ o → (to : Loaded) × (slice_get world k ≡ Some to) × (class_named world name ≡ Some to)
    by_class (Some to) f = (to, sym (number_at world name k e) ∙ f, f)
    by_class None f = absurd (nothing world k (position_within _ world k e) (sym (number_at world name k e) ∙ f))
      where
        clash : {x : Loaded} → Some x ≡ None → ⊥
        clash g = cc

        nothing : (w : World) (i : ℕ) → i < length w → slice_get w i ≡ None → ⊥
        nothing [] i less g = absurd (omega (arith, less))
        nothing (x ∷ w) i less g = clash (sym (slice_get-get_or (x ∷ w) i x less) ∙ g)

number_of : (world : World) → IsNumbered world → (name : List ℕ) (b : ℕ) (to : Loaded) → class_named world name ≡ Some to → slice_get world b ≡ Some to → number_named world name ≡ Some b
number_of world numbers name b to e at_b =
    let place = numbered world name to e in
    let same : place.0 ≡ b = same_some (number_named world to.class.name) place.0 b (numbers place.0 to place.2) (numbers b to at_b) in
    place.1 ∙ ap (λ n. Some n) same

pub at_map : {Y : Type 0} → (f : Loaded → Y) (world : World) (a : ℕ) (l : Loaded) (d : Y) → slice_get world a ≡ Some l → get_or (map f world) a d ≡ f l
at_map f [] a l d e = absurd (past a e)
  where
    past : (k : ℕ) → slice_get [] k ≡ Some l → ⊥
    past zero e = absurd cc
    past (suc k) e = absurd cc
at_map f (x ∷ world) zero l d e = ap f (same e)
  where
    same : Some x ≡ Some l → x ≡ l
    same e = cc
at_map f (x ∷ world) (suc k) l d e = at_map f world k l d e

pub past_map : {Y : Type 0} → (f : Loaded → Y) (world : World) (a : ℕ) (d : Y) → slice_get world a ≡ None → get_or (map f world) a d ≡ d
past_map f [] zero d e = refl
past_map f [] (suc k) d e = refl
past_map f (x ∷ world) zero d e = absurd cc
past_map f (x ∷ world) (suc k) d e = past_map f world k d e

-- ---- the superclass

pub to_superclass : (world : World) → IsNumbered world → (a b : ℕ) → IsTrue (told_at (map (λ c. superclass_number world c.class) world) a b) ↔ IsSuperclass world a b
to_superclass world numbers a b = (there (slice_get world a) refl, back)
  where
    f : Loaded → Option ℕ
    f c = superclass_number world c.class

    none_there : IsTrue (is_there b None) → ⊥
    none_there h = cc

    by_name : (name : Option (List ℕ)) → IsTrue (is_there b (name >>= number_named world)) → (to : Loaded) × (slice_get world b ≡ Some to) × (class_if_named world name ≡ Some to)
    by_name None h = absurd cc
    by_name (Some name) h = by_number (number_named world name) refl h
      where
        by_number : (o : Option ℕ) → number_named world name ≡ o → IsTrue (is_there b o) → (to : Loaded) × (slice_get world b ≡ Some to) × (class_named world name ≡ Some to)
        by_number None e h = absurd cc
        by_number (Some k) e h = stands_at world name b (e ∙ ap (λ n. Some n) (sym (eqb-true b k h)))

    there : (o : Option Loaded) → slice_get world a ≡ o → IsTrue (told_at (map (λ c. superclass_number world c.class) world) a b) → IsSuperclass world a b
    there None e h = absurd (none_there (subst (λ n. IsTrue (is_there b n)) (past_map (λ c. superclass_number world c.class) world a None e) h))
    there (Some l) e h =
        let found = by_name l.class.super_class (subst (λ n. IsTrue (is_there b n)) (at_map (λ c. superclass_number world c.class) world a l None e) h) in
        record { from = l; to = found.0; from_at = e; to_at = found.1; above = found.2 }

    here : IsTrue (nat_eq b b)
    here = same_number b

    back : IsSuperclass world a b → IsTrue (told_at (map (λ c. superclass_number world c.class) world) a b)
    back s = subst (λ n. IsTrue (is_there b n)) (sym (at_map (λ c. superclass_number world c.class) world a s.from None s.from_at)) (by_super s.from.class.super_class s.above)
      where
        by_super : (name : Option (List ℕ)) → class_if_named world name ≡ Some s.to → IsTrue (is_there b (name >>= number_named world))
        by_super None e = absurd cc
        by_super (Some name) e = subst (λ n. IsTrue (is_there b n)) (sym (number_of world numbers name b s.to e s.to_at)) here

-- ---- all direct supers

abbrev all_super_numbers : World → List (List (Option ℕ))
all_super_numbers world = map (λ l. super_numbers world l.class) world

to_supers : (world : World) → IsNumbered world → (a b : ℕ) → IsTrue (list_any (is_there b) (get_or (all_super_numbers world) a [])) ↔ IsDirectSuper world a b
to_supers world numbers a b = (there (slice_get world a) refl, back)
  where
    one_name : (names : List (List ℕ)) → IsTrue (list_any (is_there b) (map (number_named world) names)) → (name : List ℕ) × Contains names name × (number_named world name ≡ Some b)
    one_name [] h = absurd cc
    one_name (name ∷ names) h = by_number (number_named world name) refl (λ k. one_name names k) h
      where
        by_test : (k : ℕ) (t : Bool) → nat_eq b k ≡ t → number_named world name ≡ Some k →
            (IsTrue (list_any (is_there b) (map (number_named world) names)) → (n : List ℕ) × Contains names n × (number_named world n ≡ Some b))
            → IsTrue (t || list_any (is_there b) (map (number_named world) names)) → (n : List ℕ) × Contains (name ∷ names) n × (number_named world n ≡ Some b)
        by_test k true t e again h = (name, first name names, e ∙ ap (λ n. Some n) (sym (eqb-true b k t)))
        by_test k false t e again h = let found = again h in (found.0, later name names found.0 found.1, found.2)

        by_number : (o : Option ℕ) → number_named world name ≡ o → (IsTrue (list_any (is_there b) (map (number_named world) names)) → (n : List ℕ) × Contains names n × (number_named world n ≡ Some b))
            → IsTrue (is_there b o || list_any (is_there b) (map (number_named world) names)) → (n : List ℕ) × Contains (name ∷ names) n × (number_named world n ≡ Some b)
        by_number None e again h = let found = again h in (found.0, later name names found.0 found.1, found.2)
        by_number (Some k) e again h = by_test k (nat_eq b k) refl e again h

    none_there : IsTrue (list_any (is_there b) []) → ⊥
    none_there h = cc

    there : (o : Option Loaded) → slice_get world a ≡ o → IsTrue (list_any (is_there b) (get_or (all_super_numbers world) a [])) → IsDirectSuper world a b
    there None e h = absurd (none_there (subst (λ ns. IsTrue (list_any (is_there b) ns)) (past_map (λ l. super_numbers world l.class) world a [] e) h))
    there (Some l) e h =
        let found = one_name (super_names l.class) (subst (λ ns. IsTrue (list_any (is_there b) ns)) (at_map (λ m. super_numbers world m.class) world a l [] e) h) in
        let place = stands_at world found.0 b found.2 in
        record { from = l; to = place.0; from_at = e; to_at = place.1; above = named_super world (super_names l.class) found.0 place.0 found.1 place.2 }

    here : IsTrue (nat_eq b b)
    here = same_number b

    all_of : (names : List (List ℕ)) (name : List ℕ) → Contains names name → number_named world name ≡ Some b → IsTrue (list_any (is_there b) (map (number_named world) names))
    all_of [] name h e = absurd (none name h)
    all_of (n ∷ names) name h e = by_part (λ k. all_of names name k e) (Contains-append_cases (n ∷ []) names name h)
      where
        left : (x y : Bool) → IsTrue x → IsTrue (x || y)
        left true y h = refl
        left false y h = absurd cc

        right : (x y : Bool) → IsTrue y → IsTrue (x || y)
        right true y h = refl
        right false y h = h

        by_part : (Contains names name → IsTrue (list_any (is_there b) (map (number_named world) names))) → Contains (n ∷ []) name ⊎
            Contains names name → IsTrue (is_there b (number_named world n) || list_any (is_there b) (map (number_named world) names))
        by_part again (inl k) =
            left (is_there b (number_named world n)) (list_any (is_there b) (map (number_named world) names))
            (subst (λ o. IsTrue (is_there b o)) (sym (ap (number_named world) (single n name k) ∙ e)) here)
        by_part again (inr k) = right (is_there b (number_named world n)) (list_any (is_there b) (map (number_named world) names)) (again k)

    back : IsDirectSuper world a b → IsTrue (list_any (is_there b) (get_or (all_super_numbers world) a []))
    back s =
        let found = found_super world s.from.class s.to s.above in
        subst (λ ns. IsTrue (list_any (is_there b) ns)) (sym (at_map (λ m. super_numbers world m.class) world a s.from [] s.from_at))
        (all_of (super_names s.from.class) found.0 found.1 (number_of world numbers found.0 b s.to found.2 s.to_at))

pub class_at : (world : World) (from : ℕ) (c : Loaded) → from < length world → c ≡ get_or world from c → slice_get world from ≡ Some c
class_at world from c h e = slice_get-get_or world from c h ∙ ap (λ m. Some m) (sym e)

all_named_below : (world : World) (names : List (List ℕ)) → All (IsBelowSize (length world)) (map (number_named world) names)
all_named_below world [] k d h = absurd (omega (arith, h))
all_named_below world (name ∷ names) k d h = All-cons (IsBelowSize (length world)) (number_named world name) (map (number_named world) names)
    (named_below world name) (all_named_below world names) k d h

row_below : (world : World) (class : Class) → All (IsBelowSize (length world)) (direct_numbers world class)
row_below world class =
    let first = map (number_named world) (superclass_names class.super_class) in
    let interfaces = map (number_named world) class.interfaces in
    All-append (IsBelowSize (length world)) first (each_once interfaces) (all_named_below world (superclass_names class.super_class))
    (each_of_once (IsBelowSize (length world)) interfaces (all_named_below world class.interfaces))

rows_below_of : (world : World) (ls : List Loaded) → All (All (IsBelowSize (length world))) (map (λ l. direct_numbers world l.class) ls)
rows_below_of world [] k d h = absurd (omega (arith, h))
rows_below_of world (l ∷ ls) k d h = All-cons (All (IsBelowSize (length world))) (direct_numbers world l.class)
    (map (λ m. direct_numbers world m.class) ls) (row_below world l.class) (rows_below_of world ls) k d h

pub rows_below : (world : World) (rows : List (Vec (Option ℕ))) → numbers_of rows ≡ all_direct_numbers world → AreAllBelow (length rows) (numbers_of rows)
rows_below world rows e = subst (λ n. AreAllBelow n (numbers_of rows)) (sym (many_rows world rows e)) (subst (AreAllBelow (length world)) (sym e) (rows_below_of world world))

-- whether some direct super is so is the same where each stands once
any_in_row : (world : World) (p : Option ℕ → Bool) (class : Class) → list_any p (direct_numbers world class) ≡ list_any p (super_numbers world class)
any_in_row world p class =
    let number = number_named world in
    any_behind p (map number (superclass_names class.super_class)) (map number class.interfaces)
    ∙ ap (list_any p) (sym (map-append number (superclass_names class.super_class) class.interfaces))

any_in_rows : (world : World) (p : Option ℕ → Bool) (ls : List Loaded) (a : ℕ)
    → list_any p (get_or (map (λ l. direct_numbers world l.class) ls) a []) ≡ list_any p (get_or (map (λ l. super_numbers world l.class) ls) a [])
any_in_rows world p [] zero = refl
any_in_rows world p [] (suc a) = refl
any_in_rows world p (l ∷ ls) zero = any_in_row world p l.class
any_in_rows world p (l ∷ ls) (suc a) = any_in_rows world p ls a

pub direct_of : (world : World) → IsNumbered world → (rows : Rows) (numbers : List (List (Option ℕ))) → numbers ≡ all_direct_numbers world →
    ((a b : ℕ) → related rows a b ≡ list_any (is_there b) (get_or numbers a [])) → IsDirect world rows
direct_of world numbered rows numbers e same a b =
    let told = same a b ∙ (ap (λ ns. list_any (is_there b) (get_or ns a [])) e ∙ any_in_rows world (is_there b) world a) in
    let both = to_supers world numbered a b in
    (λ h. both.0 (subst IsTrue told h), λ s. subst IsTrue (sym told) (both.1 s))

pub other_name : (world : World) → IsNumbered world → (a b : ℕ) (l to : Loaded) → slice_get world a ≡ Some l → slice_get world b ≡ Some to → (a ≡ b → ⊥) → bytes_eq l.class.name to.class.name ≡ false
other_name world numbers a b l to at_a at_b apart = by_test (bytes_eq l.class.name to.class.name) refl
  where
    by_test : (t : Bool) → bytes_eq l.class.name to.class.name ≡ t → t ≡ false
    by_test false e = refl
    by_test true e = absurd (apart (same_some (number_named world to.class.name) a b (ap (number_named world) (sym (same_name l.class.name to.class.name e)) ∙ numbers a l at_a) (numbers b to at_b)))
