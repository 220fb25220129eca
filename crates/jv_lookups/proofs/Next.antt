-- A search goes on with what is next.
use Rattle.std.proofs.Common.{◌≡◌, ℕ, zero, suc, ◌+◌, ◌<◌, true, false, cond, List, [], ◌∷◌, ◌++◌, length, get_or, drop, map, Option, Some, None, refl, sym, ap, ◌∙◌, subst, arith, add-one}
use Rattle.std.specs.Prelude.{slice_get}
use Rattle.std.specs.List.{All, fold, filter_map, cons_option}
use Rattle.std.proofs.lemmas.List.Elements.{All-cons, All-head, All-nil, All-tail, filter_map-append}
use Rattle.std.proofs.lemmas.List.Sums.{fold-append}
use Rattle.jv_format.specs.Format.{◌>>=◌}
use Rattle.jv_class.specs.Class.{Class}
use Rattle.jv_classes.specs.Ways.{IsBelowSize}
use Rattle.jv_meaning_world.specs.World.{Loaded, World, class_named}
use Rattle.jv_meaning_world.specs.Above.{superclass_names, class_if_named}
use Rattle.jv_meaning_world.specs.LookUps.{is_among, next_in, searched_within}
use Rattle.jv_meaning_world.specs.Numbers.{number_named, superclass_number}
use Rattle.jv_meaning_world.specs.Numbers.{HoldsAtNumber}
use Rattle.jv_classes.proofs.Told.{named_below, superclass_below}
use Rattle.jv_classes.proofs.Followed.{at_named, at_superclass, some_class}
use Rattle.jv_meaning_world.specs.Numbers.{classes_at}
use Rattle.jv_lookups.specs.Inside.Numbers.{NumbersBelow, numbers_below, AreNumbersOf}
use Rattle.jv_classes.specs.Once.{interface_numbers}
use Rattle.jv_classes.proofs.OnceEach.{each_of_once}
use Rattle.jv_lookups.proofs.Among.{one_behind}
use Rattle.jv_lookups.proofs.Once.{searched_once}
pub use Rattle.jv_lookups.proofs.Once.{those_at}

pub those_named : (world : World) (names : List (List ℕ)) → those_at world (map (number_named world) names) ≡ filter_map (class_named world) names
those_named world [] = refl
those_named world (name ∷ names) =
    ap (λ o. cons_option o (those_at world (map (number_named world) names))) (at_named world name)
    ∙ ap (λ ls. cons_option (class_named world name) ls) (those_named world names)

each_or_none : (P : Option ℕ → Type 0) (numbers : List (Option ℕ)) → All P numbers → P None → (i : ℕ) → P (get_or numbers i None)
each_or_none P [] all p zero = p
each_or_none P [] all p (suc i) = p
each_or_none P (n ∷ numbers) all p zero = All-head P n numbers all
each_or_none P (n ∷ numbers) all p (suc i) = each_or_none P numbers (All-tail P n numbers all) p i

names_below : (world : World) (names : List (List ℕ)) → All (IsBelowSize (length world)) (map (number_named world) names)
names_below world [] = All-nil (IsBelowSize (length world))
names_below world (name ∷ names) = All-cons (IsBelowSize (length world)) (number_named world name) (map (number_named world) names) (named_below world name) (names_below world names)

each_below : (world : World) (class : Class) (i : ℕ) → IsBelowSize (length world) (get_or (interface_numbers world class) i None)
each_below world class =
    let Below = IsBelowSize (length world) in
    each_or_none Below (interface_numbers world class) (each_of_once Below (map (number_named world) class.interfaces) (names_below world class.interfaces)) tt

-- the loop over the interfaces: what has been begun with the rest is what all lead to
pub record GoesOn (world : World) (deeper : ℕ) (first : NumbersBelow) (interfaces : List (Option ℕ)) (place : ℕ) (begun : NumbersBelow) : Type 0 where
  pub numbers : AreNumbersOf world begun
  pub rest : fold (searched_within world deeper) (classes_at world begun.numbers) (those_at world (drop place interfaces)) ≡
      fold (searched_within world deeper) (classes_at world first.numbers) (those_at world interfaces)

module _ (world : World) (f : List Loaded → Loaded → List Loaded) where
  one_without : (numbers : List (Option ℕ)) (i : ℕ) (b : List Loaded) → i < length numbers → get_or numbers i None ≡ None →
      fold f b (those_at world (drop (suc i) numbers)) ≡ fold f b (those_at world (drop i numbers))
  one_without [] i b h e = absurd (omega (arith, h))
  one_without (n ∷ numbers) zero b h e = ap (λ (o : Option ℕ). fold f b (cons_option (o >>= slice_get world) (those_at world numbers))) (sym e)
  one_without (n ∷ numbers) (suc i) b h e = let less : i < length numbers = omega (arith, h) in one_without numbers i b less e

  pub without : (numbers : List (Option ℕ)) (i : ℕ) (b : List Loaded) → i < length numbers → get_or numbers i None ≡ None →
      fold f b (those_at world (drop (i + 1) numbers)) ≡ fold f b (those_at world (drop i numbers))
  without numbers i b h e = ap (λ n. fold f b (those_at world (drop n numbers))) (add-one i) ∙ one_without numbers i b h e

  one_with : (numbers : List (Option ℕ)) (i : ℕ) (b : List Loaded) (k : ℕ) (s : Loaded) → i < length numbers → get_or numbers i None ≡ Some k →
      slice_get world k ≡ Some s → fold f (f b s) (those_at world (drop (suc i) numbers)) ≡ fold f b (those_at world (drop i numbers))
  one_with [] i b k s h e at = absurd (omega (arith, h))
  one_with (n ∷ numbers) zero b k s h e at = sym (ap (λ (o : Option ℕ). fold f b (cons_option (o >>= slice_get world) (those_at world numbers))) e ∙
      ap (λ o. fold f b (cons_option o (those_at world numbers))) at)
  one_with (n ∷ numbers) (suc i) b k s h e at = let less : i < length numbers = omega (arith, h) in one_with numbers i b k s less e at

  pub with : (numbers : List (Option ℕ)) (i : ℕ) (b : List Loaded) (k : ℕ) (s : Loaded) → i < length numbers → get_or numbers i None ≡ Some k →
      slice_get world k ≡ Some s → fold f (f b s) (those_at world (drop (i + 1) numbers)) ≡ fold f b (those_at world (drop i numbers))
  with numbers i b k s h e at = ap (λ n. fold f (f b s) (those_at world (drop n numbers))) (add-one i) ∙ one_with numbers i b k s h e at

  pub none_left : (numbers : List (Option ℕ)) (i : ℕ) (b : List Loaded) → length numbers ≡ i → fold f b (those_at world (drop i numbers)) ≡ b
  none_left [] zero b e = refl
  none_left [] (suc i) b e = absurd (omega (arith, e))
  none_left (n ∷ numbers) zero b e = absurd (omega (arith, e))
  none_left (n ∷ numbers) (suc i) b e = let same : length numbers ≡ i = omega (arith, e) in none_left numbers i b same

-- nothing is begun where the search goes no deeper
pub no_deeper : (world : World) (b ls : List Loaded) → fold (searched_within world 0) b ls ≡ b
no_deeper world b [] = refl
no_deeper world b (l ∷ ls) = no_deeper world b ls

-- a class that was begun before
pub begun_before : (world : World) (deeper : ℕ) (b : List Loaded) (l : Loaded) → is_among b l ≡ true → searched_within world (suc deeper) b l ≡ b
begun_before world deeper b l e = ap (λ t. cond t b (fold (searched_within world deeper) (b ++ l ∷ []) (next_in world l.class))) e

pub begun_now : (world : World) (deeper : ℕ) (b : List Loaded) (l : Loaded) → is_among b l ≡ false → searched_within world (suc deeper) b l ≡
    fold (searched_within world deeper) (b ++ l ∷ []) (next_in world l.class)
begun_now world deeper b l e = ap (λ t. cond t b (fold (searched_within world deeper) (b ++ l ∷ []) (next_in world l.class))) e

superclass_of_names : (world : World) (name : Option (List ℕ)) → filter_map (class_named world) (superclass_names name) ≡ cons_option (class_if_named world name) []
superclass_of_names world None = refl
superclass_of_names world (Some name) = refl

-- the interfaces, and then the superclass
pub by_parts : (world : World) (f : List Loaded → Loaded → List Loaded) (b : List Loaded) (class : Class) (interfaces : List (Option ℕ)) (superclass : Option ℕ)
    → fold f b (those_at world (interface_numbers world class)) ≡ fold f b (those_at world (map (number_named world) class.interfaces))
    → interfaces ≡ interface_numbers world class → superclass ≡ superclass_number world class
    → fold f b (next_in world class) ≡ fold f (fold f b (those_at world interfaces)) (cons_option (superclass >>= slice_get world) [])
by_parts world f b class interfaces superclass once e h =
    ap (fold f b) (filter_map-append (class_named world) class.interfaces (superclass_names class.super_class))
    ∙ (fold-append f b (filter_map (class_named world) class.interfaces) (filter_map (class_named world) (superclass_names class.super_class))
    ∙ (ap (λ c. fold f c (filter_map (class_named world) (superclass_names class.super_class)))
    (ap (fold f b) (sym (those_named world class.interfaces)) ∙ (sym once ∙ ap (λ ns. fold f b (those_at world ns)) (sym e)))
    ∙ ap (fold f (fold f b (those_at world interfaces))) (superclass_of_names world class.super_class ∙ ap (λ o. cons_option o [])
    (sym (ap (λ n. n >>= slice_get world) h ∙ at_superclass world class)))))

-- ---- steps of a search

below_of : (size : ℕ) (o : Option ℕ) (k : ℕ) → o ≡ Some k → IsBelowSize size o → k < size
below_of size o k e h = subst (IsBelowSize size) e h

pub next_below : (world : World) (class : Class) (numbers : List (Option ℕ)) (i k : ℕ) → numbers ≡ interface_numbers world class → get_or numbers i None ≡ Some k → k < length world
next_below world class numbers i k e h = below_of (length world) (get_or (interface_numbers world class) i None) k (sym (ap (λ ns. get_or ns i None) e) ∙ h) (each_below world class i)

pub super_below : (world : World) (class : Class) (number : Option ℕ) (k : ℕ) → number ≡ superclass_number world class → number ≡ Some k → k < length world
super_below world class number k e h = below_of (length world) (superclass_number world class) k (sym e ∙ h) (superclass_below world class.super_class)

pub added_class : (world : World) (first begun : NumbersBelow) (k : ℕ) (l : Loaded) → begun ≡ numbers_below first.size (first.numbers ++ k ∷ []) →
    slice_get world k ≡ Some l → classes_at world begun.numbers ≡ classes_at world first.numbers ++ l ∷ []
added_class world first begun k l e at = ap (λ (b : NumbersBelow). classes_at world b.numbers) e ∙ one_behind world k l first.numbers at

pub step_without : (world : World) (deeper : ℕ) (first begun later : NumbersBelow) (interfaces : List (Option ℕ)) (place : ℕ) →
    place < length interfaces → get_or interfaces place None ≡ None → later ≡ begun
    → GoesOn world deeper first interfaces place begun → GoesOn world deeper first interfaces (place + 1) later
step_without world deeper first begun later interfaces place h e same on =
    subst (GoesOn world deeper first interfaces (place + 1)) (sym same)
    (record { numbers = on.numbers; rest = without world (searched_within world deeper) interfaces place (classes_at world begun.numbers) h e ∙ on.rest })

pub step_with : (world : World) (deeper d : ℕ) (first begun later : NumbersBelow) (interfaces : List (Option ℕ)) (place k : ℕ) → suc d ≡ deeper →
    place < length interfaces → get_or interfaces place None ≡ Some k → k < length world
    → HoldsAtNumber world k (λ s. classes_at world later.numbers ≡ searched_within world (suc d) (classes_at world begun.numbers) s) → AreNumbersOf world later
    → GoesOn world deeper first interfaces place begun → GoesOn world deeper first interfaces (place + 1) later
step_with world deeper d first begun later interfaces place k depth h e less found are on = record {
  numbers = are;
  rest =
      let class = some_class world k less in
      ap (λ b. fold (searched_within world deeper) b (those_at world (drop (place + 1) interfaces)))
      (found class.0 class.1 ∙ ap (λ n. searched_within world n (classes_at world begun.numbers) class.0) depth)
      ∙ (with world (searched_within world deeper) interfaces place (classes_at world begun.numbers) k class.0 h e class.1 ∙ on.rest);
}

-- what the last step has to lead to, from what has been begun behind the interfaces
abbrev pub Ends : World → ℕ → Option ℕ → NumbersBelow → NumbersBelow → Type 0
Ends world deeper superclass begun end = classes_at world end.numbers ≡ fold (searched_within world deeper) (classes_at world begun.numbers) (cons_option (superclass >>= slice_get world) [])

pub ends_without : (world : World) (deeper : ℕ) (superclass : Option ℕ) (begun : NumbersBelow) → superclass ≡ None → Ends world deeper superclass begun begun
ends_without world deeper superclass begun e = sym (ap (λ (o : Option ℕ). fold (searched_within world deeper) (classes_at world begun.numbers) (cons_option (o >>= slice_get world) [])) e)

pub ends_with : (world : World) (deeper d : ℕ) (superclass : Option ℕ) (begun end : NumbersBelow) (k : ℕ) → suc d ≡ deeper → superclass ≡ Some k → k < length world
    → HoldsAtNumber world k (λ s. classes_at world end.numbers ≡ searched_within world (suc d) (classes_at world begun.numbers) s) → Ends world deeper superclass begun end
ends_with world deeper d superclass begun end k depth e less found =
    let class = some_class world k less in
    found class.0 class.1 ∙ (ap (λ n. searched_within world n (classes_at world begun.numbers) class.0) depth
    ∙ (ap (λ o. fold (searched_within world deeper) (classes_at world begun.numbers) (cons_option o [])) (sym class.1)
    ∙ sym (ap (λ (o : Option ℕ). fold (searched_within world deeper) (classes_at world begun.numbers) (cons_option (o >>= slice_get world) [])) e)))

pub finish : (world : World) (deeper : ℕ) (first begun later end : NumbersBelow) (number place : ℕ) (l : Loaded) (interfaces : List (Option ℕ)) (superclass : Option ℕ)
    → slice_get world number ≡ Some l → is_among (classes_at world first.numbers) l ≡ false → begun ≡ numbers_below first.size (first.numbers ++ number ∷ [])
    → interfaces ≡ interface_numbers world l.class → superclass ≡ superclass_number world l.class
    → length interfaces ≡ place → GoesOn world deeper begun interfaces place later → Ends world deeper superclass later end
    → classes_at world end.numbers ≡ searched_within world (suc deeper) (classes_at world first.numbers) l
finish world deeper first begun later end number place l interfaces superclass at fresh added e h size on ends =
    let f = searched_within world deeper in
    ends ∙ (ap (λ b. fold f b (cons_option (superclass >>= slice_get world) [])) (sym (none_left world f interfaces place (classes_at world later.numbers) size) ∙ on.rest)
    ∙ (sym (by_parts world f (classes_at world begun.numbers) l.class interfaces superclass
    (searched_once world deeper (classes_at world begun.numbers) (map (number_named world) l.class.interfaces)) e h)
    ∙ (ap (λ b. fold f b (next_in world l.class)) (added_class world first begun number l added at)
    ∙ sym (begun_now world deeper (classes_at world first.numbers) l fresh))))

pub ends_here : (world : World) (deeper : ℕ) (first begun : NumbersBelow) (number : ℕ) (l : Loaded) → slice_get world number ≡ Some l → is_among (classes_at world first.numbers) l ≡ false
    → begun ≡ numbers_below first.size (first.numbers ++ number ∷ []) → deeper ≡ 0 → classes_at world begun.numbers ≡ searched_within world (suc deeper) (classes_at world first.numbers) l
ends_here world deeper first begun number l at fresh added depth =
    added_class world first begun number l added at
    ∙ (sym (no_deeper world (classes_at world first.numbers ++ l ∷ []) (next_in world l.class))
    ∙ (ap (λ n. fold (searched_within world n) (classes_at world first.numbers ++ l ∷ []) (next_in world l.class)) (sym depth)
    ∙ sym (begun_now world deeper (classes_at world first.numbers) l fresh)))
