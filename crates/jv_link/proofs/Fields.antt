-- Fields that are laid one behind the other.
use Rattle.std.proofs.Common.{◌≡◌, ℕ, zero, suc, ◌+◌, ◌-◌, ◌*◌, ◌<◌, ◌≤◌, Bool, true, false, not, List, [], ◌∷◌, ◌++◌, length, map, filter, take, drop, reverse, get_or, vec_len, codes, Option, Some, refl, sym, ap, ◌∙◌, subst, arith, append-nil, append_assoc}
use Rattle.std.specs.Prelude.{◌==◌, bit_and, sum_by, slice_get, if◌then◌else◌}
use Rattle.std.specs.List.{flat_map}
use Rattle.std.specs.Option.{option_map}
use Rattle.std.specs.Str.{bytes_eq}
use Rattle.std.proofs.lemmas.Grind.{flat_map-append}
use Rattle.std.proofs.lemmas.List.{map-append, reverse-append}
use Rattle.std.proofs.lemmas.List.Elements.{filter-append}
use Rattle.std.proofs.lemmas.List.Sums.{sum_by-cons, sum_by-append}
use Rattle.jv_format.specs.Format.{◌>>=◌}
use Rattle.jv_class.specs.Class.{Field}
use Rattle.jv_meaning_world.specs.World.{Loaded, World}
use Rattle.jv_meaning_world.specs.Above.{superclasses}
use Rattle.jv_meaning_world.specs.LookUps.{DeclaredField, field_by}
use Rattle.jv_meaning_world.specs.Numbers.{HoldsAtNumber}
use Rattle.jv_classes.proofs.Followed.{some_class}
use Rattle.jv_classes.proofs.Numbers.{take_more}
use Rattle.jv_lookups.specs.declared.place.Place.{Place}
use Rattle.jv_lookups.specs.Places.{field_in, field_at}
use Rattle.jv_meaning_world.specs.Numbers.{classes_at, AreNumbers}
use Rattle.jv_lookups.proofs.Found.{one_class_more}
use Rattle.jv_meaning_typing.specs.Kind.{is_static_field}
use Rattle.jv_meaning_typing.specs.Layout.{own_fields, instance_fields, field_words, laid_at, placed_from}
use Rattle.jv_meaning_typing.proofs.Places.{placed_go_on}
use Rattle.jv_link.specs.declared.layout.Layout.{Layout}
use Rattle.jv_link.specs.Layouts.{placed_field, placed_at, known, IsLaid, own_field}

pub nothing_more : (world : World) (layout : Layout) (ds : List DeclaredField) → IsLaid world layout ds → IsLaid world layout (ds ++ [])
nothing_more world layout ds laid = subst (IsLaid world layout) (sym (append-nil ds)) laid

one_width : (d : DeclaredField) → sum_by field_words (d ∷ []) ≡ field_words d
one_width d = let all = sum_by-cons field_words d [] in omega (arith, all)

behind_all : (world : World) (old new : Layout) (place : Place) (d : DeclaredField) (ds : List DeclaredField) (wide : Bool) → field_at world place ≡
    Some d → new.fields.items ≡ old.fields.items ++ placed_field place old.words ∷ []
    → new.words ≡ old.words + (if wide then 2 else 1) → wide ≡ bytes_eq d.field.descriptor (codes "J") → IsLaid world old ds → IsLaid world new (ds ++ d ∷ [])
behind_all world old new place d ds wide at fields words is laid = record {
  fields_placed =
      ap (map (placed_at world)) fields ∙ (map-append (placed_at world) old.fields.items (placed_field place old.words ∷ [])
      ∙ (ap (λ ps. ps ++ placed_at world (placed_field place old.words) ∷ []) laid.fields_placed
      ∙ (ap (λ (o : Option DeclaredField). map known (placed_from 0 ds) ++ option_map (λ x. laid_at x old.words) o ∷ []) at
      ∙ (ap (λ n. map known (placed_from 0 ds) ++ known (laid_at d n) ∷ []) start
      ∙ (sym (map-append known (placed_from 0 ds) (placed_from (0 + sum_by field_words ds) (d ∷ []))) ∙ ap (map known) (sym (placed_go_on 0 ds (d ∷ []))))))));
  words =
      words ∙ (ap (λ b. old.words + (if b then 2 else 1)) is ∙ (ap (λ n. n + field_words d) laid.words
      ∙ (ap (λ n. sum_by field_words ds + n) (sym (one_width d)) ∙ sym (sum_by-append field_words ds (d ∷ [])))));
}
  where
    start : old.words ≡ 0 + sum_by field_words ds
    start = let same = laid.words in omega (arith, same)

pub laid_more : (world : World) (old new : Layout) (place : Place) (d : DeclaredField) (ds : List DeclaredField) (wide : Bool) (flags : ℕ) →
    field_at world place ≡ Some d → new.fields.items ≡ old.fields.items ++ placed_field place old.words ∷ []
    → new.words ≡ old.words + (if wide then 2 else 1) → wide ≡ bytes_eq d.field.descriptor (codes "J") → flags ≡ d.field.access_flags →
    not (bit_and flags 8 == 0) ≡ false → IsLaid world old ds → IsLaid world new (ds ++ own_field d)
laid_more world old new place d ds wide flags at fields words is same none laid =
    subst (λ b. IsLaid world new (ds ++ (if b then [] else d ∷ []))) (sym none ∙ ap (λ n. not (bit_and n 8 == 0)) same)
    (behind_all world old new place d ds wide at fields words is laid)

-- ---- all fields of a class

pub record LaysOn (world : World) (class : ℕ) (first : Layout) (member : ℕ) (layout : Layout) : Type 0 where
  pub bound : layout.words ≤ 2 * vec_len layout.fields
  pub laid : HoldsAtNumber world class (λ l. (ds : List DeclaredField) → IsLaid world first ds → IsLaid world layout
      (ds ++ map (field_by l) (filter (λ f. not (is_static_field f)) (take member l.class.fields))))

abbrev instance : Field → Bool
instance f = not (is_static_field f)

one_more : (l : Loaded) (i : ℕ) (f : Field) → slice_get l.class.fields i ≡ Some f → map (field_by l) (filter instance (take (i + 1) l.class.fields)) ≡
    map (field_by l) (filter instance (take i l.class.fields)) ++ own_field (field_by l f)
one_more l i f at =
    ap (λ fs. map (field_by l) (filter instance fs)) (take_more l.class.fields i f at)
    ∙ (ap (map (field_by l)) (filter-append instance (take i l.class.fields) (f ∷ []))
    ∙ (map-append (field_by l) (filter instance (take i l.class.fields)) (filter instance (f ∷ []))
    ∙ ap (λ ds. map (field_by l) (filter instance (take i l.class.fields)) ++ ds) (by_test (is_static_field f))))
  where
    by_test : (b : Bool) → map (field_by l) (if not b then f ∷ [] else []) ≡ (if b then [] else field_by l f ∷ [])
    by_test true = refl
    by_test false = refl

some_item : {X : Type 0} → (xs : List X) (k : ℕ) → k < length xs → (x : X) × (slice_get xs k ≡ Some x)
some_item [] k h = absurd (omega (arith, h))
some_item (x ∷ xs) zero h = (x, refl)
some_item (x ∷ xs) (suc k) h = let less : k < length xs = omega (arith, h) in some_item xs k less

pub lays_on : (world : World) (class : ℕ) (first layout later : Layout) (member : ℕ) → HoldsAtNumber world class (λ l. member < length l.class.fields) → later.words ≤ 2 * vec_len later.fields
    → ((d : DeclaredField) (ds : List DeclaredField) → field_at world (record { class = class; member = member }) ≡ Some d → IsLaid world layout ds → IsLaid world later (ds ++ own_field d))
    → LaysOn world class first member layout → LaysOn world class first (member + 1) later
lays_on world class first layout later member within bound more on = record {
  bound = bound;
  laid = λ l at ds laid.
      let f = some_item l.class.fields member (within l at) in
      subst (IsLaid world later) (append_assoc ds (map (field_by l) (filter instance (take member l.class.fields))) (own_field (field_by l f.0)) ∙
      ap (λ es. ds ++ es) (sym (one_more l member f.0 f.1)))
      (more (field_by l f.0) (ds ++ map (field_by l) (filter instance (take member l.class.fields))) (ap (λ o. o >>= field_in member) at ∙ ap (option_map (field_by l)) f.1) (on.laid l at ds laid));
}

pub lays_start : (world : World) (class : ℕ) (layout : Layout) → layout.words ≤ 2 * vec_len layout.fields → LaysOn world class layout 0 layout
lays_start world class layout bound = record { bound = bound; laid = λ l at ds laid. nothing_more world layout ds laid }

take_all : {X : Type 0} → (xs : List X) (n : ℕ) → length xs ≤ n → take n xs ≡ xs
take_all [] zero h = refl
take_all [] (suc n) h = refl
take_all (x ∷ xs) zero h = absurd (omega (arith, h))
take_all (x ∷ xs) (suc n) h = let less : length xs ≤ n = omega (arith, h) in ap (λ ys. x ∷ ys) (take_all xs n less)

pub lays_end : (world : World) (class : ℕ) (first layout : Layout) (member : ℕ) → HoldsAtNumber world class (λ l. length l.class.fields ≤ member) → LaysOn world class first member layout
    → HoldsAtNumber world class (λ l. (ds : List DeclaredField) → IsLaid world first ds → IsLaid world layout (ds ++ own_fields l))
lays_end world class first layout member all on = λ l at ds laid.
    subst (λ fs. IsLaid world layout (ds ++ map (field_by l) (filter instance fs))) (take_all l.class.fields member (all l at)) (on.laid l at ds laid)

-- ---- all classes, the highest first

pub record LaysUp (world : World) (numbers : List ℕ) (step : ℕ) (layout : Layout) : Type 0 where
  pub bound : layout.words ≤ 2 * vec_len layout.fields
  pub laid : IsLaid world layout (flat_map own_fields (reverse (classes_at world (drop (length numbers - step) numbers))))

pub ups_start : (world : World) (numbers : List ℕ) (layout : Layout) → layout.words ≡ 0 → layout.fields.items ≡ [] → LaysUp world numbers 0 layout
ups_start world numbers layout words fields = record {
  bound = omega (arith, words);
  laid = subst (λ ns. IsLaid world layout (flat_map own_fields (reverse (classes_at world ns)))) (sym (none_left numbers (length numbers - 0) size))
      (record { fields_placed = ap (map (placed_at world)) fields; words = words });
}
  where
    size : length numbers ≤ length numbers - 0
    size = omega arith

    none_left : (ns : List ℕ) (n : ℕ) → length ns ≤ n → drop n ns ≡ []
    none_left [] zero h = refl
    none_left [] (suc n) h = refl
    none_left (k ∷ ns) zero h = absurd (omega (arith, h))
    none_left (k ∷ ns) (suc n) h = let less : length ns ≤ n = omega (arith, h) in none_left ns n less

ups_more : (world : World) (numbers : List ℕ) (step k : ℕ) (layout later : Layout) (c : Loaded) → step < length numbers →
    get_or numbers (length numbers - 1 - step) 0 ≡ k → slice_get world k ≡ Some c → later.words ≤ 2 * vec_len later.fields
    → ((ds : List DeclaredField) → IsLaid world layout ds → IsLaid world later (ds ++ own_fields c)) → LaysUp world numbers step layout → LaysUp world numbers (step + 1) later
ups_more world numbers step k layout later c h e at bound more on = record {
  bound = bound;
  laid = subst (IsLaid world later) same (more (flat_map own_fields (reverse (classes_at world (drop (length numbers - step) numbers)))) on.laid);
}
  where
    i : ℕ
    i = length numbers - 1 - step

    rest : List Loaded
    rest = classes_at world (drop (length numbers - step) numbers)

    less : length numbers - 1 - step < length numbers
    less = omega (arith, h)

    next : length numbers - 1 - step + 1 ≡ length numbers - step
    next = omega (arith, h)

    here : length numbers - (step + 1) ≡ length numbers - 1 - step
    here = omega (arith, h)

    opened : classes_at world (drop (length numbers - (step + 1)) numbers) ≡ c ∷ rest
    opened =
        ap (λ n. classes_at world (drop n numbers)) here
        ∙ (one_class_more world numbers (length numbers - 1 - step) k c less e at ∙ ap (λ n. c ∷ classes_at world (drop n numbers)) next)

    same : flat_map own_fields (reverse rest) ++ own_fields c ≡ flat_map own_fields (reverse (classes_at world (drop (length numbers - (step + 1)) numbers)))
    same =
        ap (λ ds. flat_map own_fields (reverse rest) ++ ds) (sym (append-nil (own_fields c)))
        ∙ (sym (flat_map-append own_fields (reverse rest) (c ∷ []))
        ∙ (ap (flat_map own_fields) (sym (reverse-append (c ∷ []) rest)) ∙ ap (λ ls. flat_map own_fields (reverse ls)) (sym opened)))

pub ups_on : (world : World) (numbers : List ℕ) (step k : ℕ) (layout later : Layout) → step < length numbers →
    get_or numbers (length numbers - 1 - step) 0 ≡ k → AreNumbers world numbers → later.words ≤ 2 * vec_len later.fields
    → HoldsAtNumber world k (λ c. (ds : List DeclaredField) → IsLaid world layout ds → IsLaid world later (ds ++ own_fields c)) →
    LaysUp world numbers step layout → LaysUp world numbers (step + 1) later
ups_on world numbers step k layout later h e all bound more on =
    let class = some_class world k within in
    ups_more world numbers step k layout later class.0 h e class.1 bound (more class.0 class.1) on
  where
    less : length numbers - 1 - step < length numbers
    less = omega (arith, h)

    within : k < length world
    within = subst (λ n. n < length world) e (all (length numbers - 1 - step) 0 less)

-- all superclasses, and then the class
pub ups_end : (world : World) (numbers : List ℕ) (step : ℕ) (layout later : Layout) (l : Loaded) → step ≡ length numbers → classes_at world numbers ≡ superclasses world l.class
    → ((ds : List DeclaredField) → IsLaid world layout ds → IsLaid world later (ds ++ own_fields l)) → LaysUp world numbers step layout → IsLaid world later (instance_fields world l)
ups_end world numbers step layout later l e chain more on =
    subst (IsLaid world later) same (more (flat_map own_fields (reverse (classes_at world (drop (length numbers - step) numbers)))) on.laid)
  where
    none : length numbers - step ≡ 0
    none = omega (arith, e)

    all : classes_at world (drop (length numbers - step) numbers) ≡ superclasses world l.class
    all = ap (λ n. classes_at world (drop n numbers)) none ∙ chain

    same : flat_map own_fields (reverse (classes_at world (drop (length numbers - step) numbers))) ++ own_fields l ≡ instance_fields world l
    same =
        ap (λ ls. flat_map own_fields (reverse ls) ++ own_fields l) all
        ∙ (ap (λ ds. flat_map own_fields (reverse (superclasses world l.class)) ++ ds) (sym (append-nil (own_fields l)))
        ∙ (sym (flat_map-append own_fields (reverse (superclasses world l.class)) (l ∷ []))
        ∙ ap (flat_map own_fields) (sym (reverse-append (l ∷ []) (superclasses world l.class)))))
