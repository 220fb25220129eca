-- A field that is used stands where the tables say: of a static field among all static ones, of another one in each object that has it.
use Rattle.std.proofs.Common.{◌≡◌, inl, inr, ℕ, zero, suc, ◌+◌, ◌*◌, ◌<◌, ◌≤◌, Bool, true, false, not, ◌&&◌, List, [], ◌∷◌, ◌++◌, length, map, filter, reverse, Option, Some, None, refl, sym, ap, subst, ◌∙◌, arith, if◌then◌else◌}
use Rattle.std.specs.Prelude.{⊤, IsSome, IsTrue, IsFalse, sum_by}
use Rattle.std.specs.List.{Contains, flat_map, AllByRecursion}
use Rattle.std.specs.Option.{option_map}
use Rattle.std.specs.Str.{bytes_eq}
use Rattle.std.proofs.lemmas.Grind.{flat_map-append}
use Rattle.std.proofs.lemmas.List.{reverse-append, length-map, length-reverse}
use Rattle.std.proofs.lemmas.List.Sums.{sum_by-cons}
use Rattle.std.proofs.lemmas.List.Concat.{flat_map-cons}
use Rattle.std.proofs.lemmas.List.Elements.{Contains-append_cases}
use Rattle.std.proofs.lemmas.Slice.Eq.{bytes_eq-Decides}
use Rattle.jv_text.specs.Types.{field_type_of}
use Rattle.jv_class.specs.Class.{Field}
use Rattle.jv_meaning_world.specs.World.{Loaded, World}
use Rattle.jv_meaning_world.specs.Above.{above, is_circular, superclass_in, chain_within, superclasses}
use Rattle.jv_meaning_world.specs.LookUps.{DeclaredField, field_by}
use Rattle.jv_meaning_world.specs.Verdicts.{is_loadable}
use Rattle.jv_meaning_world.proofs.Up.{none, single, first, later, named_stands, above_by_ways, above_is_transitive}
use Rattle.jv_meaning_world.proofs.Standing.{loadable_by_all}
use Rattle.jv_meaning_typing.specs.Kind.{is_static_field}
use Rattle.jv_meaning_typing.specs.Selection.{upward}
use Rattle.jv_meaning_typing.specs.Layout.{own_fields, instance_fields, field_words, object_words, Placed, laid_at, placed_from, layout, end_of}
use Rattle.jv_meaning_typing.proofs.Chain.{chain_is_above, superclasses_are_named, in_any}
use Rattle.jv_meaning_typing.proofs.Found.{split, in_filter}
use Rattle.jv_meaning_typing.proofs.Places.{layout_extends, layout_is_by_rule}
use Rattle.jv_link_cache.specs.Places.{static_layout, IsWordOf}
use Rattle.jv_link_cache.proofs.Inherited.{words_are_inherited}
use Rattle.jv_loader.specs.Straight.{IsStraight}
use Rattle.jv_loader.proofs.Straightness.{are_straight}
use Rattle.jv_meaning_machine.specs.Objects.{FieldKey, key_of, same_key}
use Rattle.jv_interp_heap.specs.ObjectsInBlocks.{BeginsAt, place_among}
use Rattle.jv_interp_held.specs.HeldInWords.{static_fields}
use Rattle.jv_interp_heap.specs.SystemNumbers.{IsGuestsWorld}
use Rattle.jv_interp_members.proofs.WorldNames.{HaveOwnNames, names_differ}
use Rattle.jv_interp_members.proofs.FieldsOfFiles.{AreUnlike, FieldsKeepRules, fields_keep_rules}

-- A field's descriptor is one (4.3.2), and its values are at its word: of a static field among those of all, of another one in each
-- object that has it, below 2^30.
pub record StandsAtItsWord (world : World) (d : DeclaredField) (word : ℕ) : Type 0 where
  pub typed : IsSome (field_type_of d.field.descriptor)
  pub static : IsTrue (is_static_field d.field) → place_among (key_of d) (static_fields world) ≡ Some word
  pub instance : IsFalse (is_static_field d.field) → BeginsAt world d word
  pub few : IsFalse (is_static_field d.field) → word < 1073741824

-- ---- fields that have keys of their own

abbrev IsApart : DeclaredField → DeclaredField → Type 0
IsApart d other = other.by.class.name ≡ d.by.class.name → other.field.name ≡ d.field.name → other.field.descriptor ≡ d.field.descriptor → ⊥

abbrev AreApart : List DeclaredField → Type 0
AreApart [] = ⊤
AreApart (d ∷ ds) = ((other : DeclaredField) → Contains ds other → IsApart d other) × AreApart ds

apart_append :
    (ds es : List DeclaredField) → AreApart ds → AreApart es
    → ((d e : DeclaredField) → Contains ds d → Contains es e → IsApart d e) → AreApart (ds ++ es)
apart_append [] es h k across = k
apart_append (d ∷ ds) es h k across = (
  (λ other j.
      elim (Contains-append_cases ds es other j) [
        | inl i ↦ h.0 other i
        | inr i ↦ across d other (first d ds) i
      ]),
  apart_append ds es h.1 k (λ x e i j. across x e (later d ds x i) j),
)

-- ---- keys

three : (a b c : Bool) → (a && b && c) ≡ true → (a ≡ true) × (b ≡ true) × (c ≡ true)
three true true c e = (refl, refl, e)
three true false c e = absurd cc
three false b c e = absurd cc

same_texts : (key other : FieldKey) → same_key key other ≡ true → (key.name ≡ other.name) × (key.class ≡ other.class) × (key.descriptor ≡ other.descriptor)
same_texts key other e =
    let parts = three (bytes_eq key.name other.name) (bytes_eq key.class other.class) (bytes_eq key.descriptor other.descriptor) e in (
      (bytes_eq-Decides key.name other.name).0 parts.0,
      (bytes_eq-Decides key.class other.class).0 parts.1,
      (bytes_eq-Decides key.descriptor other.descriptor).0 parts.2,
    )

key_itself : (key : FieldKey) → same_key key key ≡ true
key_itself key =
    ap (λ (b : Bool). b && bytes_eq key.class key.class && bytes_eq key.descriptor key.descriptor) ((bytes_eq-Decides key.name key.name).1 refl)
    ∙ ap (λ (b : Bool). b && bytes_eq key.descriptor key.descriptor) ((bytes_eq-Decides key.class key.class).1 refl)
    ∙ (bytes_eq-Decides key.descriptor key.descriptor).1 refl

other_key : (d other : DeclaredField) → IsApart d other → same_key (key_of other) (key_of d) ≡ false
other_key d other apart = by_test (same_key (key_of other) (key_of d)) refl
  where
    by_test : (b : Bool) → same_key (key_of other) (key_of d) ≡ b → b ≡ false
    by_test false e = refl
    by_test true e = let same = same_texts (key_of other) (key_of d) e in absurd (apart same.1 same.0 same.2)

-- ---- places

placed_field : (n : ℕ) (ds : List DeclaredField) (p : Placed) → Contains (placed_from n ds) p → Contains ds p.field
placed_field n [] p h = absurd (none p h)
placed_field n (d ∷ ds) p h =
    elim (split (laid_at d n) (placed_from (n + field_words d) ds) p h) [
      | inl is ↦ subst (λ (x : DeclaredField). Contains (d ∷ ds) x) (ap (λ (x : Placed). x.field) is) (first d ds)
      | inr k ↦ later d ds p.field (placed_field (n + field_words d) ds p k)
    ]

pub record PlacedAmong (n : ℕ) (ds : List DeclaredField) (p : Placed) : Type 0 where
  pub place : ℕ
  pub is : place_among (key_of p.field) ds ≡ Some place
  pub from : p.place ≡ n + place

placed_among : (n : ℕ) (ds : List DeclaredField) (p : Placed) → AreApart ds → Contains (placed_from n ds) p → PlacedAmong n ds p
placed_among n [] p apart h = absurd (none p h)
placed_among n (d ∷ ds) p apart h =
    elim (split (laid_at d n) (placed_from (n + field_words d) ds) p h) [
      | inl is ↦
          subst (λ (x : Placed). PlacedAmong n (d ∷ ds) x) is
          (record {
            place = 0;
            is = ap (λ (b : Bool). if b then Some 0 else option_map (λ n. field_words d + n) (place_among (key_of d) ds)) (key_itself (key_of d));
            from = omega arith;
          })
      | inr k ↦
          let rest = placed_among (n + field_words d) ds p apart.1 k in
          let other = other_key d p.field (apart.0 p.field (placed_field (n + field_words d) ds p k)) in
          let from = rest.from in
          record {
            place = field_words d + rest.place;
            is =
                ap (λ (b : Bool). if b then Some 0 else option_map (λ n. field_words d + n) (place_among (key_of p.field) ds)) other
                ∙ ap (option_map (λ n. field_words d + n)) rest.is;
            from = omega (arith, from);
          }
    ]

-- a place among fields is that of one with this key
among_is : (key : FieldKey) (ds : List DeclaredField) (place : ℕ) → place_among key ds ≡ Some place
    → (d : DeclaredField) × Contains ds d × (same_key key (key_of d) ≡ true)
among_is key [] place e = absurd cc
among_is key (d ∷ ds) place e =
    by_test (same_key key (key_of d)) refl (place_among key ds) refl (λ n f. among_is key ds n f) e
  where
    by_test : (b : Bool) → same_key key (key_of d) ≡ b → (o : Option ℕ) → place_among key ds ≡ o
        → ((n : ℕ) → place_among key ds ≡ Some n → (x : DeclaredField) × Contains ds x × (same_key key (key_of x) ≡ true))
        → (if b then Some 0 else option_map (λ n. field_words d + n) o) ≡ Some place
        → (x : DeclaredField) × Contains (d ∷ ds) x × (same_key key (key_of x) ≡ true)
    by_test true t o e again f = (d, first d ds, t)
    by_test false t None e again f = absurd cc
    by_test false t (Some n) e again f = let found = again n e in (found.0, later d ds found.0 found.1, found.2)

-- ---- the fields of a class, and of classes with names of their own

in_by : (l : Loaded) (fields : List Field) (d : DeclaredField) → Contains (map (field_by l) fields) d → (d.by ≡ l) × Contains fields d.field
in_by l [] d h = absurd (none d h)
in_by l (f ∷ fields) d h =
    elim (split (field_by l f) (map (field_by l) fields) d h) [
      | inl is ↦ (ap (λ (x : DeclaredField). x.by) (sym is), subst (λ (x : Field). Contains (f ∷ fields) x) (ap (λ (x : DeclaredField). x.field) is) (first f fields))
      | inr k ↦ let rest = in_by l fields d k in (rest.0, later f fields d.field rest.1)
    ]

filtered_unlike : (test : Field → Bool) (fields : List Field) → AreUnlike fields → AreUnlike (filter test fields)
filtered_unlike test [] h = tt
filtered_unlike test (f ∷ fields) h = by_test (test f) (filtered_unlike test fields h.1)
  where
    by_test : (b : Bool) → AreUnlike (filter test fields) → AreUnlike (if b then f ∷ filter test fields else filter test fields)
    by_test true more = ((λ other k. h.0 other (in_filter test fields other k).0), more)
    by_test false more = more

by_apart : (l : Loaded) (fields : List Field) → AreUnlike fields → AreApart (map (field_by l) fields)
by_apart l [] h = tt
by_apart l (f ∷ fields) h = ((λ other k class name descriptor. h.0 other.field (in_by l fields other k).1 name descriptor), by_apart l fields h.1)

module _ (test : Field → Bool) where
  abbrev own : Loaded → List DeclaredField
  own l = map (field_by l) (filter test l.class.fields)

  own_apart : (l : Loaded) → FieldsKeepRules l.class → AreApart (own l)
  own_apart l rules = by_apart l (filter test l.class.fields) (filtered_unlike test l.class.fields rules.unlike)

  in_own : (ls : List Loaded) (d : DeclaredField) → Contains (flat_map own ls) d → Contains ls d.by × Contains (filter test d.by.class.fields) d.field
  in_own [] d h = absurd (none d h)
  in_own (l ∷ ls) d h =
      elim (Contains-append_cases (own l) (flat_map own ls) d (subst (λ (ds : List DeclaredField). Contains ds d) (flat_map-cons own l ls) h)) [
        | inl k ↦
            let parts = in_by l (filter test l.class.fields) d k in (
              subst (λ (x : Loaded). Contains (l ∷ ls) x) (sym parts.0) (first l ls),
              subst (λ (x : Loaded). Contains (filter test x.class.fields) d.field) (sym parts.0) parts.1,
            )
        | inr k ↦ let rest = in_own ls d k in (later l ls d.by rest.0, rest.1)
      ]

  all_apart : (ls : List Loaded) → HaveOwnNames ls → ((l : Loaded) → Contains ls l → FieldsKeepRules l.class) → AreApart (flat_map own ls)
  all_apart [] names rules = tt
  all_apart (l ∷ ls) names rules =
      subst AreApart (sym (flat_map-cons own l ls))
      (apart_append (own l) (flat_map own ls) (own_apart l (rules l (first l ls))) (all_apart ls names.1 (λ x h. rules x (later l ls x h)))
      (λ d e h k class name descriptor.
      names.0 e.by (in_own ls e k).0 (class ∙ ap (λ (x : Loaded). x.class.name) (in_by l (filter test l.class.fields) d h).0)))

  -- those of the last one first
  in_reversed : (ls : List Loaded) (l : Loaded) → Contains (reverse ls) l → Contains ls l
  in_reversed [] l h = absurd (none l h)
  in_reversed (x ∷ ls) l h =
      elim (Contains-append_cases (reverse ls) (x ∷ []) l (subst (λ (xs : List Loaded). Contains xs l) (reverse-append (x ∷ []) ls) h)) [
        | inl k ↦ later x ls l (in_reversed ls l k)
        | inr k ↦ subst (λ (y : Loaded). Contains (x ∷ ls) y) (single x l k) (first x ls)
      ]

  reversed_apart : (ls : List Loaded) → HaveOwnNames ls → ((l : Loaded) → Contains ls l → FieldsKeepRules l.class) → AreApart (flat_map own (reverse ls))
  reversed_apart [] names rules = tt
  reversed_apart (l ∷ ls) names rules =
      let parts : flat_map own (reverse (l ∷ ls)) ≡ flat_map own (reverse ls) ++ flat_map own (l ∷ []) =
      ap (flat_map own) (reverse-append (l ∷ []) ls) ∙ flat_map-append own (reverse ls) (l ∷ []) in
      subst AreApart (sym parts)
      (apart_append (flat_map own (reverse ls)) (flat_map own (l ∷ [])) (reversed_apart ls names.1 (λ x h. rules x (later l ls x h)))
      (all_apart (l ∷ []) ((λ other h same. none other h), tt) (λ x h. rules x (subst (λ (y : Loaded). Contains (l ∷ ls) y) (single l x h) (first l ls))))
      (λ d e h k class name descriptor.
      names.0 d.by (in_reversed ls d.by (in_own (reverse ls) d h).0)
      (sym class ∙ ap (λ (x : Loaded). x.class.name) (sym (single l e.by (in_own (l ∷ []) e k).0)))))

-- ---- a class and those above it

module _ (world : World) where
  -- where none of them is above itself, they have names of their own
  straight_names :
      (l : Loaded) (ls : List Loaded) → IsFalse (is_circular world l.class) → ((s : Loaded) → Contains ls s → Contains (above world l.class) s)
      → (s : Loaded) → Contains ls s → s.class.name ≡ l.class.name → ⊥
  straight_names l ls straight all s h same =
      clash (is_circular world l.class)
      (in_any (λ (x : Loaded). bytes_eq x.class.name l.class.name) (above world l.class) s (all s h) ((bytes_eq-Decides s.class.name l.class.name).1 same))
      straight
    where
      clash : (b : Bool) → IsTrue b → IsFalse b → ⊥
      clash true h k = absurd cc
      clash false h k = absurd cc

  chain_names : (k : ℕ) (o : Option Loaded) → ((s : Loaded) → Contains (chain_within world k o) s → IsFalse (is_circular world s.class)) → HaveOwnNames (chain_within world k o)
  chain_names zero o straight = tt
  chain_names (suc k) None straight = tt
  chain_names (suc k) (Some l) straight =
      let more = chain_within world k (superclass_in world l.class) in (
        straight_names l more (straight l (first l more)) (chain_is_above above_by_ways above_is_transitive world k l.class),
        chain_names k (superclass_in world l.class) (λ s h. straight s (later l more s h)),
      )

  upward_names : (l : Loaded) → IsStraight world l → HaveOwnNames (upward world l)
  upward_names l straight =
      let up = chain_is_above above_by_ways above_is_transitive world (length world) l.class in (
        straight_names l (superclasses world l.class) straight.itself up,
        chain_names (length world) (superclass_in world l.class) (λ s h. straight.above_it s (up s h)),
      )

  chain_length : (k : ℕ) (o : Option Loaded) → length (chain_within world k o) ≤ k
  chain_length zero o = omega arith
  chain_length (suc k) None = omega arith
  chain_length (suc k) (Some l) = let rest = chain_length k (superclass_in world l.class) in omega (arith, rest)

-- ---- how many words

few_words : (ds : List DeclaredField) → sum_by field_words ds ≤ 2 * length ds
few_words [] = omega arith
few_words (d ∷ ds) =
    let rest = few_words ds in
    let sum = sum_by-cons field_words d ds in
    let one : field_words d ≤ 2 = by_test (bytes_eq d.field.descriptor (Rattle.std.specs.Prelude.codes "J")) in
    omega (arith, rest, sum, one)
  where
    by_test : (b : Bool) → (if b then 2 else 1) ≤ 2
    by_test true = omega arith
    by_test false = omega arith

filtered_fewer : (test : Field → Bool) (fields : List Field) → length (filter test fields) ≤ length fields
filtered_fewer test [] = omega arith
filtered_fewer test (f ∷ fields) = by_test (test f) (filtered_fewer test fields)
  where
    by_test : (b : Bool) → length (filter test fields) ≤ length fields → length (if b then f ∷ filter test fields else filter test fields) ≤ suc (length fields)
    by_test true h = omega (arith, h)
    by_test false h = omega (arith, h)

few_fields : (ls : List Loaded) → ((l : Loaded) → Contains ls l → FieldsKeepRules l.class) → length (flat_map own_fields ls) ≤ 65535 * length ls
few_fields [] rules = omega arith
few_fields (l ∷ ls) rules =
    let rest = few_fields ls (λ x h. rules x (later l ls x h)) in
    let parts = ap (λ (ds : List DeclaredField). length ds) (flat_map-cons own_fields l ls) in
    let both = Rattle.std.proofs.Common.length-append (own_fields l) (flat_map own_fields ls) in
    let mapped = length-map (filter (λ f. not (is_static_field f)) l.class.fields) (field_by l) in
    let fewer = filtered_fewer (λ f. not (is_static_field f)) l.class.fields in
    let few = (rules l (first l ls)).few in
    omega (arith, rest, parts, both, mapped, fewer, few)

-- ---- all of it

module _ (world : World) (guests : IsGuestsWorld world) where
  names : HaveOwnNames world
  names = subst HaveOwnNames (sym guests.world_is) (names_differ guests.given guests.contents)

  one_of_name : (ls : List Loaded) → HaveOwnNames ls → (a b : Loaded) → Contains ls a → Contains ls b → a.class.name ≡ b.class.name → a ≡ b
  one_of_name [] own a b h k same = absurd (none a h)
  one_of_name (x ∷ ls) own a b h k same =
      elim (split x ls a h) [
        | inl is ↦
            elim (split x ls b k) [
              | inl other ↦ sym is ∙ other
              | inr there ↦ absurd (own.0 b there (sym same ∙ ap (λ (l : Loaded). l.class.name) (sym is)))
            ]
        | inr here ↦
            elim (split x ls b k) [
              | inl other ↦ absurd (own.0 a here (same ∙ ap (λ (l : Loaded). l.class.name) (sym other)))
              | inr there ↦ one_of_name ls own.1 a b here there same
            ]
      ]

  rules : (l : Loaded) → Contains world l → FieldsKeepRules l.class
  rules = fields_keep_rules world guests

  upward_stands : (l : Loaded) → Contains world l → (s : Loaded) → Contains (upward world l) s → Contains world s
  upward_stands l here s h =
      elim (split l (superclasses world l.class) s h) [
        | inl is ↦ subst (λ (x : Loaded). Contains world x) is here
        | inr k ↦ named_stands world s.class.name s (superclasses_are_named world l.class s k)
      ]

  module _ (d : DeclaredField) (word : ℕ) (by : Contains world d.by) (among : Contains d.by.class.fields d.field) (is_word : IsWordOf world d word) where
    pub static_place : IsTrue (is_static_field d.field) → place_among (key_of d) (static_fields world) ≡ Some word
    static_place static =
        let laid = subst (λ (b : Bool). Contains (if b then static_layout world else layout world d.by) (laid_at d word)) static is_word in
        let found = placed_among 0 (static_fields world) (laid_at d word) (all_apart is_static_field world names rules) laid in
        let from = found.from in
        found.is ∙ ap Some (sym (let same : word ≡ found.place = omega (arith, from) in same))

    instance_word : IsFalse (is_static_field d.field) → BeginsAt world d word
    instance_word plain name l place named loadable e =
        let here = named_stands world name l named in
        let straight : IsStraight world l =
        subst (λ (w : World). (m : Loaded) → Contains w m → IsTrue (is_loadable w m) → IsStraight w m) (sym guests.world_is)
        (are_straight guests.given guests.contents above_by_ways loadable_by_all).loadable l here loadable in
        let found = among_is (key_of d) (instance_fields world l) place e in
        let same = same_texts (key_of d) (key_of found.0) found.2 in
        let inside = in_own (λ f. not (is_static_field f)) (reverse (upward world l)) found.0 found.1 in
        let up = in_reversed (λ f. not (is_static_field f)) (upward world l) found.0.by inside.0 in
        let same_class : found.0.by ≡ d.by =
        one_of_name world names found.0.by d.by (upward_stands l here found.0.by up) by (sym same.1) in
        let laid =
        words_are_inherited above_by_ways above_is_transitive (layout_extends above_by_ways above_is_transitive) world l d word straight.above_it
        (subst (λ (x : Loaded). Contains (upward world l) x) same_class up) plain is_word in
        let at =
        placed_among 0 (instance_fields world l) (laid_at d word)
        (reversed_apart (λ f. not (is_static_field f)) (upward world l) (upward_names world l straight) (λ x h. rules x (upward_stands l here x h))) laid in
        let from = at.from in
        let both : place ≡ at.place = one_some place at.place (sym e ∙ at.is) in
        omega (arith, both, from)
      where
        one_some : (a b : ℕ) → Some a ≡ Some b → a ≡ b
        one_some a b e = cc

    few_word : length world ≤ 2083 → IsFalse (is_static_field d.field) → word < 1073741824
    few_word few plain =
        let laid = subst (λ (b : Bool). Contains (if b then static_layout world else layout world d.by) (laid_at d word)) plain is_word in
        let ends = within (layout world d.by) (layout_is_by_rule world d.by).within (laid_at d word) laid in
        let words = few_words (instance_fields world d.by) in
        let fields = few_fields (reverse (upward world d.by)) (λ l h. rules l (upward_stands d.by by l (in_reversed (λ f. not (is_static_field f)) (upward world d.by) l h))) in
        let up = length-reverse (upward world d.by) in
        let chain = chain_length world (length world) (superclass_in world d.by.class) in
        omega (arith, few, ends, words, fields, up, chain)
      where
        within : (ps : List Placed) → AllByRecursion (λ p. end_of p ≤ object_words world d.by) ps → (p : Placed) → Contains ps p → end_of p ≤ object_words world d.by
        within [] all p h = absurd (none p h)
        within (q ∷ ps) all p h =
            elim (split q ps p h) [
              | inl is ↦ subst (λ (x : Placed). end_of x ≤ object_words world d.by) is all.0
              | inr k ↦ within ps all.1 p k
            ]

    pub stands_at_word : length world ≤ 2083 → StandsAtItsWord world d word
    stands_at_word few = record {
      typed = (rules d.by by).described d.field among;
      static = static_place;
      instance = instance_word;
      few = few_word few;
    }
