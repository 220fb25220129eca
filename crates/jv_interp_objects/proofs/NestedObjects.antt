-- Arrays of arrays in their blocks: each stands where the machine's object with its number does.
use Rattle.std.proofs.Common.{◌≡◌, ℕ, zero, suc, ◌+◌, ◌-◌, ◌*◌, ◌≤◌, List, [], ◌∷◌, ◌++◌, Some, map, length, replicate, slice_get, refl, sym, ap, subst, ◌∙◌, arith, length-append}
use Rattle.std.specs.Prelude.{⊤}
use Rattle.std.specs.List.{flat_map, range_with_len}
use Rattle.std.proofs.lemmas.List.{length-map, length-replicate}
use Rattle.std.proofs.lemmas.List.Concat.{flat_map-cons}
use Rattle.jv_text.specs.declared.descriptor.Element.{Element}
use Rattle.jv_text.specs.declared.descriptor.FieldTypeOf.{FieldTypeOf}
use Rattle.jv_text.specs.Descriptor.{field_slots}
use Rattle.jv_stackmap.specs.Types.{value_type, value_type_by, width, component}
use Rattle.jv_meaning_world.specs.World.{World}
use Rattle.jv_meaning_machine.specs.Values.{Value, default_of_type}
use Rattle.jv_meaning_machine.specs.Objects.{Object, new_array}
use Rattle.jv_meaning_machine.specs.Objects.Object.{ArrayWith}
use Rattle.jv_meaning_machine.specs.Costs.{arrays_cells}
use Rattle.jv_meaning_machine.specs.Arrays.{arrays_in, inner_numbers, reference_to, arrays_made}
use Rattle.jv_interp_heap.specs.ObjectsInBlocks.{Blocks, AreComponents, IsArrayWord, ObjectStands}
use Rattle.jv_interp_heap.proofs.NewObjects.{components_begin}
use Rattle.jv_interp_objects.specs.NestedBlocks.{nested_cost, Follow, AreNested}
use Rattle.jv_interp_objects.specs.NestedArrays.{AreCounts, HoldsArrays}
use Rattle.jv_interp_objects.proofs.Behind.{addresses_in, EachStands}

-- ---- types

array_width : (type : FieldTypeOf (List ℕ)) → 1 ≤ type.dimensions → width (value_type type) ≡ 1
array_width type h = by_dimensions type.dimensions type.element h
  where
    by_dimensions : (n : ℕ) (element : Element (List ℕ)) → 1 ≤ n → width (value_type_by n element) ≡ 1
    by_dimensions zero element h = absurd (omega (arith, h))
    by_dimensions (suc n) element h = refl

pub array_slots : (type : FieldTypeOf (List ℕ)) → 1 ≤ type.dimensions → field_slots type ≡ 1
array_slots type h = grind (arith, h)

inner_type : (world : World) (type : FieldTypeOf (List ℕ)) (word : ℕ) → IsArrayWord world type word → 1 ≤ type.dimensions → IsArrayWord world (component type) (word - 65536)
inner_type world type word h some = record {
  element = h.element;
  element_is = h.element_is;
  few_elements = h.few_elements;
  few_dimensions = let n = h.few_dimensions in omega (arith, n);
  is =
      let e = h.is in
      let less : (type.dimensions - 1) * 65536 + 65536 ≡ type.dimensions * 65536 = omega (arith, some) in
      omega (arith, e, less);
}

pub cost_is : (slots : ℕ) (counts : List ℕ) (type : FieldTypeOf (List ℕ)) → HoldsArrays slots (length counts) type → arrays_cells type counts ≡ nested_cost slots counts
cost_is slots [] type h = refl
cost_is slots (count ∷ []) type h = ap (λ (n : ℕ). 2 + count * n) h.1
cost_is slots (count ∷ second ∷ more) type h =
    let one = array_slots type h.0 in
    let rest = cost_is slots (second ∷ more) (component type) h.1 in
    ap (λ (n : ℕ). 2 + count * n + count * arrays_cells (component type) (second ∷ more)) one
    ∙ ap (λ (n : ℕ). 2 + count * 1 + count * n) rest

-- ---- numbers that follow on one another, each so much above the one before

pub numbers_from : ℕ → ℕ → ℕ → List ℕ
numbers_from start size zero = []
numbers_from start size (suc n) = start ∷ numbers_from (start + size) size n

numbers_are : (number size i n : ℕ) → map (λ k. number + 1 + k * size) (range_with_len i n) ≡ numbers_from (number + 1 + i * size) size n
unfolding numbers_from
numbers_are number size i zero = refl
numbers_are number size i (suc n) =
    let next : number + 1 + (i + 1) * size ≡ number + 1 + i * size + size = omega arith in
    ap (λ (l : List ℕ). (number + 1 + i * size) ∷ l)
    (numbers_are number size (i + 1) n ∙ ap (λ (s : ℕ). numbers_from s size n) next)

inner_are : (number count : ℕ) (more : List ℕ) → inner_numbers count more number ≡ numbers_from (number + 1) (arrays_in more) count
inner_are number count more =
    let none : number + 1 + 0 * arrays_in more ≡ number + 1 = omega arith in
    numbers_are number (arrays_in more) 0 count ∙ ap (λ (s : ℕ). numbers_from s (arrays_in more) count) none

numbers_length : (start size n : ℕ) → length (numbers_from start size n) ≡ n
unfolding numbers_from
numbers_length start size zero = refl
numbers_length start size (suc n) = ap suc (numbers_length (start + size) size n)

-- ---- where blocks' addresses stand among all

module _ (world : World) (all : List ℕ) where
  pub record PlacedAt (number : ℕ) (blocks : Blocks) : Type 0 where
    pub at : (i a : ℕ) → slice_get (addresses_in blocks) i ≡ Some a → slice_get all (number + i) ≡ Some a

  in_front : (xs ys : Blocks) (i a : ℕ) → slice_get (addresses_in xs) i ≡ Some a → slice_get (addresses_in (xs ++ ys)) i ≡ Some a
  in_front [] ys i a e = absurd cc
  in_front (x ∷ xs) ys zero a e = e
  in_front (x ∷ xs) ys (suc i) a e = in_front xs ys i a e

  in_back : (xs ys : Blocks) (i j a : ℕ) → j ≡ length xs + i → slice_get (addresses_in ys) i ≡ Some a → slice_get (addresses_in (xs ++ ys)) j ≡ Some a
  in_back [] ys i j a n e =
      let same : i ≡ j = omega (arith, n) in
      subst (λ (k : ℕ). slice_get (addresses_in ys) k ≡ Some a) same e
  in_back (x ∷ xs) ys i zero a n e = absurd (omega (arith, n))
  in_back (x ∷ xs) ys i (suc j) a n e = in_back xs ys i j a (omega (arith, n)) e

  placed_front : (number : ℕ) (xs ys : Blocks) → PlacedAt number (xs ++ ys) → PlacedAt number xs
  placed_front number xs ys p = record { at = λ i a e. p.at i a (in_front xs ys i a e) }

  placed_back : (number next : ℕ) (xs ys : Blocks) → next ≡ number + length xs → PlacedAt number (xs ++ ys) → PlacedAt next ys
  placed_back number next xs ys n p = record {
    at =
        λ i a e.
        let same : number + (length xs + i) ≡ next + i = omega (arith, n) in
        subst (λ (k : ℕ). slice_get all k ≡ Some a) same (p.at (length xs + i) a (in_back xs ys i (length xs + i) a refl e));
  }

  placed_first : (number address : ℕ) (words : List ℕ) (xs : Blocks) → PlacedAt number ((address, words) ∷ xs) → slice_get all number ≡ Some address
  placed_first number address words xs p =
      let same : number + 0 ≡ number = omega arith in
      subst (λ (k : ℕ). slice_get all k ≡ Some address) same (p.at 0 address refl)

  -- ---- objects

  stand_both :
      (objects : List Object) (xs : Blocks) (more : List Object) (ys : Blocks) → EachStands world all objects xs → EachStands world all more ys
      → EachStands world all (objects ++ more) (xs ++ ys)
  stand_both [] [] more ys h k = k
  stand_both [] (x ∷ xs) more ys h k = absurd h
  stand_both (o ∷ objects) [] more ys h k = absurd h
  stand_both (o ∷ objects) (x ∷ xs) more ys h k = (h.0, stand_both objects xs more ys h.1 k)

  pub AreAt : List ℕ → List ℕ → Type 0
  AreAt [] [] = ⊤
  AreAt (n ∷ numbers) (a ∷ inner) = (slice_get all n ≡ Some a) × AreAt numbers inner
  AreAt _ _ = ⊥

  references_stand : (type : FieldTypeOf (List ℕ)) (numbers inner : List ℕ) → width (value_type type) ≡ 1 → AreAt numbers inner → AreComponents all type (map reference_to numbers) inner
  unfolding AreAt
  references_stand type [] [] w h = refl
  references_stand type [] (a ∷ inner) w h = absurd h
  references_stand type (n ∷ numbers) [] w h = absurd h
  references_stand type (n ∷ numbers) (a ∷ inner) w h =
      (a ∷ [], inner, refl, sym w, (a, refl, h.0), references_stand type numbers inner w h.1)

  pub record OneStands (objects : List Object) (own : Blocks) (number address size : ℕ) : Type 0 where
    pub stand : EachStands world all objects own
    pub at : slice_get all number ≡ Some address
    pub count : length own ≡ size

  pub record AllStand (make : ℕ → List Object) (size start : ℕ) (inner : List ℕ) (blocks : Blocks) : Type 0 where
    pub stand : EachStands world all (flat_map make (numbers_from start size (length inner))) blocks
    pub at : AreAt (numbers_from start size (length inner)) inner
    pub count : length blocks ≡ length inner * size

  follow_stand :
      (Kind : Blocks → ℕ → Type 0) (make : ℕ → List Object) (size : ℕ)
      → ((number : ℕ) (own : Blocks) (address : ℕ) → Kind own address → PlacedAt number own → OneStands (make number) own number address size)
      → (inner : List ℕ) (start : ℕ) (blocks : Blocks) → Follow Kind inner blocks → PlacedAt start blocks → AllStand make size start inner blocks
  unfolding numbers_from AreAt
  follow_stand Kind make size each [] start blocks h p = record {
    stand = subst (λ (b : Blocks). EachStands world all [] b) (sym h) tt;
    at = tt;
    count = let none : 0 ≡ 0 * size = omega arith in ap (λ (b : Blocks). length b) h ∙ none;
  }
  follow_stand Kind make size each (a ∷ inner) start blocks h p =
      let q = subst (λ (b : Blocks). PlacedAt start b) h.2 p in
      let one = each start h.0 a h.3 (placed_front start h.0 h.1 q) in
      let next : start + size ≡ start + length h.0 = let n = one.count in omega (arith, n) in
      let rest = follow_stand Kind make size each inner (start + size) h.1 h.4 (placed_back start (start + size) h.0 h.1 next q) in
      record {
        stand =
            subst (λ (b : Blocks). EachStands world all (flat_map make (start ∷ numbers_from (start + size) size (length inner))) b) (sym h.2)
            (subst (λ (o : List Object). EachStands world all o (h.0 ++ h.1)) (sym (flat_map-cons make start (numbers_from (start + size) size (length inner))))
            (stand_both (make start) h.0 (flat_map make (numbers_from (start + size) size (length inner))) h.1 one.stand rest.stand));
        at = (one.at, rest.at);
        count =
            let all_of = ap (λ (b : Blocks). length b) h.2 in
            let n = one.count in
            let m = rest.count in
            let parts = length-append h.0 h.1 in
            let product : suc (length inner) * size ≡ size + length inner * size = omega arith in
            omega (arith, all_of, n, m, parts, product);
      }

  pub nested_stand :
      (slots : ℕ) (counts : List ℕ) (type : FieldTypeOf (List ℕ)) (word number : ℕ) (blocks : Blocks) (address : ℕ)
      → HoldsArrays slots (length counts) type → IsArrayWord world type word → AreCounts counts → AreNested slots counts word blocks address
      → PlacedAt number blocks → OneStands (arrays_made type counts number) blocks number address (arrays_in counts)
  nested_stand slots [] type word number blocks address holds is small h p = absurd h
  nested_stand slots (count ∷ []) type word number blocks address holds is small h p =
      let inside = subst (λ (n : ℕ). AreComponents all type (replicate count (default_of_type type)) (replicate {A = ℕ} (count * n) 0)) holds.0 (components_begin all type count) in
      let size = length-replicate {A = Value} count (default_of_type type) in
      let few = small.0 in
      let object : ObjectStands world all (new_array type count) (word ∷ count ∷ replicate (count * slots) 0) =
      record {
        word = word;
        type = is;
        few = omega (arith, few, size);
        inside = replicate (count * slots) 0;
        words_are = ap (λ (n : ℕ). word ∷ n ∷ replicate {A = ℕ} (count * slots) 0) (sym size);
        stand = inside;
      } in
      record {
        stand = subst (λ (b : Blocks). EachStands world all (new_array type count ∷ []) b) (sym h) (object, tt);
        at =
            placed_first number address (word ∷ count ∷ replicate (count * slots) 0) []
            (subst (λ (b : Blocks). PlacedAt number b) h p);
        count = ap (λ (b : Blocks). length b) h;
      }
  nested_stand slots (count ∷ second ∷ more) type word number blocks address holds is small h p =
      let inner = h.0 in
      let rest = h.1 in
      let q = subst (λ (b : Blocks). PlacedAt number b) h.2 p in
      let size = arrays_in (second ∷ more) in
      let start : number + 1 ≡ number + length {A = ℕ × List ℕ} ((address, word ∷ count ∷ inner) ∷ []) = omega arith in
      let each =
      follow_stand (AreNested slots (second ∷ more) (word - 65536)) (λ n. arrays_made (component type) (second ∷ more) n) size
      (λ n own a k r. nested_stand slots (second ∷ more) (component type) (word - 65536) n own a holds.1 (inner_type world type word is holds.0) small.1 k r)
      inner (number + 1) rest h.4 (placed_back number (number + 1) ((address, word ∷ count ∷ inner) ∷ []) rest start q) in
      let numbers : numbers_from (number + 1) size (length inner) ≡ inner_numbers count (second ∷ more) number =
      ap (λ (n : ℕ). numbers_from (number + 1) size n) h.3 ∙ sym (inner_are number count (second ∷ more)) in
      let values_count : length (map reference_to (inner_numbers count (second ∷ more) number)) ≡ count =
      length-map (inner_numbers count (second ∷ more) number) reference_to ∙ ap (λ (l : List ℕ). length l) (inner_are number count (second ∷ more))
      ∙ numbers_length (number + 1) size count in
      let few = small.0 in
      let object : ObjectStands world all (ArrayWith type (map reference_to (inner_numbers count (second ∷ more) number))) (word ∷ count ∷ inner) =
      record {
        word = word;
        type = is;
        few = omega (arith, few, values_count);
        inside = inner;
        words_are = ap (λ (n : ℕ). word ∷ n ∷ inner) (sym values_count);
        stand =
            subst (λ (l : List ℕ). AreComponents all type (map reference_to l) inner) numbers
            (references_stand type (numbers_from (number + 1) size (length inner)) inner (array_width type holds.0) each.at);
      } in
      let others =
      subst (λ (l : List ℕ). EachStands world all (flat_map (λ n. arrays_made (component type) (second ∷ more) n) l) rest) numbers each.stand in
      record {
        stand = subst (λ (b : Blocks). EachStands world all (arrays_made type (count ∷ second ∷ more) number) b) (sym h.2) (object, others);
        at = placed_first number address (word ∷ count ∷ inner) rest q;
        count =
            let n = each.count in
            let m = h.3 in
            let same : length inner * size ≡ count * size = ap (λ (k : ℕ). k * size) m in
            ap (λ (b : Blocks). length b) h.2 ∙ omega (arith, n, same);
      }
