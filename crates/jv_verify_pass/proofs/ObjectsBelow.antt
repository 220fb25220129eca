-- What is left of the lowest items of a stack below the places of an object that is not initialized.
use Rattle.std.proofs.Common.{◌≡◌, ℕ, zero, suc, ◌-◌, ◌<◌, ◌≤◌, ◌==◌, ◌&&◌, ◌||◌, Bool, true, false, List, [], ◌∷◌, ◌++◌, length, drop, reverse, Option, Some, refl, sym, ap, ◌∙◌, arith, if◌then◌else◌}
use Rattle.std.specs.Prelude.{nat_le, slice_get, get_or, unwrap_or}
use Rattle.std.specs.List.{list_any}
use Rattle.std.specs.Option.{option_map}
use Rattle.std.proofs.lemmas.Bool.{leb-true, eqb-true, eq-eqb}
use Rattle.std.proofs.Math.Seq.{drop-length}
use Rattle.std.proofs.lemmas.List.{length-reverse, reverse-append}
use Rattle.std.proofs.lemmas.Option.{get_or_from_slice_get, slice_get-map}
use Rattle.jv_stackmap.specs.declared.verification.VerificationTypeOf.TheVariants as types
use Rattle.jv_stackmap.specs.Types.{FrameType}
use Rattle.jv_meaning_world.specs.FrameFlow.{all_flow, item_flows}
use Rattle.jv_meaning_world.specs.World.{World}
use Rattle.jv_meaning_typing.specs.FrameChanges.{is_same_object}
use Rattle.jv_verify_frame.specs.Inside.Noted.{is_among, is_in_local}
use Rattle.jv_verify_frame.proofs.Replacing.{map_reversed}
use Rattle.jv_verify_pass.specs.Inside.Objects.{is_object, objects_of, lower, below_place, below_places, least_of}
use Rattle.jv_verify_pass.specs.Inside.Stacks.{lowest_of}

clash : {P : Type 0} (b : Bool) → b ≡ false → b ≡ true → P
clash true e f = absurd cc
clash false e f = absurd cc

-- ---- numbers

pub lower_one : (a b : ℕ) → lower a b ≤ a
lower_one a b = by_test (nat_le a b) refl
  where
    by_test : (t : Bool) → nat_le a b ≡ t → (if t then a else b) ≤ a
    by_test true e = omega arith
    by_test false e = grind (arith, e)

pub lower_other : (a b : ℕ) → lower a b ≤ b
lower_other a b = by_test (nat_le a b) refl
  where
    by_test : (t : Bool) → nat_le a b ≡ t → (if t then a else b) ≤ b
    by_test true e = leb-true a b e
    by_test false e = omega arith

lower_same : (a b : ℕ) → a ≤ b → lower a b ≡ a
lower_same a b le = by_test (nat_le a b) refl
  where
    by_test : (t : Bool) → nat_le a b ≡ t → (if t then a else b) ≡ a
    by_test true e = refl
    by_test false e = grind (arith, e, le)

-- ---- below places

place_less : (objects : List Bool) (place lowest : ℕ) → below_place objects place lowest ≤ lowest
place_less objects place lowest = by_test (get_or objects place false)
  where
    by_test : (b : Bool) → (if b then lower lowest place else lowest) ≤ lowest
    by_test true = lower_one lowest place
    by_test false = omega arith

pub places_less : (objects : List Bool) (places : List ℕ) (lowest : ℕ) → below_places objects places lowest ≤ lowest
places_less objects [] lowest = omega arith
places_less objects (place ∷ places) lowest =
    let here = place_less objects place lowest in
    let more = places_less objects places (below_place objects place lowest) in
    omega (arith, here, more)

-- what is left is below each of the places at which an object is
pub below_each : (objects : List Bool) (places : List ℕ) (lowest k : ℕ) → is_among places k ≡ true → get_or objects k false ≡ true → below_places objects places lowest ≤ k
below_each objects [] lowest k among is = absurd cc
below_each objects (place ∷ places) lowest k among is =
    by_test (place == k) refl among (λ f. below_each objects places (below_place objects place lowest) k f is)
  where
    by_test : (b : Bool) → (place == k) ≡ b → (b || is_among places k) ≡ true → (is_among places k ≡ true → below_places objects places (below_place objects place lowest) ≤ k)
        → below_places objects places (below_place objects place lowest) ≤ k
    by_test true e f next =
        let same : place ≡ k = eqb-true place k e in
        let here : get_or objects place false ≡ true = ap (λ n. get_or objects n false) same ∙ is in
        let left : below_place objects place lowest ≡ lower lowest place = ap (λ (b : Bool). if b then lower lowest place else lowest) here in
        let more = places_less objects places (below_place objects place lowest) in
        let less = lower_other lowest place in
        omega (arith, same, left, more, less)
    by_test false e f next = next f

least_less : (most : ℕ) (places : List ℕ) → least_of most places ≤ most
least_less most [] = omega arith
least_less most (place ∷ places) =
    let here = lower_one most place in
    let more = least_less (lower most place) places in
    omega (arith, here, more)

-- what is below all places stays
pub stays_below : (objects : List Bool) (most : ℕ) (places : List ℕ) (lowest : ℕ) → lowest ≤ least_of most places → below_places objects places lowest ≡ lowest
stays_below objects most [] lowest le = refl
stays_below objects most (place ∷ places) lowest le =
    ap (below_places objects places) here ∙ stays_below objects (lower most place) places lowest le
  where
    by_test : (b : Bool) → (if b then lower lowest place else lowest) ≡ lowest
    by_test true =
        let least = least_less (lower most place) places in
        let less = lower_other most place in
        lower_same lowest place (omega (arith, le, least, less))
    by_test false = refl

    here : below_place objects place lowest ≡ lowest
    here = by_test (get_or objects place false)

-- ---- the lowest items, one after another

at_front : {X : Type 0} (xs ys : List X) (k : ℕ) (x : X) → slice_get xs k ≡ Some x → slice_get (xs ++ ys) k ≡ Some x
at_front [] ys zero x e = absurd cc
at_front [] ys (suc k) x e = absurd cc
at_front (y ∷ xs) ys zero x e = e
at_front (y ∷ xs) ys (suc k) x e = at_front xs ys k x e

at_seam : {X : Type 0} (xs : List X) (x : X) → slice_get (xs ++ x ∷ []) (length xs) ≡ Some x
at_seam [] x = refl
at_seam (y ∷ xs) x = at_seam xs x

pub none_of : {X : Type 0} (xs : List X) → lowest_of 0 xs ≡ []
none_of xs =
    let all : length xs - 0 ≡ length xs = omega arith in
    ap (λ n. drop n xs) all ∙ drop-length xs

-- an item, counted from the lowest, above as many of the lowest
pub record Above {X : Type 0} (xs : List X) (c : ℕ) : Type 0 where
  pub item : X
  pub at : slice_get (reverse xs) c ≡ Some item
  pub is : lowest_of (suc c) xs ≡ item ∷ lowest_of c xs

one_above : {X : Type 0} (xs : List X) (c : ℕ) → c < length xs → Above xs c
one_above [] c lt = absurd (omega (arith, lt))
one_above (x ∷ xs) c lt = by_left (length xs - c) refl (one_above xs c)
  where
    turned : reverse (x ∷ xs) ≡ reverse xs ++ x ∷ []
    turned = reverse-append (x ∷ []) xs

    by_left : (n : ℕ) → length xs - c ≡ n → (c < length xs → Above xs c) → Above (x ∷ xs) c
    by_left zero e next =
        let last : c ≡ length (reverse xs) = omega (arith, e, lt, length-reverse xs) in
        let one : suc (length xs) - c ≡ 1 = omega (arith, e, lt) in
        let all : suc (length xs) - suc c ≡ 0 = omega (arith, e) in
        record {
          item = x;
          at = ap (λ ys. slice_get ys c) turned ∙ (ap (slice_get (reverse xs ++ x ∷ [])) last ∙ at_seam (reverse xs) x);
          is = ap (λ n. drop n (x ∷ xs)) all ∙ sym (ap (λ n. x ∷ drop n (x ∷ xs)) one);
        }
    by_left (suc n) e next =
        let more = next (omega (arith, e)) in
        let left : length xs - suc c ≡ n = omega (arith, e) in
        let one : suc (length xs) - c ≡ suc (length xs - c) = omega (arith, e) in
        let next_one : suc (length xs) - suc c ≡ suc n = omega (arith, e) in
        record {
          item = more.item;
          at = ap (λ ys. slice_get ys c) turned ∙ at_front (reverse xs) (x ∷ []) c more.item more.at;
          is = ap (λ m. drop m (x ∷ xs)) next_one ∙ (ap (λ m. drop m xs) (sym left) ∙ (more.is ∙ ap (λ m. more.item ∷ drop m (x ∷ xs)) (sym one)));
        }

-- ---- an object among them

-- what is the same as an object is one
same_is_object : (object y : FrameType) → is_same_object object y ≡ true → is_object y ≡ true
same_is_object object types.UninitializedThis e = refl
same_is_object object (types.Uninitialized offset) e = refl
same_is_object types.UninitializedThis types.Top e = absurd cc
same_is_object types.UninitializedThis types.Int e = absurd cc
same_is_object types.UninitializedThis types.Long e = absurd cc
same_is_object types.UninitializedThis types.Null e = absurd cc
same_is_object types.UninitializedThis (types.Class n) e = absurd cc
same_is_object types.UninitializedThis (types.Array c) e = absurd cc
same_is_object (types.Uninitialized o) types.Top e = absurd cc
same_is_object (types.Uninitialized o) types.Int e = absurd cc
same_is_object (types.Uninitialized o) types.Long e = absurd cc
same_is_object (types.Uninitialized o) types.Null e = absurd cc
same_is_object (types.Uninitialized o) (types.Class n) e = absurd cc
same_is_object (types.Uninitialized o) (types.Array c) e = absurd cc
same_is_object types.Top y e = absurd cc
same_is_object types.Int y e = absurd cc
same_is_object types.Long y e = absurd cc
same_is_object types.Null y e = absurd cc
same_is_object (types.Class n) y e = absurd cc
same_is_object (types.Array c) y e = absurd cc

module _ (world : World) where
  -- only an object flows to itself
  to_this : (x : FrameType) → item_flows world x types.UninitializedThis ≡ true → is_same_object types.UninitializedThis x ≡ true
  to_this types.UninitializedThis flow = refl
  to_this types.Top flow = absurd cc
  to_this types.Int flow = absurd cc
  to_this types.Long flow = absurd cc
  to_this types.Null flow = absurd cc
  to_this (types.Class n) flow = absurd cc
  to_this (types.Array c) flow = absurd cc
  to_this (types.Uninitialized o) flow = absurd cc

  to_made : (offset : ℕ) (x : FrameType) → item_flows world x (types.Uninitialized offset) ≡ true → is_same_object (types.Uninitialized offset) x ≡ true
  to_made offset (types.Uninitialized o) flow = eq-eqb offset o (sym (eqb-true o offset flow))
  to_made offset types.UninitializedThis flow = absurd cc
  to_made offset types.Top flow = absurd cc
  to_made offset types.Int flow = absurd cc
  to_made offset types.Long flow = absurd cc
  to_made offset types.Null flow = absurd cc
  to_made offset (types.Class n) flow = absurd cc
  to_made offset (types.Array c) flow = absurd cc

  from_object : (object x y : FrameType) → is_same_object object y ≡ true → item_flows world x y ≡ true → is_same_object object x ≡ true
  from_object types.UninitializedThis x types.UninitializedThis same flow = to_this x flow
  from_object (types.Uninitialized o) x (types.Uninitialized p) same flow =
      let one : o ≡ p = eqb-true o p same in
      ap (λ n. is_same_object (types.Uninitialized n) x) one ∙ to_made p x flow
  from_object object x y same flow = absurd cc

  module _ (object : FrameType) (stack whole : List FrameType) (places : List ℕ) (hold : (k : ℕ) → is_among places k ≡ false → is_in_local object (reverse stack) k ≡ false) (lowest : ℕ)
      (there : lowest ≤ length stack) (room : lowest ≤ length whole)
      (flow : (m : ℕ) → m ≤ lowest → all_flow (item_flows world) (lowest_of m stack) (lowest_of m whole) ≡ true) where
    abbrev left : ℕ
    left = below_places (objects_of whole) places lowest

    -- the object is at a place of both, and so among the places
    meets : (c : ℕ) (x y : FrameType) → slice_get (reverse stack) c ≡ Some x → slice_get (reverse whole) c ≡ Some y → item_flows world x y ≡ true → is_same_object object y ≡ true → left ≤ c
    meets c x y at_x at_y flows same = by_among (is_among places c) refl
      where
        marked : get_or (objects_of whole) c false ≡ true
        marked =
            get_or_from_slice_get (objects_of whole) c true false
            (ap (λ bs. slice_get bs c) (sym (map_reversed is_object whole))
            ∙ (slice_get-map is_object (reverse whole) c ∙ (ap (option_map is_object) at_y ∙ ap Some (same_is_object object y same))))

        by_among : (b : Bool) → is_among places c ≡ b → left ≤ c
        by_among true e = below_each (objects_of whole) places lowest c e marked
        by_among false e =
            let in_stack : is_in_local object (reverse stack) c ≡ true =
            ap (λ (o : Option FrameType). unwrap_or (option_map (is_same_object object) o) false) at_x ∙ from_object object x y same flows in
            clash (is_in_local object (reverse stack) c) (hold c e) in_stack

    none_below : (c : ℕ) → c ≤ left → list_any (is_same_object object) (lowest_of c whole) ≡ false
    none_below zero le = ap (list_any (is_same_object object)) (none_of whole)
    none_below (suc c) le =
        ap (list_any (is_same_object object)) theirs.is ∙
        (ap (λ b. b || list_any (is_same_object object) (lowest_of c whole)) (by_test (is_same_object object theirs.item) refl) ∙
        none_below c (omega (arith, le)))
      where
        less : suc c ≤ lowest
        less = let l = places_less (objects_of whole) places lowest in omega (arith, le, l)

        ours : Above stack c
        ours = one_above stack c (omega (arith, less, there))

        theirs : Above whole c
        theirs = one_above whole c (omega (arith, less, room))

        both : (item_flows world ours.item theirs.item && all_flow (item_flows world) (lowest_of c stack) (lowest_of c whole)) ≡ true
        both =
            ap (λ xs. all_flow (item_flows world) xs (theirs.item ∷ lowest_of c whole)) (sym ours.is)
            ∙ (ap (all_flow (item_flows world) (lowest_of (suc c) stack)) (sym theirs.is) ∙ flow (suc c) less)

        first : (b d : Bool) → (b && d) ≡ true → b ≡ true
        first true d e = refl
        first false d e = absurd cc

        by_test : (b : Bool) → is_same_object object theirs.item ≡ b → b ≡ false
        by_test true e =
            let far = meets c ours.item theirs.item ours.at theirs.at (first (item_flows world ours.item theirs.item) (all_flow (item_flows world) (lowest_of c stack) (lowest_of c whole)) both) e in
            absurd (omega (arith, far, le))
        by_test false e = refl

    pub none_left : list_any (is_same_object object) (lowest_of left whole) ≡ false
    none_left = none_below left (omega arith)
