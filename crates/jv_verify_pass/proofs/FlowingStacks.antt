-- Stacks that are known to flow from the lowest items on.
use Rattle.std.proofs.Common.{◌≡◌, ℕ, zero, suc, ◌+◌, ◌-◌, ◌<◌, ◌≤◌, Bool, true, false, not, ◌&&◌, ◌||◌, ◌==◌, List, [], ◌∷◌, ◌++◌, length, map, drop, take, reverse, Option, Some, None, refl, sym, ap, subst, ◌∙◌, arith, if◌then◌else◌, length-drop}
use Rattle.std.specs.Prelude.{IsTrue, slice_get, get_or}
use Rattle.std.specs.List.{All, list_any}
use Rattle.std.proofs.Common.{inl, inr}
use Rattle.std.proofs.Math.Seq.{drop-append-add}
use Rattle.std.proofs.lemmas.Bool.{eqb-true, eq-eqb}
use Rattle.std.proofs.lemmas.List.{drop-drop, drop-map, length-append, length-map}
use Rattle.std.proofs.lemmas.List.Elements.{All-map, All-push}
use Rattle.std.proofs.lemmas.Option.{get_or_from_slice_get, slice_get_within}
use Rattle.jv_code.specs.Insns.{Instruction}
use Rattle.jv_stackmap.specs.Entries.{ReadFrame}
use Rattle.jv_stackmap.specs.declared.verification.VerificationTypeOf.TheVariants as types
use Rattle.jv_stackmap.specs.Types.{FrameType, width}
use Rattle.jv_meaning_world.specs.FrameFlow.{all_flow, item_flows}
use Rattle.jv_meaning_world.specs.World.{World}
use Rattle.jv_meaning_typing.specs.Environment.{Environment}
use Rattle.jv_meaning_typing.specs.FrameChanges.{is_same_object, replaced}
use Rattle.jv_meaning_typing.specs.Rule.{rule, constructed_object}
use Rattle.jv_verify_rules.specs.Laws.{StandsOn, LeavesBelow}
use Rattle.jv_verify_types.specs.Typed.{typed, typed_all}
use Rattle.jv_verify_frame.specs.Inside.Noted.{is_among, is_in_local}
use Rattle.jv_verify_frame.proofs.Replacing.{map_reversed}
use Rattle.jv_verify_types.specs.Numbered.{Item, NumberFrame, frame_of}
use Rattle.jv_verify_pass.specs.declared.stacks.FlowedStack.{FlowedStack}
use Rattle.jv_verify_types.specs.Mapped.{world_of_types, types_of_entries, stack_of, stack_flows_to}
use Rattle.jv_verify_pass.specs.Pass.{Pass, names_in}
use Rattle.jv_verify_pass.specs.Inside.Stacks.{lowest_of, LowestFlow, IsFlowed, AreFlowed, is_without, AreWithout, lowered, lowered_below, raised, GoesBelow, Keeps}
use Rattle.jv_verify_pass.specs.Inside.Objects.{below_places, lower, objects_of}
use Rattle.jv_verify_pass.proofs.Constructing.{StandsReplaced, leaves_others}
use Rattle.jv_verify_pass.proofs.ObjectsBelow.{lower_one, lower_other, none_of, places_less, none_left}
use Rattle.jv_verify_flow.proofs.Lists.{at_place}

and_false : (b : Bool) → (b && false) ≡ false
and_false true = refl
and_false false = refl

and_first : (b c : Bool) → (b && c) ≡ true → b ≡ true
and_first true c e = refl
and_first false c e = absurd cc

and_second : (b c : Bool) → (b && c) ≡ true → c ≡ true
and_second true c e = e
and_second false c e = absurd cc

both_true : (b c : Bool) → b ≡ true → c ≡ true → (b && c) ≡ true
both_true b c e f = ap (λ d. d && c) e ∙ f

or_first : (b c : Bool) → (b || c) ≡ false → b ≡ false
or_first true c e = absurd cc
or_first false c e = refl

or_second : (b c : Bool) → (b || c) ≡ false → c ≡ false
or_second true c e = absurd cc
or_second false c e = e

-- ---- lists that flow, in two parts

module _ (f : FrameType → FrameType → Bool) where
  by_front : (count : ℕ) (xs ys : List FrameType) → all_flow f (drop count xs) (drop count ys) ≡ true → all_flow f (take count xs) (take count ys) ≡ all_flow f xs ys
  by_front zero xs ys h = sym h
  by_front (suc n) [] [] h = refl
  by_front (suc n) [] (y ∷ ys) h = refl
  by_front (suc n) (x ∷ xs) [] h = refl
  by_front (suc n) (x ∷ xs) (y ∷ ys) h = ap (λ b. f x y && b) (by_front n xs ys h)

  drop_both : (n : ℕ) (xs ys : List FrameType) → all_flow f xs ys ≡ true → all_flow f (drop n xs) (drop n ys) ≡ true
  drop_both zero xs ys h = h
  drop_both (suc n) [] [] h = refl
  drop_both (suc n) [] (y ∷ ys) h = absurd cc
  drop_both (suc n) (x ∷ xs) [] h = absurd cc
  drop_both (suc n) (x ∷ xs) (y ∷ ys) h = drop_both n xs ys (and_second (f x y) (all_flow f xs ys) h)

  unequal : (xs ys : List FrameType) → (length xs ≡ length ys → ⊥) → all_flow f xs ys ≡ false
  unequal [] [] h = absurd (h refl)
  unequal [] (y ∷ ys) h = refl
  unequal (x ∷ xs) [] h = refl
  unequal (x ∷ xs) (y ∷ ys) h = ap (λ b. f x y && b) (unequal xs ys (λ e. h (ap suc e))) ∙ and_false (f x y)

  as_many : (xs ys : List FrameType) → all_flow f xs ys ≡ true → length xs ≡ length ys
  as_many [] [] h = refl
  as_many [] (y ∷ ys) h = absurd cc
  as_many (x ∷ xs) [] h = absurd cc
  as_many (x ∷ xs) (y ∷ ys) h = ap suc (as_many xs ys (and_second (f x y) (all_flow f xs ys) h))

-- ---- the items on top, one after another

past : {X : Type 0} (xs : List X) (k : ℕ) → slice_get xs k ≡ None → length xs ≤ k
past [] k e = omega arith
past (x ∷ xs) zero e = absurd cc
past (x ∷ xs) (suc k) e = omega (arith, past xs k e)

module _ (f : FrameType → FrameType → Bool) (names : List (List ℕ)) (stack : List Item) (whole : List FrameType) (count : ℕ) where
  abbrev pub TopLeft : ℕ → List FrameType → Type 0
  TopLeft k es = all_flow f (take count (typed_all names stack)) (take count whole) ≡ all_flow f (take (count - k) (drop k (typed_all names stack))) (take (count - k) es)

  pub top_begins : TopLeft 0 whole
  top_begins =
      let none : count - 0 ≡ count = omega arith in
      ap (λ n. all_flow f (take n (typed_all names stack)) (take n whole)) (sym none)

  module _ (k : ℕ) (within : k < count) (room : count ≤ length stack) (es : List FrameType) (so_far : TopLeft k es) where
    next : count - k ≡ suc (count - suc k)
    next = omega (arith, within)

    pub no_item : slice_get stack k ≡ None → ⊥
    no_item none = omega (arith, within, room, past stack k none)

    module _ (item : Item) (is_item : slice_get stack k ≡ Some item) where
      at_item : all_flow f (take count (typed_all names stack)) (take count whole) ≡
          all_flow f (typed names item ∷ take (count - suc k) (drop (suc k) (typed_all names stack))) (take (suc (count - suc k)) es)
      at_item =
          so_far
          ∙ (ap (λ n. all_flow f (take n (drop k (typed_all names stack))) (take n es)) next
          ∙ ap (λ xs. all_flow f (take (suc (count - suc k)) xs) (take (suc (count - suc k)) es)) (at_place (typed names) stack k item is_item))

      pub no_entry : es ≡ [] → all_flow f (take count (typed_all names stack)) (take count whole) ≡ false
      no_entry e = at_item ∙ ap (λ xs. all_flow f (typed names item ∷ take (count - suc k) (drop (suc k) (typed_all names stack))) (take (suc (count - suc k)) xs)) e

      module _ (e : FrameType) (rest : List FrameType) (is : es ≡ e ∷ rest) where
        at_both : all_flow f (take count (typed_all names stack)) (take count whole) ≡
            (f (typed names item) e && all_flow f (take (count - suc k) (drop (suc k) (typed_all names stack))) (take (count - suc k) rest))
        at_both = at_item ∙ ap (λ xs. all_flow f (typed names item ∷ take (count - suc k) (drop (suc k) (typed_all names stack))) (take (suc (count - suc k)) xs)) is

        pub item_not : f (typed names item) e ≡ false → all_flow f (take count (typed_all names stack)) (take count whole) ≡ false
        item_not g = at_both ∙ ap (λ b. b && all_flow f (take (count - suc k) (drop (suc k) (typed_all names stack))) (take (count - suc k) rest)) g

        pub item_more : f (typed names item) e ≡ true → TopLeft (suc k) rest
        item_more g = at_both ∙ ap (λ b. b && all_flow f (take (count - suc k) (drop (suc k) (typed_all names stack))) (take (count - suc k) rest)) g

    pub no_entry_left : es ≡ [] → all_flow f (take count (typed_all names stack)) (take count whole) ≡ false
    no_entry_left e = by_item (slice_get stack k) refl
      where
        by_item : (o : Option Item) → slice_get stack k ≡ o → all_flow f (take count (typed_all names stack)) (take count whole) ≡ false
        by_item None is = absurd (no_item is)
        by_item (Some item) is = no_entry item is e

  pub top_ends : (k : ℕ) (es : List FrameType) → count ≤ k → TopLeft k es → all_flow f (take count (typed_all names stack)) (take count whole) ≡ true
  top_ends k es e so_far =
      let none : count - k ≡ 0 = omega (arith, e) in
      so_far ∙ ap (λ n. all_flow f (take n (drop k (typed_all names stack))) (take n es)) none

-- ---- the lowest items

lower_still : {X : Type 0} (xs : List X) (a b : ℕ) → b ≤ a → a ≤ length xs → drop (a - b) (lowest_of a xs) ≡ lowest_of b xs
lower_still xs a b le room =
    let sum : (length xs - a) + (a - b) ≡ length xs - b = omega (arith, le, room) in
    drop-drop (a - b) (length xs - a) xs ∙ ap (λ n. drop n xs) sum

stay : (before behind given : List FrameType) (taken m : ℕ) → length given ≤ 6 → behind ≡ given ++ drop taken before → m ≤ length behind - 6 → lowest_of m behind ≡ lowest_of m before
stay before behind given taken zero few is le = none_of behind ∙ sym (none_of before)
stay before behind given taken (suc m) few is le =
    let rest = drop taken before in
    let many : length behind ≡ length given + length rest = ap length is ∙ length-append given rest in
    let left : length rest ≡ length before - taken = length-drop taken before in
    let top : length behind - suc m ≡ length given + (length rest - suc m) = omega (arith, many, le, few) in
    let low : taken + (length rest - suc m) ≡ length before - suc m = omega (arith, many, left, le, few) in
    ap (λ n. drop n behind) top
    ∙ (ap (drop (length given + (length rest - suc m))) is
    ∙ (drop-append-add given rest (length rest - suc m)
    ∙ (drop-drop (length rest - suc m) taken before
    ∙ ap (λ n. drop n before) low)))

-- ---- an object that is none of the items

any_dropped : {X : Type 0} (test : X → Bool) (n : ℕ) (xs : List X) → list_any test xs ≡ false → list_any test (drop n xs) ≡ false
any_dropped test zero xs h = h
any_dropped test (suc n) [] h = refl
any_dropped test (suc n) (x ∷ xs) h = any_dropped test n xs (or_second (test x) (list_any test xs) h)

clash : (b : Bool) → b ≡ false → b ≡ true → ⊥
clash true e f = absurd cc
clash false e f = absurd cc

-- an object flows to itself and to top alone, to which what it becomes flows too
module _ (world : World) (object by : FrameType) (wide : width by ≡ 1) where
  to_top : (type : FrameType) → width type ≡ 1 → item_flows world type types.Top ≡ true
  to_top types.Top e = refl
  to_top types.Int e = refl
  to_top types.Long e = absurd cc
  to_top types.Null e = refl
  to_top types.UninitializedThis e = refl
  to_top (types.Class name) e = refl
  to_top (types.Array components) e = refl
  to_top (types.Uninitialized offset) e = refl

  this_still : (y : FrameType) → is_same_object types.UninitializedThis y ≡ false → item_flows world types.UninitializedThis y ≡ true → item_flows world by y ≡ true
  this_still types.Top none flow = to_top by wide
  this_still types.UninitializedThis none flow = absurd cc
  this_still y none flow = absurd cc

  made_still : (o p : ℕ) (y : FrameType) → is_same_object (types.Uninitialized o) y ≡ false → (o == p) ≡ true → item_flows world (types.Uninitialized p) y ≡ true
      → item_flows world by y ≡ true
  made_still o p types.Top none same flow = to_top by wide
  made_still o p (types.Uninitialized q) none same flow =
      let one : o ≡ q = eqb-true o p same ∙ eqb-true p q flow in
      absurd (clash (o == q) none (eq-eqb o q one))
  made_still o p y none same flow = absurd cc

  item_still : (object x y : FrameType) → is_same_object object y ≡ false → is_same_object object x ≡ true → item_flows world x y ≡ true → item_flows world by y ≡ true
  item_still types.UninitializedThis types.UninitializedThis y none same flow = this_still y none flow
  item_still (types.Uninitialized o) (types.Uninitialized p) y none same flow = made_still o p y none same flow
  item_still object x y none same flow = absurd cc

  all_still : (xs ys : List FrameType) → list_any (is_same_object object) ys ≡ false → all_flow (item_flows world) xs ys ≡ true
      → all_flow (item_flows world) (replaced object by xs) ys ≡ true
  all_still [] [] none flow = refl
  all_still [] (y ∷ ys) none flow = absurd cc
  all_still (x ∷ xs) [] none flow = absurd cc
  all_still (x ∷ xs) (y ∷ ys) none flow =
      both_true (item_flows world (if is_same_object object x then by else x) y) (all_flow (item_flows world) (replaced object by xs) ys)
      (by_test (is_same_object object x) refl)
      (all_still xs ys (or_second (is_same_object object y) (list_any (is_same_object object) ys) none) (and_second (item_flows world x y) (all_flow (item_flows world) xs ys) flow))
    where
      by_test : (b : Bool) → is_same_object object x ≡ b → item_flows world (if b then by else x) y ≡ true
      by_test true e =
          item_still object x y (or_first (is_same_object object y) (list_any (is_same_object object) ys) none) e (and_first (item_flows world x y) (all_flow (item_flows world) xs ys) flow)
      by_test false e = and_first (item_flows world x y) (all_flow (item_flows world) xs ys) flow

-- what is left of the lowest items where an object got another type
lowest_replaced : (object by : FrameType) (before behind : List FrameType) (taken m : ℕ) → behind ≡ replaced object by (drop taken before) → m ≤ length behind - 6
    → lowest_of m behind ≡ replaced object by (lowest_of m before)
lowest_replaced object by before behind taken m is le =
    let rest = drop taken before in
    let put : FrameType → FrameType = λ (t : FrameType). if is_same_object object t then by else t in
    let many : length behind ≡ length rest = ap length is ∙ length-map rest put in
    let low : lowest_of m rest ≡ lowest_of m before = stay before rest [] taken m (omega arith) refl (omega (arith, le, many)) in
    ap (λ n. drop (n - m) behind) many
    ∙ (ap (drop (length rest - m)) is
    ∙ (drop-map put (length rest - m) rest ∙ ap (map put) low))

module _ (pass : Pass) where
  abbrev F : FrameType → FrameType → Bool
  F = item_flows (world_of_types pass.types)

  entry_count : (map : ReadFrame) → length (types_of_entries pass.types map.stack) ≡ length map.stack
  entry_count map = length-map map.stack _

  -- fewer of the lowest items
  less_room : (stack : List FrameType) (map : ReadFrame) (s : FlowedStack) → LowestFlow pass.types stack map s → s.lowest ≤ length (types_of_entries pass.types map.stack)
  less_room stack map s h = omega (arith, h.within, h.height, entry_count map)

  less_flow : (stack : List FrameType) (map : ReadFrame) (s : FlowedStack) (m : ℕ) → m ≤ s.lowest → LowestFlow pass.types stack map s
      → all_flow F (lowest_of m stack) (lowest_of m (types_of_entries pass.types map.stack)) ≡ true
  less_flow stack map s m less h =
      let whole = types_of_entries pass.types map.stack in
      ap (λ xs. all_flow F xs (lowest_of m whole)) (sym (lower_still stack s.lowest m less h.there))
      ∙ (ap (all_flow F (drop (s.lowest - m) (lowest_of s.lowest stack))) (sym (lower_still whole s.lowest m less (less_room stack map s h)))
      ∙ drop_both F (s.lowest - m) (lowest_of s.lowest stack) (lowest_of s.lowest whole) h.flow)

  lowered_flow : (before behind : List FrameType) (map : ReadFrame) (s : FlowedStack) (n : ℕ) → lower s.lowest n ≤ length behind
      → all_flow F (lowest_of (lower s.lowest n) behind) (lowest_of (lower s.lowest n) (types_of_entries pass.types map.stack)) ≡ true → LowestFlow pass.types before map s
      → LowestFlow pass.types behind map (lowered n s)
  lowered_flow before behind map s n there flow h =
      let one : lower s.lowest n ≤ s.lowest = lower_one s.lowest n in
      record { height = h.height; there = there; within = omega (arith, one, h.within); objects = h.objects; flow = flow }

  -- an instruction leaves the lowest items
  still_flow : (before behind : List FrameType) (map : ReadFrame) (s : FlowedStack) → StandsOn before behind → LowestFlow pass.types before map s
      → LowestFlow pass.types behind map (lowered (length behind - 6) s)
  still_flow before behind map s stands h =
      let stayed = length behind - 6 in
      let m = lower s.lowest stayed in
      let other : m ≤ stayed = lower_other s.lowest stayed in
      lowered_flow before behind map s stayed (omega (arith, other))
      (ap (λ xs. all_flow F xs (lowest_of m (types_of_entries pass.types map.stack))) (stay before behind stands.given stands.taken m stands.few stands.is other)
      ∙ less_flow before map s m (lower_one s.lowest stayed) h) h

  -- one that constructs an object leaves those that flow to anything but the object
  others_flow : (object : FrameType) (before behind : List FrameType) (map : ReadFrame) (s : FlowedStack) → StandsReplaced object before behind
      → list_any (is_same_object object) (lowest_of s.lowest (types_of_entries pass.types map.stack)) ≡ false → LowestFlow pass.types before map s
      → LowestFlow pass.types behind map (lowered (length behind - 6) s)
  others_flow object before behind map s stands none h =
      let whole = types_of_entries pass.types map.stack in
      let stayed = length behind - 6 in
      let m = lower s.lowest stayed in
      let one : m ≤ s.lowest = lower_one s.lowest stayed in
      let other : m ≤ stayed = lower_other s.lowest stayed in
      let without : list_any (is_same_object object) (lowest_of m whole) ≡ false =
      ap (list_any (is_same_object object)) (sym (lower_still whole s.lowest m one (less_room before map s h)))
      ∙ any_dropped (is_same_object object) (s.lowest - m) (lowest_of s.lowest whole) none in
      lowered_flow before behind map s stayed (omega (arith, other))
      (ap (λ xs. all_flow F xs (lowest_of m whole)) (lowest_replaced object stands.by before behind stands.taken m stands.is other)
      ∙ all_still (world_of_types pass.types) object stands.by stands.wide (lowest_of m before) (lowest_of m whole) without (less_flow before map s m one h)) h

  pub none_flowed : (stacks : List FlowedStack) (f : NumberFrame) → stacks ≡ [] → AreFlowed pass stacks f
  none_flowed stacks f e = subst (λ (ss : List FlowedStack). AreFlowed pass ss f) (sym e) (λ k d lt. absurd (omega (arith, lt)))

  -- before an instruction that constructs an object
  less_flowed : (stack : List FrameType) (map : ReadFrame) (s : FlowedStack) (m : ℕ) → m ≤ s.lowest → LowestFlow pass.types stack map s → LowestFlow pass.types stack map (record s { lowest = m })
  less_flowed stack map s m less h =
      record { height = h.height; there = omega (arith, less, h.there); within = omega (arith, less, h.within); objects = h.objects; flow = less_flow stack map s m less h }

  one_below : (stack : List FrameType) (places : List ℕ) (s : FlowedStack) → IsFlowed pass stack s → IsFlowed pass stack (lowered_below places s)
  one_below stack places s h = λ map at.
      less_flowed stack map s (below_places s.objects.items places s.lowest) (places_less s.objects.items places s.lowest) (h map at)

  pub below_flowed : (object : Item) (stacks new : List FlowedStack) (f : NumberFrame) → GoesBelow object f.stack stacks new → AreFlowed pass stacks f → AreFlowed pass new f
  below_flowed object stacks new f (inl lower_all) flowed =
      subst (λ (ss : List FlowedStack). AreFlowed pass ss f) (sym lower_all.2)
      (All-map (IsFlowed pass (stack_of pass.types f)) (lowered_below lower_all.0) stacks (λ k d lt. one_below (stack_of pass.types f) lower_all.0 (get_or stacks k d) (flowed k d lt)))
  below_flowed object stacks new f (inr none) flowed = none_flowed new f none

  one_without : (stack : List FrameType) (object : FrameType) (places : List ℕ) → ((k : ℕ) → is_among places k ≡ false → is_in_local object (reverse stack) k ≡ false)
      → (s : FlowedStack) → IsFlowed pass stack s → (map : ReadFrame) → slice_get pass.frames s.place ≡ Some map
      → IsTrue (is_without (Some object) (lowest_of (below_places s.objects.items places s.lowest) (types_of_entries pass.types map.stack)))
  one_without stack object places hold s h map at =
      let here = h map at in
      let whole = types_of_entries pass.types map.stack in
      ap not (ap (λ bs. list_any (is_same_object object) (lowest_of (below_places bs places s.lowest) whole)) here.objects
      ∙ none_left (world_of_types pass.types) object stack whole places hold s.lowest here.there (less_room stack map s here) (λ m less. less_flow stack map s m less here))

  pub below_without : (item : Item) (object : Option FrameType) (stacks new : List FlowedStack) (f : NumberFrame) → object ≡ Some (typed (names_in pass) item)
      → GoesBelow item f.stack stacks new → AreFlowed pass stacks f → AreWithout pass object new
  below_without item object stacks new f object_is (inl lower_all) flowed =
      let known = typed (names_in pass) item in
      let hold : (k : ℕ) → is_among lower_all.0 k ≡ false → is_in_local known (reverse (stack_of pass.types f)) k ≡ false = λ k e.
      subst (λ (xs : List FrameType). is_in_local known xs k ≡ false) (map_reversed (typed (names_in pass)) f.stack) (lower_all.1 (names_in pass) k e) in
      subst (λ (o : Option FrameType). AreWithout pass o new) (sym object_is)
      (subst (λ (ss : List FlowedStack). AreWithout pass (Some known) ss) (sym lower_all.2)
      (All-map (λ (s : FlowedStack). (map : ReadFrame) → slice_get pass.frames s.place ≡ Some map → IsTrue (is_without (Some known) (lowest_of s.lowest (types_of_entries pass.types map.stack))))
      (lowered_below lower_all.0) stacks (λ k d lt. one_without (stack_of pass.types f) known lower_all.0 hold (get_or stacks k d) (flowed k d lt))))
  below_without item object stacks new f object_is (inr none) flowed =
      subst (λ (ss : List FlowedStack). AreWithout pass object ss) (sym none) (λ k d lt. absurd (omega (arith, lt)))

  -- before one that constructs none
  pub all_without : (stacks : List FlowedStack) (object : Option FrameType) → object ≡ None → AreWithout pass object stacks
  all_without stacks object e = subst (λ (o : Option FrameType). AreWithout pass o stacks) (sym e) (λ k d lt map at. refl)

  -- behind an instruction
  pub flowed_behind : LeavesBelow → (env : Environment) (pc : ℕ) (insn : Instruction) (stacks : List FlowedStack) (f g : NumberFrame) → AreFlowed pass stacks f
      → rule env pc insn (frame_of (names_in pass) f) ≡ Some (frame_of (names_in pass) g)
      → AreWithout pass (constructed_object env insn (frame_of (names_in pass) f)) stacks → AreFlowed pass (map (lowered (length g.stack - 6)) stacks) g
  flowed_behind law env pc insn stacks f g flowed left without =
      All-map (IsFlowed pass (stack_of pass.types g)) (lowered (length g.stack - 6)) stacks
      (λ k d lt. one (get_or stacks k d) (constructed_object env insn (frame_of (names_in pass) f)) refl (without k d lt) (flowed k d lt))
    where
      many : length (stack_of pass.types g) ≡ length g.stack
      many = length-map g.stack (typed (names_in pass))

      not_true : (b : Bool) → IsTrue (not b) → b ≡ false
      not_true true e = absurd cc
      not_true false e = refl

      one : (s : FlowedStack) (object : Option FrameType) → constructed_object env insn (frame_of (names_in pass) f) ≡ object
          → ((map : ReadFrame) → slice_get pass.frames s.place ≡ Some map → IsTrue (is_without object (lowest_of s.lowest (types_of_entries pass.types map.stack))))
          → IsFlowed pass (stack_of pass.types f) s → IsFlowed pass (stack_of pass.types g) (lowered (length g.stack - 6) s)
      one s None is none h = λ map at.
          subst (λ n. LowestFlow pass.types (stack_of pass.types g) map (lowered (n - 6) s)) many
          (still_flow (stack_of pass.types f) (stack_of pass.types g) map s (law env pc insn (frame_of (names_in pass) f) (frame_of (names_in pass) g) left is) (h map at))
      one s (Some object) is none h = λ map at.
          subst (λ n. LowestFlow pass.types (stack_of pass.types g) map (lowered (n - 6) s)) many
          (others_flow object (stack_of pass.types f) (stack_of pass.types g) map s
          (leaves_others env pc insn (frame_of (names_in pass) f) (frame_of (names_in pass) g) object left is)
          (not_true (list_any (is_same_object object) (lowest_of s.lowest (types_of_entries pass.types map.stack))) (none map at)) (h map at))

  -- a stack that flows whole
  all_lowest : (f : NumberFrame) (map : ReadFrame) (s : FlowedStack) → s.height ≡ length f.stack → stack_flows_to pass.types (stack_of pass.types f) map ≡ true
      → s.objects.items ≡ objects_of (types_of_entries pass.types map.stack) → LowestFlow pass.types (stack_of pass.types f) map (raised s)
  all_lowest f map s e flow objects =
      let stack = stack_of pass.types f in
      let whole = types_of_entries pass.types map.stack in
      let many : length stack ≡ length f.stack = length-map f.stack (typed (names_in pass)) in
      let same : length stack ≡ length whole = as_many F stack whole flow in
      let here : length stack - s.height ≡ 0 = omega (arith, many, e) in
      let there : length whole - s.height ≡ 0 = omega (arith, many, same, e) in
      record {
        height = omega (arith, many, same, e, entry_count map);
        there = omega (arith, many, e);
        within = omega arith;
        objects = objects;
        flow = ap (λ n. all_flow F (drop n stack) (lowest_of s.height whole)) here ∙ (ap (λ n. all_flow F stack (drop n whole)) there ∙ flow);
      }

  pub flows_whole : (f : NumberFrame) (map : ReadFrame) (s : FlowedStack) → slice_get pass.frames s.place ≡ Some map → s.height ≡ length f.stack
      → stack_flows_to pass.types (stack_of pass.types f) map ≡ true → s.objects.items ≡ objects_of (types_of_entries pass.types map.stack)
      → IsFlowed pass (stack_of pass.types f) (raised s)
  flows_whole f map s at e flow objects = λ other is.
      let both : Some map ≡ Some other = sym at ∙ is in
      let same : map ≡ other = cc in
      subst (λ (m : ReadFrame). LowestFlow pass.types (stack_of pass.types f) m (raised s)) same (all_lowest f map s e flow objects)

  -- one more that is kept, or none more
  pub kept_flowed : (old new : List FlowedStack) (f : NumberFrame) (map : ReadFrame) (place height : ℕ) → Keeps pass.types map place height old new → slice_get pass.frames place ≡ Some map
      → height ≡ length f.stack → stack_flows_to pass.types (stack_of pass.types f) map ≡ true → AreFlowed pass old f → AreFlowed pass new f
  kept_flowed old new f map place height (inl same) at e flow all = subst (λ (ss : List FlowedStack). AreFlowed pass ss f) (sym same) all
  kept_flowed old new f map place height (inr kept) at e flow all =
      let s : FlowedStack = record { place = place; height = height; lowest = height; objects = kept.0 } in
      subst (λ (ss : List FlowedStack). AreFlowed pass ss f) (sym kept.1)
      (All-push (IsFlowed pass (stack_of pass.types f)) old s all (flows_whole f map s at e flow kept.2))

  -- what is known of one that was found
  pub known_at : (stacks : List FlowedStack) (stack : List FrameType) (k place : ℕ) (s : FlowedStack) (map : ReadFrame) →
      All (IsFlowed pass stack) stacks → slice_get stacks k ≡ Some s → s.place ≡ place
      → slice_get pass.frames place ≡ Some map → LowestFlow pass.types stack map s
  known_at stacks stack k place s map all at e there =
      subst (IsFlowed pass stack) (get_or_from_slice_get stacks k s s at) (all k s (slice_get_within stacks k s at)) map (ap (slice_get pass.frames) e ∙ there)

  module _ (f : NumberFrame) (map : ReadFrame) (s : FlowedStack) (h : LowestFlow pass.types (stack_of pass.types f) map s) where
    -- another height
    pub other_height : (height : ℕ) → height ≡ length f.stack → (s.height ≡ height → ⊥) → stack_flows_to pass.types (stack_of pass.types f) map ≡ false
    other_height height e differ =
        unequal F (stack_of pass.types f) (types_of_entries pass.types map.stack)
        (λ same. differ (omega (arith, same, e, h.height, entry_count map, length-map f.stack (typed (names_in pass)))))

    pub room_on_top : (height : ℕ) → height ≡ length f.stack → s.lowest ≤ height
    room_on_top height e = omega (arith, e, h.there, length-map f.stack (typed (names_in pass)))

    -- the items above those that are known
    pub by_top : (height : ℕ) → height ≡ length f.stack → s.height ≡ height
        → all_flow F (take (height - s.lowest) (stack_of pass.types f)) (take (height - s.lowest) (types_of_entries pass.types map.stack)) ≡ stack_flows_to pass.types (stack_of pass.types f) map
    by_top height e same =
        let stack = stack_of pass.types f in
        let whole = types_of_entries pass.types map.stack in
        let here : length stack - s.lowest ≡ height - s.lowest = omega (arith, e, length-map f.stack (typed (names_in pass))) in
        let there : length whole - s.lowest ≡ height - s.lowest = omega (arith, same, h.height, entry_count map) in
        by_front F (height - s.lowest) stack whole
        (subst (λ n. all_flow F (drop n stack) (drop (height - s.lowest) whole) ≡ true) here
        (subst (λ n. all_flow F (drop (length stack - s.lowest) stack) (drop n whole) ≡ true) there h.flow))
