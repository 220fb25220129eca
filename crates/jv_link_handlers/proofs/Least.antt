-- The least place of what passes a test.
use Rattle.std.proofs.Common.{◌≡◌, ℕ, suc, ◌+◌, ◌<◌, ◌≤◌, List, [], ◌∷◌, ◌++◌, length, length-take, get_or, take, drop, refl, ap, sym, ◌∙◌, arith, cond, Bool, true, false, not, ◌&&◌, min, Option, Some}
use Rattle.std.proofs.lemmas.Bool.Decides.{nat_tests}
use Rattle.std.proofs.lemmas.Iterator.Adapters.{position_from-zero}
use Rattle.std.specs.Prelude.{nat_le, nat_lt, if◌then◌else◌}
use Rattle.std.specs.List.{filter, position, position_from}
use Rattle.jv_link_handlers.specs.declared.reach.Reach.{Reach}
use Rattle.jv_link_handlers.specs.declared.placed.Placed.{Placed}
use Rattle.jv_link_handlers.specs.Inside.Choices.{is_full, is_part, is_below, is_above}
use Rattle.jv_link_handlers.specs.Inside.Finding.{least, has_rank, holds_offset, holds, placed_from, place_or_none}
use Rattle.std.proofs.lemmas.List.{take-append-drop, take_more}
use Rattle.jv_link_handlers.specs.declared.pieces.Piece.{Piece}
use Rattle.jv_link_handlers.specs.Inside.Pieces.{place_in}
use Rattle.jv_link_handlers.specs.Firsts.{reaches_to}

pub least_within : (test : Placed → Bool) (ps : List Placed) → least test ps ≤ 65535
least_within test [] = omega arith
least_within test (p ∷ ps) = let rest = least_within test ps in omega (arith, rest)

pub least-append : (test : Placed → Bool) (ps qs : List Placed) → least test (ps ++ qs) ≡ min (least test ps) (least test qs)
least-append test [] qs = let all = least_within test qs in omega (arith, all)
least-append test (p ∷ ps) qs = let rest = least-append test ps qs in omega (arith, rest)

-- ---- what can't pass is left out

filtered_case : (test : Placed → Bool) (p : Placed) (ps : List Placed) (b : Bool) (l : ℕ) → (b ≡ false → test p ≡ false) → l ≤ 65535 → least test ps ≡ l
    → least test (cond b (p ∷ ps) ps) ≡ min (if test p then p.place else 65535) l
filtered_case test p ps true l not_held within is = ap (min (if test p then p.place else 65535)) is
filtered_case test p ps false l not_held within is = rw (not_held refl) (is ∙ omega arith)

pub least-filter : (test keeps : Placed → Bool) → ((p : Placed) → keeps p ≡ false → test p ≡ false) → (ps : List Placed)
    → least test (filter keeps ps) ≡ least test ps
least-filter test keeps not_held [] = refl
least-filter test keeps not_held (p ∷ ps) =
    filtered_case test p (filter keeps ps) (keeps p) (least test ps) (not_held p) (least_within test ps) (least-filter test keeps not_held ps)

abbrev never : Placed → Bool
never p = false

pub least-none : (test : Placed → Bool) → (ps : List Placed) → ((p : Placed) → test p ≡ false) → least test ps ≡ 65535
least-none test [] none = refl
least-none test (p ∷ ps) none = rw (none p) (let rest = least-none test ps none in omega (arith, rest))

-- ---- those that hold all ranks, and the others

full_part_case : (o h : Placed → Bool) (p : Placed) (fs rs : List Placed) (f r : Bool) (l : ℕ)
    → (f ≡ true → h p ≡ o p) → (f ≡ true → r ≡ false) → (f ≡ false → r ≡ false → h p ≡ false) → l ≡ min (least o fs) (least h rs)
    → min (if h p then p.place else 65535) l ≡ min (least o (cond f (p ∷ fs) fs)) (least h (cond r (p ∷ rs) rs))
full_part_case o h p fs rs true true l same apart none is = absurd (let e = apart refl in cc)
full_part_case o h p fs rs true false l same apart none is = rw (same refl) (omega (arith, is))
full_part_case o h p fs rs false true l same apart none is = omega (arith, is)
full_part_case o h p fs rs false false l same apart none is =
    rw (none refl refl) (let a = least_within o fs in let b = least_within h rs in omega (arith, is, a, b))

full_holds : (low high rank : ℕ) (r : Reach) → low ≤ rank → rank < high → (nat_le r.low low && nat_le high r.high) ≡ true → has_rank rank r ≡ true
full_holds low high rank r a b e = grind (arith, nat_tests)

part_is_not_full : (low high : ℕ) (p : Placed) → is_full low high p ≡ true → is_part low high p ≡ false
part_is_not_full low high p e = rw e refl

none_holds : (low high rank : ℕ) (r : Reach) → low ≤ rank → rank < high → (nat_lt r.low high && nat_lt low r.high) ≡ false → has_rank rank r ≡ false
none_holds low high rank r a b e = grind (arith, nat_tests)

and_true : (a : Bool) → (a && true) ≡ a
and_true true = refl
and_true false = refl

and_false : (a : Bool) → (a && false) ≡ false
and_false true = refl
and_false false = refl

not_part : (f a b : Bool) → f ≡ false → ((not f && a) && b) ≡ false → (a && b) ≡ false
not_part f a b e h = rw e at h

pub least_parts : (offset rank low high : ℕ) → low ≤ rank → rank < high → (ps : List Placed)
    → least (holds offset rank) ps ≡ min (least (holds_offset offset) (filter (is_full low high) ps)) (least (holds offset rank) (filter (is_part low high) ps))
least_parts offset rank low high a b [] = omega arith
least_parts offset rank low high a b (p ∷ ps) =
    full_part_case (holds_offset offset) (holds offset rank) p (filter (is_full low high) ps) (filter (is_part low high) ps) (is_full low high p) (is_part low high p)
    (least (holds offset rank) ps)
    (λ e. ap (λ (k : Bool). holds_offset offset p && k) (full_holds low high rank p.reach a b e) ∙ and_true (holds_offset offset p))
    (part_is_not_full low high p)
    (λ e h.
    ap (λ (k : Bool). holds_offset offset p && k)
    (none_holds low high rank p.reach a b (not_part (is_full low high p) (nat_lt p.reach.low high) (nat_lt low p.reach.high) e h))
    ∙ and_false (holds_offset offset p))
    (least_parts offset rank low high a b ps)

-- ---- below a rank, and from it on

not_below : (middle rank : ℕ) (r : Reach) → rank < middle → nat_lt r.low middle ≡ false → has_rank rank r ≡ false
not_below middle rank r lt e = grind (arith, nat_tests)

not_above : (middle rank : ℕ) (r : Reach) → middle ≤ rank → nat_lt middle r.high ≡ false → has_rank rank r ≡ false
not_above middle rank r le e = grind (arith, nat_tests)

pub least_below : (offset rank middle : ℕ) → rank < middle → (ps : List Placed) → least (holds offset rank) (filter (is_below middle) ps) ≡ least (holds offset rank) ps
least_below offset rank middle lt ps = least-filter (holds offset rank) (is_below middle)
    (λ p e. ap (λ (k : Bool). holds_offset offset p && k) (not_below middle rank p.reach lt e) ∙ and_false (holds_offset offset p)) ps

pub least_above : (offset rank middle : ℕ) → middle ≤ rank → (ps : List Placed) → least (holds offset rank) (filter (is_above middle) ps) ≡ least (holds offset rank) ps
least_above offset rank middle le ps = least-filter (holds offset rank) (is_above middle)
    (λ p e. ap (λ (k : Bool). holds_offset offset p && k) (not_above middle rank p.reach le e) ∙ and_false (holds_offset offset p)) ps

-- ---- a single rank

no_part : (low high : ℕ) (p : Placed) → high ≤ low + 1 → is_part low high p ≡ false
no_part low high p le = grind (arith, nat_tests)

pub no_parts : (low high : ℕ) → high ≤ low + 1 → (ps : List Placed) → filter (is_part low high) ps ≡ []
no_parts low high le [] = refl
no_parts low high le (p ∷ ps) = rw (no_part low high p le) (no_parts low high le ps)

-- ---- by their order

placed_behind : (test : Placed → Bool) (n : ℕ) (rs : List Reach) → n ≤ 65535 → n + length rs ≤ 65535 → n ≤ least test (placed_from n rs)
placed_behind test n [] le all = le
placed_behind test n (r ∷ rs) le all = let rest = placed_behind test (n + 1) rs (omega arith) (omega arith) in
    elim (test (record { reach = r; place = n })) as (λ (b : Bool). n ≤ min (if b then n else 65535) (least test (placed_from (n + 1) rs)))
    [ true ↦ omega (arith, rest) | false ↦ omega (arith, rest) ]

first_case : (b : Bool) (n l : ℕ) (rest : Option ℕ) → n < 65535 → n < l → place_or_none l ≡ rest → l ≤ 65535
    → place_or_none (min (if b then n else 65535) l) ≡ cond b (Some n) rest
first_case true n l rest lt behind is within = let e : min n l ≡ n = omega arith in rw e (grind (arith, nat_tests))
first_case false n l rest lt behind is within = let e : min 65535 l ≡ l = omega arith in rw e is

first_from : (offset rank n : ℕ) (rs : List Reach) → n + length rs ≤ 65535
    → place_or_none (least (holds offset rank) (placed_from n rs)) ≡ position_from (reaches_to offset rank) n rs
first_from offset rank n [] all = refl
first_from offset rank n (r ∷ rs) all =
    let behind = placed_behind (holds offset rank) (n + 1) rs (omega arith) (omega arith) in
    first_case (reaches_to offset rank r) n (least (holds offset rank) (placed_from (n + 1) rs)) (position_from (reaches_to offset rank) (n + 1) rs)
    (omega arith) (omega (arith, behind)) (first_from offset rank (n + 1) rs (omega arith)) (least_within (holds offset rank) (placed_from (n + 1) rs))

pub first_is : (offset rank : ℕ) (rs : List Reach) → length rs ≤ 65535
    → place_or_none (least (holds offset rank) (placed_from 0 rs)) ≡ position (reaches_to offset rank) rs
first_is offset rank rs all = first_from offset rank 0 rs (omega arith) ∙ sym (position_from-zero (reaches_to offset rank) rs)

pub placed_from-push : (n : ℕ) (rs : List Reach) (r : Reach) → placed_from n (rs ++ r ∷ []) ≡ placed_from n rs ++ record { reach = r; place = n + length rs } ∷ []
placed_from-push n [] r = let e : n ≡ n + 0 = omega arith in ap (λ (k : ℕ). record { reach = r; place = k } ∷ []) e
placed_from-push n (x ∷ rs) r =
    let e : n + 1 + length rs ≡ n + suc (length rs) = omega arith in
    ap (λ (ys : List Placed). record { reach = x; place = n } ∷ ys) (placed_from-push (n + 1) rs r ∙ ap (λ (k : ℕ). placed_from (n + 1) rs ++ record { reach = r; place = k } ∷ []) e)

-- ---- what is made of them

pub no_items : {A : Type 0} (xs : List A) → length xs ≡ 0 → xs ≡ []
no_items [] e = refl
no_items (x ∷ xs) e = absurd (omega (arith, e))

-- a leaf has them all
pub leaf_is : (offset rank low high place : ℕ) (ps : List Placed) → low ≤ rank → rank < high → filter (is_part low high) ps ≡ []
    → place ≡ least (holds_offset offset) (filter (is_full low high) ps) → place ≡ least (holds offset rank) ps
leaf_is offset rank low high place ps a b none is =
    let all = least_parts offset rank low high a b ps in
    let full = least_within (holds_offset offset) (filter (is_full low high) ps) in
    let rest : least (holds offset rank) (filter (is_part low high) ps) ≡ 65535 = ap (least (holds offset rank)) none in
    omega (arith, all, full, rest, is)

fork_case : (b : Bool) (pieces below above all full parts : ℕ) → pieces ≡ full → all ≡ min full parts → (b ≡ true → below ≡ parts) → (b ≡ false → above ≡ parts)
    → min pieces (if b then below else above) ≡ all
fork_case true pieces below above all full parts p a x y = let e = x refl in omega (arith, p, a, e)
fork_case false pieces below above all full parts p a x y = let e = y refl in omega (arith, p, a, e)

-- a fork has some here and the others on one side
pub fork_is : (offset rank low high middle pieces below above : ℕ) (ps : List Placed) → low ≤ rank → rank < high
    → pieces ≡ least (holds_offset offset) (filter (is_full low high) ps)
    → (rank < middle → below ≡ least (holds offset rank) (filter (is_below middle) (filter (is_part low high) ps)))
    → (middle ≤ rank → above ≡ least (holds offset rank) (filter (is_above middle) (filter (is_part low high) ps)))
    → min pieces (if nat_lt rank middle then below else above) ≡ least (holds offset rank) ps
fork_is offset rank low high middle pieces below above ps a b is below_is above_is =
    fork_case (nat_lt rank middle) pieces below above (least (holds offset rank) ps) (least (holds_offset offset) (filter (is_full low high) ps))
    (least (holds offset rank) (filter (is_part low high) ps)) is (least_parts offset rank low high a b ps)
    (λ e. let lt : rank < middle = grind (arith, nat_tests) in below_is lt ∙ least_below offset rank middle lt (filter (is_part low high) ps))
    (λ e. let le : middle ≤ rank = grind (arith, nat_tests) in above_is le ∙ least_above offset rank middle le (filter (is_part low high) ps))

-- two halves, which were lent out as slices
pub halves_are : (x half : ℕ) (ps : List Placed) (one other one_lent other_lent : List Piece) {front back : List Placed} → one_lent ≡ one → other_lent ≡ other
    → place_in one x ≡ least (holds_offset x) front → place_in other x ≡ least (holds_offset x) back
    → front ≡ take half ps → back ≡ drop half ps → min (place_in one_lent x) (place_in other_lent x) ≡ least (holds_offset x) ps
halves_are x half ps one other one_lent other_lent lent_one lent_other one_is other_is front_is back_is =
    let a : place_in one_lent x ≡ least (holds_offset x) (take half ps) = ap (λ (qs : List Piece). place_in qs x) lent_one ∙ one_is ∙ ap (least (holds_offset x)) front_is in
    let b : place_in other_lent x ≡ least (holds_offset x) (drop half ps) = ap (λ (qs : List Piece). place_in qs x) lent_other ∙ other_is ∙ ap (least (holds_offset x)) back_is in
    let parts = least-append (holds_offset x) (take half ps) (drop half ps) in
    let all = ap (least (holds_offset x)) (take-append-drop half ps) in
    omega (arith, a, b, parts, all)

pub placed_more : (k : ℕ) (rs : List Reach) (d : Reach) (now new : List Placed) → k < length rs → now ≡ placed_from 0 (take k rs)
    → new ≡ now ++ record { reach = get_or rs k d; place = k } ∷ [] → new ≡ placed_from 0 (take (k + 1) rs)
placed_more k rs d now new lt is is_new =
    let count : length (take k rs) ≡ k = omega (arith, length-take k rs) in
    let behind : placed_from 0 (take k rs) ++ record { reach = get_or rs k d; place = 0 + length (take k rs) } ∷ [] ≡ placed_from 0 (take k rs) ++ record { reach = get_or rs k d; place = k } ∷ [] =
    ap (λ (n : ℕ). placed_from 0 (take k rs) ++ record { reach = get_or rs k d; place = n } ∷ []) (omega (arith, count)) in
    is_new ∙ ap (λ (ps : List Placed). ps ++ record { reach = get_or rs k d; place = k } ∷ []) is ∙ sym behind
    ∙ sym (placed_from-push 0 (take k rs) (get_or rs k d)) ∙ sym (ap (placed_from 0) (take_more rs k d lt))
