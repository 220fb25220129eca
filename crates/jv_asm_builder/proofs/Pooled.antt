-- A pool in the making: the index that is found of each constant, and one constant more.
use Rattle.std.proofs.Common.{◌≡◌, ℕ, ◌+◌, ◌-◌, ◌<◌, ◌≤◌, Bool, true, false, cond, inr, List, [], ◌∷◌, ◌++◌, length, Option, Some, None, refl, sym, ap, subst, ◌∙◌, arith, length-append}
use Rattle.std.specs.Prelude.{◌≢◌, IsTrue, nat_lt, ◌==◌, if◌then◌else◌, zero, suc, slice_get}
use Rattle.std.specs.BTreeMap.{BTreeMap, get_by, Updates}
use Rattle.std.specs.declared.cmp.Ordering.{Ordering}
use Rattle.std.specs.Ordering.{nat_cmp, ordering_then, is_eq}
use Rattle.std.specs.declared.cmp.Ordering.TheVariants.{Less, Equal, Greater}
use Rattle.std.specs.Cmp.Lexicographic.{slice_cmp}
use Rattle.std.specs.List.{list_all}
use Rattle.std.proofs.lemmas.Grind.{flat_map-append}
use Rattle.std.proofs.lemmas.List.{append-nil}
use Rattle.std.proofs.lemmas.List.Folds.{list_all-append}
use Rattle.std.proofs.lemmas.Option.{slice_get_past, same_Some}
use Rattle.std.proofs.lemmas.Bool.{and_parts, and_from, ltb-true, lt-ltb}
use Rattle.std.specs.Cmp.{nat_cmp_is}
use Rattle.std.proofs.lemmas.Map.Lookups.{exact_unsigned, exact_bytes}
use Rattle.jv_pool.specs.declared.constant.Constant.TheVariants.{Utf8, Integer, Float, Long, Double, Class, String, Fieldref, Methodref, InterfaceMethodref, NameAndType, MethodHandle, MethodType, InvokeDynamic}
use Rattle.jv_pool.specs.Constants.{Entry, takes_two, entries_of, table_of, pool_count, usable, at_index, constant_fits, pool_fits}
use Rattle.jv_asm_builder.specs.Added.{IsIndexOf, IsNew, IsAdded, HasRoom}
use Rattle.jv_asm_builder.specs.Inside.Pooled.{Holding, holding, Key, key_holding, compare, index_by, IsIndexFound, AreIndices, IsPooled}

-- ---- a constant is known by what it holds

entry_of : Holding → Entry
entry_of h =
    if h.0 == 1 then Utf8 h.3
    else if h.0 == 3 then Integer h.1
    else if h.0 == 4 then Float h.1
    else if h.0 == 5 then Long h.1 h.2
    else if h.0 == 6 then Double h.1 h.2
    else if h.0 == 7 then Class h.1
    else if h.0 == 8 then String h.1
    else if h.0 == 9 then Fieldref h.1 h.2
    else if h.0 == 10 then Methodref h.1 h.2
    else if h.0 == 11 then InterfaceMethodref h.1 h.2
    else if h.0 == 12 then NameAndType h.1 h.2
    else if h.0 == 15 then MethodHandle h.1 h.2
    else if h.0 == 16 then MethodType h.1
    else InvokeDynamic h.1 h.2

back : (c : Entry) → entry_of (holding c) ≡ c
unfolding entry_of
back (Utf8 t) = refl
back (Integer bits) = refl
back (Float bits) = refl
back (Long high low) = refl
back (Double high low) = refl
back (Class name) = refl
back (String t) = refl
back (Fieldref class name_and_type) = refl
back (Methodref class name_and_type) = refl
back (InterfaceMethodref class name_and_type) = refl
back (NameAndType name descriptor) = refl
back (MethodHandle kind index) = refl
back (MethodType descriptor) = refl
back (InvokeDynamic bootstrap name_and_type) = refl

holds_once : (c d : Entry) → holding c ≡ holding d → c ≡ d
holds_once c d e = sym (back c) ∙ ap entry_of e ∙ back d

-- ---- keys

then_equal : (a b : Ordering) → is_eq (ordering_then a b) ≡ true → (a ≡ Equal) × (is_eq b ≡ true)
then_equal Less b e = absurd cc
then_equal Equal b e = (refl, e)
then_equal Greater b e = absurd cc

equal : (r : Ordering) → is_eq r ≡ true → r ≡ Equal
equal Less e = absurd cc
equal Equal e = refl
equal Greater e = absurd cc

compared : (h : Holding) (k : Key) → is_eq (compare h k) ≡ true → h ≡ key_holding k
compared h k e =
    let last = then_equal _ (slice_cmp nat_cmp h.3 k.3.now) e in
    let third = then_equal _ (nat_cmp h.2 k.2) (ap is_eq last.0) in
    let two = then_equal (nat_cmp h.0 k.0) (nat_cmp h.1 k.1) (ap is_eq third.0) in
    let a : h.0 ≡ k.0 = exact_unsigned h.0 k.0 two.0 in
    let b : h.1 ≡ k.1 = exact_unsigned h.1 k.1 (equal _ two.1) in
    let c : h.2 ≡ k.2 = exact_unsigned h.2 k.2 (equal _ third.1) in
    let d : h.3 ≡ k.3.now = exact_bytes h.3 k.3.now (equal _ last.1) in
    ap (λ x. (x, h.1, h.2, h.3)) a ∙ ap (λ x. (k.0, x, h.2, h.3)) b ∙ ap (λ x. (k.0, k.1, x, h.3)) c ∙ ap (λ x. (k.0, k.1, k.2, x)) d

nat_same : (n : ℕ) → nat_cmp n n ≡ Equal
nat_same n = sym (nat_cmp_is n n Equal refl)

bytes_same : (xs : List ℕ) → slice_cmp nat_cmp xs xs ≡ Equal
bytes_same [] = refl
bytes_same (x ∷ xs) = ap (λ r. ordering_then r (slice_cmp nat_cmp xs xs)) (nat_same x) ∙ bytes_same xs

-- the key of what a constant holds
key_of : Holding → Key
key_of h = (h.0, h.1, h.2, record { ref_ptr = (0, 0); now = h.3 })

same : (h : Holding) → is_eq (compare h (key_of h)) ≡ true
unfolding key_of
same h =
    rw (nat_same h.0) (rw (nat_same h.1) (rw (nat_same h.2) (ap is_eq (bytes_same h.3))))

-- ---- the table of a pool with one constant more

table_more : (pool : List Entry) (c : Entry) → table_of (pool ++ c ∷ []) ≡ table_of pool ++ entries_of c
table_more pool c = flat_map-append entries_of pool (c ∷ []) ∙ ap (λ xs. table_of pool ++ xs) (append-nil (entries_of c))

pub count_more : (pool : List Entry) (c : Entry) → pool_count (pool ++ c ∷ []) ≡ pool_count pool + length (entries_of c)
count_more pool c = let table = ap length (table_more pool c) in let both = length-append (table_of pool) (entries_of c) in omega arith

pub front_get : {X : Type 0} (xs ys : List X) (i : ℕ) → i < length xs → slice_get (xs ++ ys) i ≡ slice_get xs i
front_get [] ys i lt = absurd (omega arith)
front_get (x ∷ xs) ys zero lt = refl
front_get (x ∷ xs) ys (suc i) lt = front_get xs ys i (omega arith)

back_get : {X : Type 0} (xs ys : List X) (i : ℕ) → slice_get (xs ++ ys) (length xs + i) ≡ slice_get ys i
back_get [] ys i = ap (slice_get ys) (omega arith)
back_get (x ∷ xs) ys i =
    let place : length (x ∷ xs) + i ≡ suc (length xs + i) = omega arith in
    ap (slice_get (x ∷ (xs ++ ys))) place ∙ back_get xs ys i

-- the entries of one constant: the first is that constant, and no other is usable
entry_is : (c d : Entry) (two : Bool) (i : ℕ) → usable (slice_get (if two then Some c ∷ None ∷ [] else Some c ∷ []) i) ≡ Some d → (i ≡ 0) × (c ≡ d)
entry_is c d true zero e = (refl, same_Some c d e)
entry_is c d true (suc zero) e = absurd cc
entry_is c d true (suc (suc i)) e = absurd cc
entry_is c d false zero e = (refl, same_Some c d e)
entry_is c d false (suc i) e = absurd cc

first_entry : (c : Entry) (two : Bool) → usable (slice_get (if two then Some c ∷ None ∷ [] else Some c ∷ []) 0) ≡ Some c
first_entry c true = refl
first_entry c false = refl

-- an index of the old pool
at_before : (pool : List Entry) (c : Entry) (i : ℕ) → i < pool_count pool → at_index (pool ++ c ∷ []) i ≡ at_index pool i
at_before pool c zero lt = refl
at_before pool c (suc n) lt =
    ap (λ t. usable (slice_get t n)) (table_more pool c) ∙ ap usable (front_get (table_of pool) (entries_of c) n (omega arith))

-- the index of the new constant
at_last : (pool : List Entry) (c : Entry) → at_index (pool ++ c ∷ []) (pool_count pool) ≡ Some c
at_last pool c =
    let place : pool_count pool ≡ suc (length (table_of pool) + 0) = omega arith in
    ap (at_index (pool ++ c ∷ [])) place ∙ ap (λ t. usable (slice_get t (length (table_of pool) + 0))) (table_more pool c)
    ∙ ap usable (back_get (table_of pool) (entries_of c) 0) ∙ first_entry c (takes_two c)

-- nothing else stands there or behind it
at_behind : (pool : List Entry) (c d : Entry) (i : ℕ) → pool_count pool ≤ i → at_index (pool ++ c ∷ []) i ≡ Some d → (i ≡ pool_count pool) × (c ≡ d)
at_behind pool c d zero le e = absurd (omega arith)
at_behind pool c d (suc n) le e =
    let k = n - length (table_of pool) in
    let place : n ≡ length (table_of pool) + k = omega arith in
    let moved : usable (slice_get (entries_of c) k) ≡ Some d =
    sym (ap (λ t. usable (slice_get t n)) (table_more pool c) ∙ ap (λ m. usable (slice_get (table_of pool ++ entries_of c) m)) place
    ∙ ap usable (back_get (table_of pool) (entries_of c) k)) ∙ e in
    let found = entry_is c d (takes_two c) k moved in
    (omega arith, found.1)

none_behind : (pool : List Entry) (i : ℕ) → pool_count pool ≤ i → at_index pool i ≡ None
none_behind pool zero le = absurd (omega arith)
none_behind pool (suc n) le = ap usable (slice_get_past (table_of pool) n (omega arith))

pub within : (pool : List Entry) (c : Entry) (i : ℕ) → at_index pool i ≡ Some c → i < pool_count pool
within pool c i e = by_case (nat_lt i (pool_count pool)) refl
  where
    by_case : (b : Bool) → nat_lt i (pool_count pool) ≡ b → i < pool_count pool
    by_case true t = ltb-true i (pool_count pool) t
    by_case false t = let none = none_behind pool i (grind (arith, lt-ltb i (pool_count pool))) in absurd cc

-- ---- the indices of a pool with one constant more

-- a constant that is not the new one stands where it stood
kept : (pool : List Entry) (c d : Entry) → c ≢ d → (o : Option ℕ) → IsIndexFound pool d o → IsIndexFound (pool ++ c ∷ []) d o
kept pool c d other None h = λ i e. by_case i (nat_lt i (pool_count pool)) refl e
  where
    by_case : (i : ℕ) (b : Bool) → nat_lt i (pool_count pool) ≡ b → at_index (pool ++ c ∷ []) i ≡ Some d → ⊥
    by_case i true t e = h i (sym (at_before pool c i (ltb-true i (pool_count pool) t)) ∙ e)
    by_case i false t e = other (at_behind pool c d i (grind (arith, lt-ltb i (pool_count pool))) e).1
kept pool c d other (Some n) h =
    let lt = within pool d n h.here in
    record { here = at_before pool c n lt ∙ h.here; first = λ i below e. h.first i below (sym (at_before pool c i (omega arith)) ∙ e) }

-- the new one has the next index
pub last_is : (pool : List Entry) (c : Entry) → IsNew pool c → IsIndexOf (pool ++ c ∷ []) c (pool_count pool)
last_is pool c new = record { here = at_last pool c; first = λ i below e. new i (sym (at_before pool c i below) ∙ e) }

pub added : (pool : List Entry) (c : Entry) → IsNew pool c → IsAdded pool c (pool ++ c ∷ []) (pool_count pool)
added pool c new = record { here = last_is pool c new; pool = inr (new, refl) }

pub indices_more : (pool : List Entry) (c : Entry) (k : Key) (m n : BTreeMap Key ℕ) → key_holding k ≡ holding c → IsNew pool c
    → Updates (λ x. compare (key_holding x)) m n k (Some (pool_count pool)) → AreIndices pool m → AreIndices (pool ++ c ∷ []) n
unfolding key_of
indices_more pool c k m n is new updates h d =
    let q = key_of (holding d) in
    let reads : index_by n d ≡ cond (is_eq (compare (key_holding k) q)) (Some (pool_count pool)) (index_by m d) = updates.0 q in
    subst (IsIndexFound (pool ++ c ∷ []) d) (sym reads) (chosen (is_eq (compare (key_holding k) q)) refl)
  where
    chosen : (b : Bool) → is_eq (compare (key_holding k) (key_of (holding d))) ≡ b → IsIndexFound (pool ++ c ∷ []) d (cond b (Some (pool_count pool)) (index_by m d))
    chosen true e = let one : c ≡ d = holds_once c d (sym is ∙ compared (key_holding k) (key_of (holding d)) e) in
        subst (λ x. IsIndexOf (pool ++ c ∷ []) x (pool_count pool)) one (last_is pool c new)
    chosen false e = kept pool c d (λ one. let yes = ap (λ x. is_eq (compare x (key_of (holding d)))) (is ∙ ap holding one) ∙ same (holding d) in absurd cc) (index_by m d) (h d)

-- the map is read by a key that holds the same
pub found_by : (pool : List Entry) (c : Entry) (k : Key) (m : BTreeMap Key ℕ) (o : Option ℕ) → key_holding k ≡ holding c → o ≡
    get_by (compare (key_holding k)) m → AreIndices pool m → IsIndexFound pool c o
found_by pool c k m o is e h = subst (IsIndexFound pool c) (sym (e ∙ ap (λ x. get_by (compare x) m) is)) (h c)

-- ---- what fits

pub fits_more : (pool : List Entry) (c : Entry) → IsTrue (pool_fits pool) → IsTrue (constant_fits c) → pool_count pool + length (entries_of c) < 65536 → IsTrue (pool_fits (pool ++ c ∷ []))
fits_more pool c fits one few =
    let all : IsTrue (list_all constant_fits pool) = (and_parts (nat_lt (pool_count pool) 65536) (list_all constant_fits pool) fits).1 in
    let count = count_more pool c in
    and_from _ _ (lt-ltb _ _ (omega arith)) (list_all-append constant_fits pool (c ∷ []) ∙ and_from _ _ all (and_from _ _ one refl))

pub room_new : (pool : List Entry) (c : Entry) → IsNew pool c → IsTrue (pool_fits (pool ++ c ∷ [])) → HasRoom (IsAdded pool c)
room_new pool c new fits = (pool ++ c ∷ [], pool_count pool, added pool c new, fits)

-- what a pool in the making keeps, with one constant more
pub pooled_more : (pool now after : List Entry) (c : Entry) (k : Key) (m n : BTreeMap Key ℕ) (count after_count : ℕ) → pool ≡ now → IsPooled pool m count → IsNew now c
    → after_count ≡ pool_count now + length (entries_of c) → after_count < 65536 → IsTrue (constant_fits c) → key_holding k ≡ holding c
    → Updates (λ x. compare (key_holding x)) m n k (Some count) → after ≡ pool ++ c ∷ [] → IsPooled after n after_count
pooled_more pool now after c k m n count after_count view h new counted few fits key updates e =
    let new' : IsNew pool c = subst (λ p. IsNew p c) (sym view) new in
    let place : pool_count now ≡ pool_count pool = ap pool_count (sym view) in
    let more = count_more pool c in
    subst (λ p. IsPooled p n after_count) (sym e) (record {
      fits = fits_more pool c h.fits fits (omega arith);
      counted = omega arith;
      indices = indices_more pool c k m n key new' (subst (λ x. Updates (λ x. compare (key_holding x)) m n k (Some x)) h.counted updates) h.indices;
    })

pub added_at : (pool now after : List Entry) (c : Entry) (m : BTreeMap Key ℕ) (count : ℕ) → pool ≡ now → IsPooled pool m count → IsNew now c → after ≡ now ++ c ∷ [] → IsAdded now c after count
added_at pool now after c m count view h new e =
    let place : pool_count now ≡ count = ap pool_count (sym view) ∙ sym h.counted in
    subst (λ n. IsAdded now c after n) place (subst (λ p. IsAdded now c p (pool_count now)) (sym e) (added now c new))

pub room_at : (pool now : List Entry) (c : Entry) (m : BTreeMap Key ℕ) (count : ℕ) → pool ≡ now → IsPooled pool m count → IsNew now c → IsTrue (constant_fits c)
    → count + length (entries_of c) < 65536 → HasRoom (IsAdded now c)
room_at pool now c m count view h new fits few =
    let place : pool_count now ≡ count = ap pool_count (sym view) ∙ sym h.counted in
    room_new now c new (fits_more now c (subst (λ p. IsTrue (pool_fits p)) view h.fits) fits (omega arith))
