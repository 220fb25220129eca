use Rattle.std.proofs.Common.{◌≡◌, ℕ, ◌-◌, ◌<◌, [], ◌∷◌, length, refl, ap, get_or, arith}
use Rattle.jv_interp_held.specs.Executing.{place}
use Rattle.jv_interp_objects.proofs.StoredIn.{one_above}
use Rattle.jv_interp_objects.proofs.StoredThere.{below_one, all_there, null_raises, in_array, count_word, block_size, few_values, outside_raises, word_stored}
use Rattle.jv_interp_objects.proofs.stores.store_int.Goals as goal

pub overflow_sub-array : goal.overflow_sub-array
overflow_sub-array g c =
    let here = place c.args.at.now c.args.words.now c.args.held.now (g.S.Store.content c.args.store.now) in
    let q = c.requires in
    let a : get_or c.args.words.now (c.args.at.now.top - 1 - 2) 0 ≡ get_or c.args.words.now (c.args.at.now.top - 3) 0 = ap (λ (n : ℕ). get_or c.args.words.now n 0) (below_one c.args.at.now.top).0 in
    let b : get_or c.args.words.now (c.args.at.now.top - 1 - 1) 0 ≡ get_or c.args.words.now (c.args.at.now.top - 2) 0 = ap (λ (n : ℕ). get_or c.args.words.now n 0) (below_one c.args.at.now.top).1 in
    let u = one_above 1 c.args.next here q.texts q.c q.kind q.addresses q.done q.below q.stores refl in
    let e = all_there 1 c.args.next here q.texts q.c q.kind q.addresses q.done q.below q.stores (get_or c.args.words.now (c.args.at.now.top - 1) 0 ∷
    []) u (get_or c.args.words.now (c.args.at.now.top - 3) 0) (get_or c.args.words.now (c.args.at.now.top - 2) 0) a b in
    omega (arith, e)

pub overflow_sub-at-2 : goal.overflow_sub-at-2
overflow_sub-at-2 g c =
    let here = place c.args.at.now c.args.words.now c.args.held.now (g.S.Store.content c.args.store.now) in
    let q = c.requires in
    let a : get_or c.args.words.now (c.args.at.now.top - 1 - 2) 0 ≡ get_or c.args.words.now (c.args.at.now.top - 3) 0 = ap (λ (n : ℕ). get_or c.args.words.now n 0) (below_one c.args.at.now.top).0 in
    let b : get_or c.args.words.now (c.args.at.now.top - 1 - 1) 0 ≡ get_or c.args.words.now (c.args.at.now.top - 2) 0 = ap (λ (n : ℕ). get_or c.args.words.now n 0) (below_one c.args.at.now.top).1 in
    let u = one_above 1 c.args.next here q.texts q.c q.kind q.addresses q.done q.below q.stores refl in
    let e = all_there 1 c.args.next here q.texts q.c q.kind q.addresses q.done q.below q.stores (get_or c.args.words.now (c.args.at.now.top - 1) 0 ∷
    []) u (get_or c.args.words.now (c.args.at.now.top - 3) 0) (get_or c.args.words.now (c.args.at.now.top - 2) 0) a b in
    omega (arith, e)

pub returns-then-array-eq0-clause-stores : goal.returns-then-array-eq0-clause-stores
returns-then-array-eq0-clause-stores g c = λ texts x kind addresses done below h narrows.
    let here = place c.args.at.now c.args.words.now c.args.held.now (g.S.Store.content c.args.store.now) in
    let a : get_or c.args.words.now (c.args.at.now.top - 1 - 2) 0 ≡ get_or c.args.words.now (c.args.at.now.top - 3) 0 = ap (λ (n : ℕ). get_or c.args.words.now n 0) (below_one c.args.at.now.top).0 in
    let b : get_or c.args.words.now (c.args.at.now.top - 1 - 1) 0 ≡ get_or c.args.words.now (c.args.at.now.top - 2) 0 = ap (λ (n : ℕ). get_or c.args.words.now n 0) (below_one c.args.at.now.top).1 in
    let u = one_above 1 c.args.next here texts x kind addresses done below h refl in
    null_raises 1 c.args.next here texts x kind addresses done below h (get_or c.args.words.now (c.args.at.now.top - 1) 0 ∷ []) u
    (get_or c.args.words.now (c.args.at.now.top - 3) 0) (get_or c.args.words.now (c.args.at.now.top - 2) 0) a b c.if-array-eq0.true

pub get-requires : goal.get-requires
get-requires g c =
    let here = place c.args.at.now c.args.words.now c.args.held.now (g.S.Store.content c.args.store.now) in
    let q = c.requires in
    let a : get_or c.args.words.now (c.args.at.now.top - 1 - 2) 0 ≡ get_or c.args.words.now (c.args.at.now.top - 3) 0 = ap (λ (n : ℕ). get_or c.args.words.now n 0) (below_one c.args.at.now.top).0 in
    let b : get_or c.args.words.now (c.args.at.now.top - 1 - 1) 0 ≡ get_or c.args.words.now (c.args.at.now.top - 2) 0 = ap (λ (n : ℕ). get_or c.args.words.now n 0) (below_one c.args.at.now.top).1 in
    let u = one_above 1 c.args.next here q.texts q.c q.kind q.addresses q.done q.below q.stores refl in
    let i = in_array 1 c.args.next here q.texts q.c q.kind q.addresses q.done q.below q.stores (get_or c.args.words.now (c.args.at.now.top - 1) 0 ∷
    []) u (get_or c.args.words.now (c.args.at.now.top - 3) 0) (get_or c.args.words.now (c.args.at.now.top - 2) 0) a b c.if-array-eq0.false in
    let size = block_size 1 c.args.next here q.texts q.c q.kind q.addresses q.done q.below q.stores
    (get_or c.args.words.now (c.args.at.now.top - 1) 0 ∷ []) u (get_or c.args.words.now (c.args.at.now.top - 3) 0)
    (get_or c.args.words.now (c.args.at.now.top - 2) 0) a b i in
    omega (arith, size)

pub returns-then-get-index-clause-stores : goal.returns-then-get-index-clause-stores
returns-then-get-index-clause-stores g c = λ texts x kind addresses done below h narrows.
    let here = place c.args.at.now c.args.words.now c.args.held.now (g.S.Store.content c.args.store.now) in
    let a : get_or c.args.words.now (c.args.at.now.top - 1 - 2) 0 ≡ get_or c.args.words.now (c.args.at.now.top - 3) 0 = ap (λ (n : ℕ). get_or c.args.words.now n 0) (below_one c.args.at.now.top).0 in
    let b : get_or c.args.words.now (c.args.at.now.top - 1 - 1) 0 ≡ get_or c.args.words.now (c.args.at.now.top - 2) 0 = ap (λ (n : ℕ). get_or c.args.words.now n 0) (below_one c.args.at.now.top).1 in
    let u = one_above 1 c.args.next here texts x kind addresses done below h refl in
    let i = in_array 1 c.args.next here texts x kind addresses done below h (get_or c.args.words.now (c.args.at.now.top - 1) 0 ∷ []) u
    (get_or c.args.words.now (c.args.at.now.top - 3) 0) (get_or c.args.words.now (c.args.at.now.top - 2) 0) a b c.if-array-eq0.false in
    let count = count_word 1 c.args.next here texts x kind addresses done below h (get_or c.args.words.now (c.args.at.now.top - 1) 0 ∷ []) u
    (get_or c.args.words.now (c.args.at.now.top - 3) 0) (get_or c.args.words.now (c.args.at.now.top - 2) 0) a b i in
    let e = c.get.ensures in
    let w = c.if-get-index.true in
    outside_raises 1 c.args.next here texts x kind addresses done below h (get_or c.args.words.now (c.args.at.now.top - 1) 0 ∷ []) u
    (get_or c.args.words.now (c.args.at.now.top - 3) 0) (get_or c.args.words.now (c.args.at.now.top - 2) 0) a b i (omega (arith, count, e, w))

pub overflow_add-index : goal.overflow_add-index
overflow_add-index g c =
    let here = place c.args.at.now c.args.words.now c.args.held.now (g.S.Store.content c.args.store.now) in
    let q = c.requires in
    let a : get_or c.args.words.now (c.args.at.now.top - 1 - 2) 0 ≡ get_or c.args.words.now (c.args.at.now.top - 3) 0 = ap (λ (n : ℕ). get_or c.args.words.now n 0) (below_one c.args.at.now.top).0 in
    let b : get_or c.args.words.now (c.args.at.now.top - 1 - 1) 0 ≡ get_or c.args.words.now (c.args.at.now.top - 2) 0 = ap (λ (n : ℕ). get_or c.args.words.now n 0) (below_one c.args.at.now.top).1 in
    let u = one_above 1 c.args.next here q.texts q.c q.kind q.addresses q.done q.below q.stores refl in
    let i = in_array 1 c.args.next here q.texts q.c q.kind q.addresses q.done q.below q.stores (get_or c.args.words.now (c.args.at.now.top - 1) 0 ∷
    []) u (get_or c.args.words.now (c.args.at.now.top - 3) 0) (get_or c.args.words.now (c.args.at.now.top - 2) 0) a b c.if-array-eq0.false in
    let size = block_size 1 c.args.next here q.texts q.c q.kind q.addresses q.done q.below q.stores
    (get_or c.args.words.now (c.args.at.now.top - 1) 0 ∷ []) u (get_or c.args.words.now (c.args.at.now.top - 3) 0)
    (get_or c.args.words.now (c.args.at.now.top - 2) 0) a b i in
    let count = count_word 1 c.args.next here q.texts q.c q.kind q.addresses q.done q.below q.stores
    (get_or c.args.words.now (c.args.at.now.top - 1) 0 ∷ []) u (get_or c.args.words.now (c.args.at.now.top - 3) 0)
    (get_or c.args.words.now (c.args.at.now.top - 2) 0) a b i in
    let few = few_values 1 c.args.next here q.texts q.c q.kind q.addresses q.done q.below q.stores
    (get_or c.args.words.now (c.args.at.now.top - 1) 0 ∷ []) u (get_or c.args.words.now (c.args.at.now.top - 3) 0)
    (get_or c.args.words.now (c.args.at.now.top - 2) 0) a b i in
    let e = c.get.ensures in
    let w = c.if-get-index.false in
    omega (arith, size, count, few, e, w)

pub set-requires : goal.set-requires
set-requires g c =
    let here = place c.args.at.now c.args.words.now c.args.held.now (g.S.Store.content c.args.store.now) in
    let q = c.requires in
    let a : get_or c.args.words.now (c.args.at.now.top - 1 - 2) 0 ≡ get_or c.args.words.now (c.args.at.now.top - 3) 0 = ap (λ (n : ℕ). get_or c.args.words.now n 0) (below_one c.args.at.now.top).0 in
    let b : get_or c.args.words.now (c.args.at.now.top - 1 - 1) 0 ≡ get_or c.args.words.now (c.args.at.now.top - 2) 0 = ap (λ (n : ℕ). get_or c.args.words.now n 0) (below_one c.args.at.now.top).1 in
    let u = one_above 1 c.args.next here q.texts q.c q.kind q.addresses q.done q.below q.stores refl in
    let i = in_array 1 c.args.next here q.texts q.c q.kind q.addresses q.done q.below q.stores (get_or c.args.words.now (c.args.at.now.top - 1) 0 ∷
    []) u (get_or c.args.words.now (c.args.at.now.top - 3) 0) (get_or c.args.words.now (c.args.at.now.top - 2) 0) a b c.if-array-eq0.false in
    let size = block_size 1 c.args.next here q.texts q.c q.kind q.addresses q.done q.below q.stores
    (get_or c.args.words.now (c.args.at.now.top - 1) 0 ∷ []) u (get_or c.args.words.now (c.args.at.now.top - 3) 0)
    (get_or c.args.words.now (c.args.at.now.top - 2) 0) a b i in
    let count = count_word 1 c.args.next here q.texts q.c q.kind q.addresses q.done q.below q.stores
    (get_or c.args.words.now (c.args.at.now.top - 1) 0 ∷ []) u (get_or c.args.words.now (c.args.at.now.top - 3) 0)
    (get_or c.args.words.now (c.args.at.now.top - 2) 0) a b i in
    let few = few_values 1 c.args.next here q.texts q.c q.kind q.addresses q.done q.below q.stores
    (get_or c.args.words.now (c.args.at.now.top - 1) 0 ∷ []) u (get_or c.args.words.now (c.args.at.now.top - 3) 0)
    (get_or c.args.words.now (c.args.at.now.top - 2) 0) a b i in
    let e = c.get.ensures in
    let w = c.if-get-index.false in
    omega (arith, size, count, few, e, w)

pub returns-clause-stores : goal.returns-clause-stores
returns-clause-stores g c = λ texts x kind addresses done below h narrows.
    let here = place c.args.at.now c.args.words.now c.args.held.now (g.S.Store.content c.args.store.now) in
    let a : get_or c.args.words.now (c.args.at.now.top - 1 - 2) 0 ≡ get_or c.args.words.now (c.args.at.now.top - 3) 0 = ap (λ (n : ℕ). get_or c.args.words.now n 0) (below_one c.args.at.now.top).0 in
    let b : get_or c.args.words.now (c.args.at.now.top - 1 - 1) 0 ≡ get_or c.args.words.now (c.args.at.now.top - 2) 0 = ap (λ (n : ℕ). get_or c.args.words.now n 0) (below_one c.args.at.now.top).1 in
    let u = one_above 1 c.args.next here texts x kind addresses done below h refl in
    let i = in_array 1 c.args.next here texts x kind addresses done below h (get_or c.args.words.now (c.args.at.now.top - 1) 0 ∷ []) u
    (get_or c.args.words.now (c.args.at.now.top - 3) 0) (get_or c.args.words.now (c.args.at.now.top - 2) 0) a b c.if-array-eq0.false in
    let count = count_word 1 c.args.next here texts x kind addresses done below h (get_or c.args.words.now (c.args.at.now.top - 1) 0 ∷ []) u
    (get_or c.args.words.now (c.args.at.now.top - 3) 0) (get_or c.args.words.now (c.args.at.now.top - 2) 0) a b i in
    let e = c.get.ensures in
    let w = c.if-get-index.false in
    let within : (get_or c.args.words.now (c.args.at.now.top - 2) 0) < length i.of.values = omega (arith, count, e, w) in
    let low : c.args.at.now.top - 3 ≡ c.args.at.now.top - 1 - 2 = omega arith in
    word_stored 1 c.args.next here texts x kind addresses done below h (get_or c.args.words.now (c.args.at.now.top - 1) 0 ∷ []) u
    (get_or c.args.words.now (c.args.at.now.top - 3) 0) (get_or c.args.words.now (c.args.at.now.top - 2) 0) a b i c.args.how
    c.narrowed-value.result _ (g.S.Store.content c.set.new.self) refl within refl c.narrowed-value.ensures narrows refl low
    c.set.ensures.content
