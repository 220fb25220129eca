use Rattle.std.proofs.Common.{◌≡◌, ℕ, ◌+◌, ◌-◌, ◌*◌, ◌<◌, List, [], ◌∷◌, length, refl, ap, ◌∙◌, get_or, arith}
use Rattle.std.proofs.lemmas.List.{length-set}
use Rattle.jv_store.specs.Content.{words_at, written}
use Rattle.jv_interp_heap.specs.ObjectsInBlocks.{Blocks}
use Rattle.jv_interp_heap.proofs.Changed.{word_written}
use Rattle.jv_interp_held.specs.Executing.{place}
use Rattle.jv_interp_objects.proofs.StoredIn.{two_above}
use Rattle.jv_interp_objects.proofs.StoredThere.{below_two, all_there, null_raises, in_array, count_word, block_size, few_values, outside_raises, long_stored}
use Rattle.jv_interp_objects.proofs.stores.store_long.Goals as goal

pub overflow_sub-at-3 : goal.overflow_sub-at-3
overflow_sub-at-3 g c =
    let here = place c.args.at.now c.args.words.now c.args.held.now (g.S.Store.content c.args.store.now) in
    let q = c.requires in
    let a : get_or c.args.words.now (c.args.at.now.top - 2 - 2) 0 ≡ get_or c.args.words.now (c.args.at.now.top - 4) 0 = ap (λ (n : ℕ). get_or c.args.words.now n 0) (below_two c.args.at.now.top).0 in
    let b : get_or c.args.words.now (c.args.at.now.top - 2 - 1) 0 ≡ get_or c.args.words.now (c.args.at.now.top - 3) 0 = ap (λ (n : ℕ). get_or c.args.words.now n 0) (below_two c.args.at.now.top).1 in
    let u = two_above 2 c.args.next here q.texts q.c q.kind q.addresses q.done q.below q.stores refl in
    let e = all_there 2 c.args.next here q.texts q.c q.kind q.addresses q.done q.below q.stores (get_or c.args.words.now (c.args.at.now.top - 2) 0 ∷
    get_or c.args.words.now (c.args.at.now.top - 1) 0 ∷ []) u (get_or c.args.words.now (c.args.at.now.top - 4) 0)
    (get_or c.args.words.now (c.args.at.now.top - 3) 0) a b in
    omega (arith, e)

pub returns-then-array-eq0-clause-stores : goal.returns-then-array-eq0-clause-stores
returns-then-array-eq0-clause-stores g c = λ texts x kind addresses done below h narrows.
    let here = place c.args.at.now c.args.words.now c.args.held.now (g.S.Store.content c.args.store.now) in
    let a : get_or c.args.words.now (c.args.at.now.top - 2 - 2) 0 ≡ get_or c.args.words.now (c.args.at.now.top - 4) 0 = ap (λ (n : ℕ). get_or c.args.words.now n 0) (below_two c.args.at.now.top).0 in
    let b : get_or c.args.words.now (c.args.at.now.top - 2 - 1) 0 ≡ get_or c.args.words.now (c.args.at.now.top - 3) 0 = ap (λ (n : ℕ). get_or c.args.words.now n 0) (below_two c.args.at.now.top).1 in
    let u = two_above 2 c.args.next here texts x kind addresses done below h refl in
    null_raises 2 c.args.next here texts x kind addresses done below h (get_or c.args.words.now (c.args.at.now.top - 2) 0 ∷ get_or c.args.words.now
    (c.args.at.now.top - 1) 0 ∷ []) u (get_or c.args.words.now (c.args.at.now.top - 4) 0) (get_or c.args.words.now (c.args.at.now.top - 3) 0) a b
    c.if-array-eq0.true

pub get-requires : goal.get-requires
get-requires g c =
    let here = place c.args.at.now c.args.words.now c.args.held.now (g.S.Store.content c.args.store.now) in
    let q = c.requires in
    let a : get_or c.args.words.now (c.args.at.now.top - 2 - 2) 0 ≡ get_or c.args.words.now (c.args.at.now.top - 4) 0 = ap (λ (n : ℕ). get_or c.args.words.now n 0) (below_two c.args.at.now.top).0 in
    let b : get_or c.args.words.now (c.args.at.now.top - 2 - 1) 0 ≡ get_or c.args.words.now (c.args.at.now.top - 3) 0 = ap (λ (n : ℕ). get_or c.args.words.now n 0) (below_two c.args.at.now.top).1 in
    let u = two_above 2 c.args.next here q.texts q.c q.kind q.addresses q.done q.below q.stores refl in
    let i = in_array 2 c.args.next here q.texts q.c q.kind q.addresses q.done q.below q.stores (get_or c.args.words.now (c.args.at.now.top - 2) 0 ∷
    get_or c.args.words.now (c.args.at.now.top - 1) 0 ∷ []) u (get_or c.args.words.now (c.args.at.now.top - 4) 0)
    (get_or c.args.words.now (c.args.at.now.top - 3) 0) a b c.if-array-eq0.false in
    let size = block_size 2 c.args.next here q.texts q.c q.kind q.addresses q.done q.below q.stores
    (get_or c.args.words.now (c.args.at.now.top - 2) 0 ∷ get_or c.args.words.now (c.args.at.now.top - 1) 0 ∷ []) u
    (get_or c.args.words.now (c.args.at.now.top - 4) 0) (get_or c.args.words.now (c.args.at.now.top - 3) 0) a b i in
    omega (arith, size)

pub returns-then-get-index-clause-stores : goal.returns-then-get-index-clause-stores
returns-then-get-index-clause-stores g c = λ texts x kind addresses done below h narrows.
    let here = place c.args.at.now c.args.words.now c.args.held.now (g.S.Store.content c.args.store.now) in
    let a : get_or c.args.words.now (c.args.at.now.top - 2 - 2) 0 ≡ get_or c.args.words.now (c.args.at.now.top - 4) 0 = ap (λ (n : ℕ). get_or c.args.words.now n 0) (below_two c.args.at.now.top).0 in
    let b : get_or c.args.words.now (c.args.at.now.top - 2 - 1) 0 ≡ get_or c.args.words.now (c.args.at.now.top - 3) 0 = ap (λ (n : ℕ). get_or c.args.words.now n 0) (below_two c.args.at.now.top).1 in
    let u = two_above 2 c.args.next here texts x kind addresses done below h refl in
    let i = in_array 2 c.args.next here texts x kind addresses done below h (get_or c.args.words.now (c.args.at.now.top - 2) 0 ∷
    get_or c.args.words.now (c.args.at.now.top - 1) 0 ∷ []) u (get_or c.args.words.now (c.args.at.now.top - 4) 0)
    (get_or c.args.words.now (c.args.at.now.top - 3) 0) a b c.if-array-eq0.false in
    let count = count_word 2 c.args.next here texts x kind addresses done below h (get_or c.args.words.now (c.args.at.now.top - 2) 0 ∷
    get_or c.args.words.now (c.args.at.now.top - 1) 0 ∷ []) u (get_or c.args.words.now (c.args.at.now.top - 4) 0)
    (get_or c.args.words.now (c.args.at.now.top - 3) 0) a b i in
    let e = c.get.ensures in
    let w = c.if-get-index.true in
    outside_raises 2 c.args.next here texts x kind addresses done below h (get_or c.args.words.now (c.args.at.now.top - 2) 0 ∷ get_or c.args.words.now
    (c.args.at.now.top - 1) 0 ∷ []) u (get_or c.args.words.now (c.args.at.now.top - 4) 0) (get_or c.args.words.now (c.args.at.now.top - 3) 0) a b
    i (omega (arith, count, e, w))

pub overflow_add-index : goal.overflow_add-index
overflow_add-index g c =
    let here = place c.args.at.now c.args.words.now c.args.held.now (g.S.Store.content c.args.store.now) in
    let q = c.requires in
    let a : get_or c.args.words.now (c.args.at.now.top - 2 - 2) 0 ≡ get_or c.args.words.now (c.args.at.now.top - 4) 0 = ap (λ (n : ℕ). get_or c.args.words.now n 0) (below_two c.args.at.now.top).0 in
    let b : get_or c.args.words.now (c.args.at.now.top - 2 - 1) 0 ≡ get_or c.args.words.now (c.args.at.now.top - 3) 0 = ap (λ (n : ℕ). get_or c.args.words.now n 0) (below_two c.args.at.now.top).1 in
    let u = two_above 2 c.args.next here q.texts q.c q.kind q.addresses q.done q.below q.stores refl in
    let i = in_array 2 c.args.next here q.texts q.c q.kind q.addresses q.done q.below q.stores (get_or c.args.words.now (c.args.at.now.top - 2) 0 ∷
    get_or c.args.words.now (c.args.at.now.top - 1) 0 ∷ []) u (get_or c.args.words.now (c.args.at.now.top - 4) 0)
    (get_or c.args.words.now (c.args.at.now.top - 3) 0) a b c.if-array-eq0.false in
    let size = block_size 2 c.args.next here q.texts q.c q.kind q.addresses q.done q.below q.stores
    (get_or c.args.words.now (c.args.at.now.top - 2) 0 ∷ get_or c.args.words.now (c.args.at.now.top - 1) 0 ∷ []) u
    (get_or c.args.words.now (c.args.at.now.top - 4) 0) (get_or c.args.words.now (c.args.at.now.top - 3) 0) a b i in
    let count = count_word 2 c.args.next here q.texts q.c q.kind q.addresses q.done q.below q.stores
    (get_or c.args.words.now (c.args.at.now.top - 2) 0 ∷ get_or c.args.words.now (c.args.at.now.top - 1) 0 ∷ []) u
    (get_or c.args.words.now (c.args.at.now.top - 4) 0) (get_or c.args.words.now (c.args.at.now.top - 3) 0) a b i in
    let few = few_values 2 c.args.next here q.texts q.c q.kind q.addresses q.done q.below q.stores
    (get_or c.args.words.now (c.args.at.now.top - 2) 0 ∷ get_or c.args.words.now (c.args.at.now.top - 1) 0 ∷ []) u
    (get_or c.args.words.now (c.args.at.now.top - 4) 0) (get_or c.args.words.now (c.args.at.now.top - 3) 0) a b i in
    let e = c.get.ensures in
    let w = c.if-get-index.false in
    omega (arith, size, count, few, e, w)

pub set-requires : goal.set-requires
set-requires g c =
    let here = place c.args.at.now c.args.words.now c.args.held.now (g.S.Store.content c.args.store.now) in
    let q = c.requires in
    let a : get_or c.args.words.now (c.args.at.now.top - 2 - 2) 0 ≡ get_or c.args.words.now (c.args.at.now.top - 4) 0 = ap (λ (n : ℕ). get_or c.args.words.now n 0) (below_two c.args.at.now.top).0 in
    let b : get_or c.args.words.now (c.args.at.now.top - 2 - 1) 0 ≡ get_or c.args.words.now (c.args.at.now.top - 3) 0 = ap (λ (n : ℕ). get_or c.args.words.now n 0) (below_two c.args.at.now.top).1 in
    let u = two_above 2 c.args.next here q.texts q.c q.kind q.addresses q.done q.below q.stores refl in
    let i = in_array 2 c.args.next here q.texts q.c q.kind q.addresses q.done q.below q.stores (get_or c.args.words.now (c.args.at.now.top - 2) 0 ∷
    get_or c.args.words.now (c.args.at.now.top - 1) 0 ∷ []) u (get_or c.args.words.now (c.args.at.now.top - 4) 0)
    (get_or c.args.words.now (c.args.at.now.top - 3) 0) a b c.if-array-eq0.false in
    let size = block_size 2 c.args.next here q.texts q.c q.kind q.addresses q.done q.below q.stores
    (get_or c.args.words.now (c.args.at.now.top - 2) 0 ∷ get_or c.args.words.now (c.args.at.now.top - 1) 0 ∷ []) u
    (get_or c.args.words.now (c.args.at.now.top - 4) 0) (get_or c.args.words.now (c.args.at.now.top - 3) 0) a b i in
    let count = count_word 2 c.args.next here q.texts q.c q.kind q.addresses q.done q.below q.stores
    (get_or c.args.words.now (c.args.at.now.top - 2) 0 ∷ get_or c.args.words.now (c.args.at.now.top - 1) 0 ∷ []) u
    (get_or c.args.words.now (c.args.at.now.top - 4) 0) (get_or c.args.words.now (c.args.at.now.top - 3) 0) a b i in
    let few = few_values 2 c.args.next here q.texts q.c q.kind q.addresses q.done q.below q.stores
    (get_or c.args.words.now (c.args.at.now.top - 2) 0 ∷ get_or c.args.words.now (c.args.at.now.top - 1) 0 ∷ []) u
    (get_or c.args.words.now (c.args.at.now.top - 4) 0) (get_or c.args.words.now (c.args.at.now.top - 3) 0) a b i in
    let e = c.get.ensures in
    let w = c.if-get-index.false in
    omega (arith, size, count, few, e, w)

pub overflow_mul-index : goal.overflow_mul-index
overflow_mul-index g c =
    let here = place c.args.at.now c.args.words.now c.args.held.now (g.S.Store.content c.args.store.now) in
    let q = c.requires in
    let a : get_or c.args.words.now (c.args.at.now.top - 2 - 2) 0 ≡ get_or c.args.words.now (c.args.at.now.top - 4) 0 = ap (λ (n : ℕ). get_or c.args.words.now n 0) (below_two c.args.at.now.top).0 in
    let b : get_or c.args.words.now (c.args.at.now.top - 2 - 1) 0 ≡ get_or c.args.words.now (c.args.at.now.top - 3) 0 = ap (λ (n : ℕ). get_or c.args.words.now n 0) (below_two c.args.at.now.top).1 in
    let u = two_above 2 c.args.next here q.texts q.c q.kind q.addresses q.done q.below q.stores refl in
    let i = in_array 2 c.args.next here q.texts q.c q.kind q.addresses q.done q.below q.stores (get_or c.args.words.now (c.args.at.now.top - 2) 0 ∷
    get_or c.args.words.now (c.args.at.now.top - 1) 0 ∷ []) u (get_or c.args.words.now (c.args.at.now.top - 4) 0)
    (get_or c.args.words.now (c.args.at.now.top - 3) 0) a b c.if-array-eq0.false in
    let size = block_size 2 c.args.next here q.texts q.c q.kind q.addresses q.done q.below q.stores
    (get_or c.args.words.now (c.args.at.now.top - 2) 0 ∷ get_or c.args.words.now (c.args.at.now.top - 1) 0 ∷ []) u
    (get_or c.args.words.now (c.args.at.now.top - 4) 0) (get_or c.args.words.now (c.args.at.now.top - 3) 0) a b i in
    let count = count_word 2 c.args.next here q.texts q.c q.kind q.addresses q.done q.below q.stores
    (get_or c.args.words.now (c.args.at.now.top - 2) 0 ∷ get_or c.args.words.now (c.args.at.now.top - 1) 0 ∷ []) u
    (get_or c.args.words.now (c.args.at.now.top - 4) 0) (get_or c.args.words.now (c.args.at.now.top - 3) 0) a b i in
    let few = few_values 2 c.args.next here q.texts q.c q.kind q.addresses q.done q.below q.stores
    (get_or c.args.words.now (c.args.at.now.top - 2) 0 ∷ get_or c.args.words.now (c.args.at.now.top - 1) 0 ∷ []) u
    (get_or c.args.words.now (c.args.at.now.top - 4) 0) (get_or c.args.words.now (c.args.at.now.top - 3) 0) a b i in
    let e = c.get.ensures in
    let w = c.if-get-index.false in
    omega (arith, size, count, few, e, w)

pub overflow_mul-index-2 : goal.overflow_mul-index-2
overflow_mul-index-2 g c =
    let here = place c.args.at.now c.args.words.now c.args.held.now (g.S.Store.content c.args.store.now) in
    let q = c.requires in
    let a : get_or c.args.words.now (c.args.at.now.top - 2 - 2) 0 ≡ get_or c.args.words.now (c.args.at.now.top - 4) 0 = ap (λ (n : ℕ). get_or c.args.words.now n 0) (below_two c.args.at.now.top).0 in
    let b : get_or c.args.words.now (c.args.at.now.top - 2 - 1) 0 ≡ get_or c.args.words.now (c.args.at.now.top - 3) 0 = ap (λ (n : ℕ). get_or c.args.words.now n 0) (below_two c.args.at.now.top).1 in
    let u = two_above 2 c.args.next here q.texts q.c q.kind q.addresses q.done q.below q.stores refl in
    let i = in_array 2 c.args.next here q.texts q.c q.kind q.addresses q.done q.below q.stores (get_or c.args.words.now (c.args.at.now.top - 2) 0 ∷
    get_or c.args.words.now (c.args.at.now.top - 1) 0 ∷ []) u (get_or c.args.words.now (c.args.at.now.top - 4) 0)
    (get_or c.args.words.now (c.args.at.now.top - 3) 0) a b c.if-array-eq0.false in
    let size = block_size 2 c.args.next here q.texts q.c q.kind q.addresses q.done q.below q.stores
    (get_or c.args.words.now (c.args.at.now.top - 2) 0 ∷ get_or c.args.words.now (c.args.at.now.top - 1) 0 ∷ []) u
    (get_or c.args.words.now (c.args.at.now.top - 4) 0) (get_or c.args.words.now (c.args.at.now.top - 3) 0) a b i in
    let count = count_word 2 c.args.next here q.texts q.c q.kind q.addresses q.done q.below q.stores
    (get_or c.args.words.now (c.args.at.now.top - 2) 0 ∷ get_or c.args.words.now (c.args.at.now.top - 1) 0 ∷ []) u
    (get_or c.args.words.now (c.args.at.now.top - 4) 0) (get_or c.args.words.now (c.args.at.now.top - 3) 0) a b i in
    let few = few_values 2 c.args.next here q.texts q.c q.kind q.addresses q.done q.below q.stores
    (get_or c.args.words.now (c.args.at.now.top - 2) 0 ∷ get_or c.args.words.now (c.args.at.now.top - 1) 0 ∷ []) u
    (get_or c.args.words.now (c.args.at.now.top - 4) 0) (get_or c.args.words.now (c.args.at.now.top - 3) 0) a b i in
    let e = c.get.ensures in
    let w = c.if-get-index.false in
    omega (arith, size, count, few, e, w)

pub overflow_add-index-2 : goal.overflow_add-index-2
overflow_add-index-2 g c =
    let here = place c.args.at.now c.args.words.now c.args.held.now (g.S.Store.content c.args.store.now) in
    let q = c.requires in
    let a : get_or c.args.words.now (c.args.at.now.top - 2 - 2) 0 ≡ get_or c.args.words.now (c.args.at.now.top - 4) 0 = ap (λ (n : ℕ). get_or c.args.words.now n 0) (below_two c.args.at.now.top).0 in
    let b : get_or c.args.words.now (c.args.at.now.top - 2 - 1) 0 ≡ get_or c.args.words.now (c.args.at.now.top - 3) 0 = ap (λ (n : ℕ). get_or c.args.words.now n 0) (below_two c.args.at.now.top).1 in
    let u = two_above 2 c.args.next here q.texts q.c q.kind q.addresses q.done q.below q.stores refl in
    let i = in_array 2 c.args.next here q.texts q.c q.kind q.addresses q.done q.below q.stores (get_or c.args.words.now (c.args.at.now.top - 2) 0 ∷
    get_or c.args.words.now (c.args.at.now.top - 1) 0 ∷ []) u (get_or c.args.words.now (c.args.at.now.top - 4) 0)
    (get_or c.args.words.now (c.args.at.now.top - 3) 0) a b c.if-array-eq0.false in
    let size = block_size 2 c.args.next here q.texts q.c q.kind q.addresses q.done q.below q.stores
    (get_or c.args.words.now (c.args.at.now.top - 2) 0 ∷ get_or c.args.words.now (c.args.at.now.top - 1) 0 ∷ []) u
    (get_or c.args.words.now (c.args.at.now.top - 4) 0) (get_or c.args.words.now (c.args.at.now.top - 3) 0) a b i in
    let count = count_word 2 c.args.next here q.texts q.c q.kind q.addresses q.done q.below q.stores
    (get_or c.args.words.now (c.args.at.now.top - 2) 0 ∷ get_or c.args.words.now (c.args.at.now.top - 1) 0 ∷ []) u
    (get_or c.args.words.now (c.args.at.now.top - 4) 0) (get_or c.args.words.now (c.args.at.now.top - 3) 0) a b i in
    let few = few_values 2 c.args.next here q.texts q.c q.kind q.addresses q.done q.below q.stores
    (get_or c.args.words.now (c.args.at.now.top - 2) 0 ∷ get_or c.args.words.now (c.args.at.now.top - 1) 0 ∷ []) u
    (get_or c.args.words.now (c.args.at.now.top - 4) 0) (get_or c.args.words.now (c.args.at.now.top - 3) 0) a b i in
    let e = c.get.ensures in
    let w = c.if-get-index.false in
    omega (arith, size, count, few, e, w)

pub set-requires-2 : goal.set-requires-2
set-requires-2 g c =
    let here = place c.args.at.now c.args.words.now c.args.held.now (g.S.Store.content c.args.store.now) in
    let q = c.requires in
    let a : get_or c.args.words.now (c.args.at.now.top - 2 - 2) 0 ≡ get_or c.args.words.now (c.args.at.now.top - 4) 0 = ap (λ (n : ℕ). get_or c.args.words.now n 0) (below_two c.args.at.now.top).0 in
    let b : get_or c.args.words.now (c.args.at.now.top - 2 - 1) 0 ≡ get_or c.args.words.now (c.args.at.now.top - 3) 0 = ap (λ (n : ℕ). get_or c.args.words.now n 0) (below_two c.args.at.now.top).1 in
    let u = two_above 2 c.args.next here q.texts q.c q.kind q.addresses q.done q.below q.stores refl in
    let i = in_array 2 c.args.next here q.texts q.c q.kind q.addresses q.done q.below q.stores (get_or c.args.words.now (c.args.at.now.top - 2) 0 ∷
    get_or c.args.words.now (c.args.at.now.top - 1) 0 ∷ []) u (get_or c.args.words.now (c.args.at.now.top - 4) 0)
    (get_or c.args.words.now (c.args.at.now.top - 3) 0) a b c.if-array-eq0.false in
    let size = block_size 2 c.args.next here q.texts q.c q.kind q.addresses q.done q.below q.stores
    (get_or c.args.words.now (c.args.at.now.top - 2) 0 ∷ get_or c.args.words.now (c.args.at.now.top - 1) 0 ∷ []) u
    (get_or c.args.words.now (c.args.at.now.top - 4) 0) (get_or c.args.words.now (c.args.at.now.top - 3) 0) a b i in
    let count = count_word 2 c.args.next here q.texts q.c q.kind q.addresses q.done q.below q.stores
    (get_or c.args.words.now (c.args.at.now.top - 2) 0 ∷ get_or c.args.words.now (c.args.at.now.top - 1) 0 ∷ []) u
    (get_or c.args.words.now (c.args.at.now.top - 4) 0) (get_or c.args.words.now (c.args.at.now.top - 3) 0) a b i in
    let few = few_values 2 c.args.next here q.texts q.c q.kind q.addresses q.done q.below q.stores
    (get_or c.args.words.now (c.args.at.now.top - 2) 0 ∷ get_or c.args.words.now (c.args.at.now.top - 1) 0 ∷ []) u
    (get_or c.args.words.now (c.args.at.now.top - 4) 0) (get_or c.args.words.now (c.args.at.now.top - 3) 0) a b i in
    let e = c.get.ensures in
    let w = c.if-get-index.false in
    let changes = word_written (g.S.Store.content c.args.store.now) (get_or c.args.words.now (c.args.at.now.top - 4) 0)
    ((get_or c.args.words.now (c.args.at.now.top - 3) 0) * 2 + 2) (get_or c.args.words.now (c.args.at.now.top - 2) 0) in
    let same = ap (λ (k : Blocks). length (words_at k (get_or c.args.words.now (c.args.at.now.top - 4) 0))) c.set.ensures.content ∙
    ap (λ (l : List ℕ). length l) changes.own ∙
    length-set (words_at (g.S.Store.content c.args.store.now) (get_or c.args.words.now (c.args.at.now.top - 4) 0))
    ((get_or c.args.words.now (c.args.at.now.top - 3) 0) * 2 + 2) (get_or c.args.words.now (c.args.at.now.top - 2) 0) in
    omega (arith, size, count, few, e, w, same)

pub returns-clause-stores : goal.returns-clause-stores
returns-clause-stores g c = λ texts x kind addresses done below h narrows.
    let here = place c.args.at.now c.args.words.now c.args.held.now (g.S.Store.content c.args.store.now) in
    let a : get_or c.args.words.now (c.args.at.now.top - 2 - 2) 0 ≡ get_or c.args.words.now (c.args.at.now.top - 4) 0 = ap (λ (n : ℕ). get_or c.args.words.now n 0) (below_two c.args.at.now.top).0 in
    let b : get_or c.args.words.now (c.args.at.now.top - 2 - 1) 0 ≡ get_or c.args.words.now (c.args.at.now.top - 3) 0 = ap (λ (n : ℕ). get_or c.args.words.now n 0) (below_two c.args.at.now.top).1 in
    let u = two_above 2 c.args.next here texts x kind addresses done below h refl in
    let i = in_array 2 c.args.next here texts x kind addresses done below h (get_or c.args.words.now (c.args.at.now.top - 2) 0 ∷
    get_or c.args.words.now (c.args.at.now.top - 1) 0 ∷ []) u (get_or c.args.words.now (c.args.at.now.top - 4) 0)
    (get_or c.args.words.now (c.args.at.now.top - 3) 0) a b c.if-array-eq0.false in
    let count = count_word 2 c.args.next here texts x kind addresses done below h (get_or c.args.words.now (c.args.at.now.top - 2) 0 ∷
    get_or c.args.words.now (c.args.at.now.top - 1) 0 ∷ []) u (get_or c.args.words.now (c.args.at.now.top - 4) 0)
    (get_or c.args.words.now (c.args.at.now.top - 3) 0) a b i in
    let e = c.get.ensures in
    let w = c.if-get-index.false in
    let within : (get_or c.args.words.now (c.args.at.now.top - 3) 0) < length i.of.values = omega (arith, count, e, w) in
    let low : c.args.at.now.top - 4 ≡ c.args.at.now.top - 2 - 2 = omega arith in
    long_stored 2 c.args.next here texts x kind addresses done below h (get_or c.args.words.now (c.args.at.now.top - 2) 0 ∷ get_or c.args.words.now
    (c.args.at.now.top - 1) 0 ∷ []) u (get_or c.args.words.now (c.args.at.now.top - 4) 0) (get_or c.args.words.now (c.args.at.now.top - 3) 0) a b
    i (get_or c.args.words.now (c.args.at.now.top - 2) 0) (get_or c.args.words.now (c.args.at.now.top - 1) 0) _
    (g.S.Store.content c.set-2.new.self) refl within refl refl low
    (c.set-2.ensures.content ∙
    ap (λ (k : Blocks). written k (get_or c.args.words.now (c.args.at.now.top - 4) 0)
    ((get_or c.args.words.now (c.args.at.now.top - 3) 0) * 2 + 3) (get_or c.args.words.now (c.args.at.now.top - 1) 0)) c.set.ensures.content)
