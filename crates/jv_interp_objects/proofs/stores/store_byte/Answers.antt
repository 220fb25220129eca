use Rattle.std.proofs.Common.{◌≡◌, ℕ, ◌-◌, [], ◌∷◌, refl, sym, ap, subst, ◌∙◌, get_or, arith}
use Rattle.jv_code.specs.declared.kinds.NumberElement.TheVariants as numbers
use Rattle.jv_store.specs.Content.{words_at}
use Rattle.jv_interp_held.specs.Executing.{place}
use Rattle.jv_interp_objects.specs.Stores.{NarrowsBy}
use Rattle.jv_interp_objects.proofs.StoredIn.{one_above}
use Rattle.jv_interp_objects.proofs.StoredThere.{below_one, null_raises, in_array, block_size}
use Rattle.jv_interp_objects.proofs.stores.store_byte.Goals as goal

pub returns-then-array-eq0-clause-stores : goal.returns-then-array-eq0-clause-stores
returns-then-array-eq0-clause-stores g c = λ texts x addresses done below h.
    let here = place c.args.at.now c.args.words.now c.args.held.now (g.S.Store.content c.args.store.now) in
    let a : get_or c.args.words.now (c.args.at.now.top - 1 - 2) 0 ≡ get_or c.args.words.now (c.args.at.now.top - 3) 0 = ap (λ (n : ℕ). get_or c.args.words.now n 0) (below_one c.args.at.now.top).0 in
    let b : get_or c.args.words.now (c.args.at.now.top - 1 - 1) 0 ≡ get_or c.args.words.now (c.args.at.now.top - 2) 0 = ap (λ (n : ℕ). get_or c.args.words.now n 0) (below_one c.args.at.now.top).1 in
    let u = one_above 1 c.args.next here texts x numbers.ByteOrBoolean addresses done below h refl in
    null_raises 1 c.args.next here texts x numbers.ByteOrBoolean addresses done below h (get_or c.args.words.now (c.args.at.now.top - 1) 0 ∷ []) u
    (get_or c.args.words.now (c.args.at.now.top - 3) 0) (get_or c.args.words.now (c.args.at.now.top - 2) 0) a b c.if-array-eq0.true

pub get-requires : goal.get-requires
get-requires g c =
    let here = place c.args.at.now c.args.words.now c.args.held.now (g.S.Store.content c.args.store.now) in
    let q = c.requires in
    let a : get_or c.args.words.now (c.args.at.now.top - 1 - 2) 0 ≡ get_or c.args.words.now (c.args.at.now.top - 3) 0 = ap (λ (n : ℕ). get_or c.args.words.now n 0) (below_one c.args.at.now.top).0 in
    let b : get_or c.args.words.now (c.args.at.now.top - 1 - 1) 0 ≡ get_or c.args.words.now (c.args.at.now.top - 2) 0 = ap (λ (n : ℕ). get_or c.args.words.now n 0) (below_one c.args.at.now.top).1 in
    let u = one_above 1 c.args.next here q.texts q.c numbers.ByteOrBoolean q.addresses q.done q.below q.stores refl in
    let i =
    in_array 1 c.args.next here q.texts q.c numbers.ByteOrBoolean q.addresses q.done q.below q.stores (get_or c.args.words.now (c.args.at.now.top - 1) 0 ∷ []) u
    (get_or c.args.words.now (c.args.at.now.top - 3) 0) (get_or c.args.words.now (c.args.at.now.top - 2) 0) a b c.if-array-eq0.false in
    let size =
    block_size 1 c.args.next here q.texts q.c numbers.ByteOrBoolean q.addresses q.done q.below q.stores (get_or c.args.words.now (c.args.at.now.top - 1) 0 ∷ []) u
    (get_or c.args.words.now (c.args.at.now.top - 3) 0) (get_or c.args.words.now (c.args.at.now.top - 2) 0) a b i in
    omega (arith, size)

pub store_int-requires : goal.store_int-requires
store_int-requires g c =
    let q = c.requires in
    let content = g.S.Store.content c.args.store.now in
    let a : get_or c.args.words.now (c.args.at.now.top - 1 - 2) 0 ≡ get_or c.args.words.now (c.args.at.now.top - 3) 0 = ap (λ (n : ℕ). get_or c.args.words.now n 0) (below_one c.args.at.now.top).0 in
    let is : c.get.result ≡ get_or (words_at content (get_or c.args.words.now (c.args.at.now.top - 1 - 2) 0)) 0 0 =
    c.get.ensures ∙ ap (λ (n : ℕ). get_or (words_at content n) 0 0) (sym a) in
    record {
      texts = q.texts;
      c = q.c;
      kind = numbers.ByteOrBoolean;
      addresses = q.addresses;
      done = q.done;
      below = q.below;
      stores = q.stores;
      narrows = subst (λ (w : ℕ). NarrowsBy c.byte_narrowing-how.result numbers.ByteOrBoolean q.c.program.world w) is (c.byte_narrowing-how.ensures q.c.program.world);
    }

pub returns-clause-stores : goal.returns-clause-stores
returns-clause-stores g c = λ texts x addresses done below h.
    let content = g.S.Store.content c.args.store.now in
    let a : get_or c.args.words.now (c.args.at.now.top - 1 - 2) 0 ≡ get_or c.args.words.now (c.args.at.now.top - 3) 0 = ap (λ (n : ℕ). get_or c.args.words.now n 0) (below_one c.args.at.now.top).0 in
    let is : c.get.result ≡ get_or (words_at content (get_or c.args.words.now (c.args.at.now.top - 1 - 2) 0)) 0 0 =
    c.get.ensures ∙ ap (λ (n : ℕ). get_or (words_at content n) 0 0) (sym a) in
    c.store_int.ensures.stores texts x numbers.ByteOrBoolean addresses done below h
    (subst (λ (w : ℕ). NarrowsBy c.byte_narrowing-how.result numbers.ByteOrBoolean x.program.world w) is (c.byte_narrowing-how.ensures x.program.world))
