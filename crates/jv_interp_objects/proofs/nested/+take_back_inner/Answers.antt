use Rattle.std.proofs.Common.{◌≡◌, ℕ, ◌*◌, ◌<◌, ◌≤◌, List, length, drop, get_or, refl, sym, ap, subst, ◌∙◌, arith, length-drop}
use Rattle.jv_store.specs.Content.{words_at, without}
use Rattle.jv_interp_heap.proofs.NewWords.{joined_length}
use Rattle.jv_interp_objects.specs.NestedBlocks.{nested_cost, inner_size}
use Rattle.jv_interp_objects.proofs.TextJoined.{newest_address, taken_back}
use Rattle.jv_interp_objects.proofs.Following.{cost_parts, inner_words, one_at_least, one_less}
use Rattle.jv_interp_objects.proofs.Taking.{Taking, taking_begins, taking_ends, o, last_word, has_place, inner_can, left_joins, left_length, taking_goes_on}
use Rattle.jv_interp_objects.proofs.nested.+take_back_inner.Goals as goal

pub loop-left-init : goal.loop-left-init
loop-left-init g t c = record {
  taking = record { each = λ word h. taking_begins c.args.slots c.args.counts.now word c.args.size c.args.outer (g.S.Store.content c.args.store.now) h };
  room = refl;
  within = omega arith;
}

pub get-inner-requires : goal.get-inner-requires
get-inner-requires g t c =
    let q = c.requires.can in
    let start = g.S.Store.content c.args.store.now in
    let now = g.S.Store.content c.loop-left.store in
    let some : 1 ≤ c.loop-left.left = let e = c.loop-left-test.true in omega (arith, e) in
    has_place c.args.slots c.args.counts.now q.word c.args.size c.args.outer start q.has c.loop-left.left now some (c.loop-left.invariant.taking.each q.word q.has)

pub inner_counts-requires : goal.inner_counts-requires
inner_counts-requires g t c =
    let q = c.requires.can in
    let start = g.S.Store.content c.args.store.now in
    let now = g.S.Store.content c.loop-left.store in
    let some : 1 ≤ c.loop-left.left = let e = c.loop-left-test.true in omega (arith, e) in
    (o c.args.slots c.args.counts.now q.word c.args.size c.args.outer start q.has c.loop-left.left now some (c.loop-left.invariant.taking.each q.word q.has)).some

pub take_back_inner-requires : goal.take_back_inner-requires
take_back_inner-requires g t c κs within =
    let q = c.requires.can in
    let slots = c.args.slots in
    let counts = c.args.counts.now in
    let start = g.S.Store.content c.args.store.now in
    let now = g.S.Store.content c.loop-left.store in
    let some : 1 ≤ c.loop-left.left = let e = c.loop-left-test.true in omega (arith, e) in
    let taking = c.loop-left.invariant.taking.each q.word q.has in
    let has_one = (o slots counts q.word c.args.size c.args.outer start q.has c.loop-left.left now some taking).some in
    let known = c.inner_counts.ensures in
    let size_is = c.inner_size.ensures in
    let address_is = c.get-inner.ensures ∙ last_word slots counts q.word c.args.size c.args.outer start q.has c.loop-left.left now some taking in
    let bound = c.loop-left.invariant.within in
    let whole = c.requires.cost (omega (arith, some, bound)) in
    let parts = cost_parts slots counts has_one in
    let size_fits = inner_words slots counts in
    let shorter : length c.inner_counts.result.now < length counts = let e = ap (λ (x : List ℕ). length x) known in omega (arith, e, length-drop 1 counts, has_one) in
    let cost_known : nested_cost slots c.inner_counts.result.now ≡ nested_cost slots (drop 1 counts) = ap (λ (x : List ℕ). nested_cost slots x) known in (
      omega (arith, shorter),
      (
        within,
        (
          c.requires.slots,
          (
            omega (arith, whole, parts, size_fits, size_is),
            (
              λ many.
                  let times = one_at_least c.inner_size.result (nested_cost slots (drop 1 counts)) many in
                  let product : c.inner_size.result * nested_cost slots (drop 1 counts) ≡ inner_size counts * nested_cost slots (drop 1 counts) =
                  ap (λ (n : ℕ). n * nested_cost slots (drop 1 counts)) size_is in
                  omega (arith, whole, parts, times, product, cost_known),
              inner_can slots counts q.word c.args.size c.args.outer start q.has c.loop-left.left now some taking c.inner_counts.result.now
                  c.inner_size.result c.get-inner.result known size_is address_is,
            ),
          ),
        ),
      ),
    )

pub bounds-counts-0 : goal.bounds-counts-0
bounds-counts-0 g t c =
    let q = c.requires.can in
    let start = g.S.Store.content c.args.store.now in
    let now = g.S.Store.content c.loop-left.store in
    let some : 1 ≤ c.loop-left.left = let e = c.loop-left-test.true in omega (arith, e) in
    let has_one = (o c.args.slots c.args.counts.now q.word c.args.size c.args.outer start q.has c.loop-left.left now some (c.loop-left.invariant.taking.each q.word q.has)).some in
    omega (arith, has_one)

pub take_back-requires-clause-newest : goal.take_back-requires-clause-newest
take_back-requires-clause-newest g t c =
    let q = c.requires.can in
    let slots = c.args.slots in
    let counts = c.args.counts.now in
    let start = g.S.Store.content c.args.store.now in
    let now = g.S.Store.content c.loop-left.store in
    let some : 1 ≤ c.loop-left.left = let e = c.loop-left-test.true in omega (arith, e) in
    let taking = c.loop-left.invariant.taking.each q.word q.has in
    let address_is = c.get-inner.ensures ∙ last_word slots counts q.word c.args.size c.args.outer start q.has c.loop-left.left now some taking in
    let joins =
    left_joins slots counts q.word c.args.size c.args.outer start q.has c.loop-left.left now some taking c.inner_counts.result.now c.inner_size.result
    c.get-inner.result (g.S.Store.content c.take_back_inner.new.store) c.inner_counts.ensures c.inner_size.ensures address_is c.take_back_inner.ensures.takes in
    address_is ∙ sym (newest_address _ _ (g.S.Store.content c.take_back_inner.new.store) _ joins)

pub take_back-requires-clause-length : goal.take_back-requires-clause-length
take_back-requires-clause-length g t c =
    let q = c.requires.can in
    let slots = c.args.slots in
    let counts = c.args.counts.now in
    let start = g.S.Store.content c.args.store.now in
    let now = g.S.Store.content c.loop-left.store in
    let some : 1 ≤ c.loop-left.left = let e = c.loop-left-test.true in omega (arith, e) in
    let taking = c.loop-left.invariant.taking.each q.word q.has in
    let address_is = c.get-inner.ensures ∙ last_word slots counts q.word c.args.size c.args.outer start q.has c.loop-left.left now some taking in
    let between = g.S.Store.content c.take_back_inner.new.store in
    let joins =
    left_joins slots counts q.word c.args.size c.args.outer start q.has c.loop-left.left now some taking c.inner_counts.result.now c.inner_size.result
    c.get-inner.result between c.inner_counts.ensures c.inner_size.ensures address_is c.take_back_inner.ensures.takes in
    let size = left_length slots counts q.word c.args.size c.args.outer start q.has c.loop-left.left now some taking in
    let there = joined_length _ _ between _ _ joins size in
    let here = ap (λ (a : ℕ). length (words_at between a)) address_is in
    let product = ap (λ (n : ℕ). get_or counts 0 0 * n) c.outer_slots.ensures in
    omega (arith, there, here, product)

pub loop-left-preserved : goal.loop-left-preserved
loop-left-preserved g t c =
    let slots = c.args.slots in
    let counts = c.args.counts.now in
    let start = g.S.Store.content c.args.store.now in
    let now = g.S.Store.content c.loop-left.store in
    let between = g.S.Store.content c.take_back_inner.new.store in
    let some : 1 ≤ c.loop-left.left = let e = c.loop-left-test.true in omega (arith, e) in
    let q = c.requires.can in
    let has_one = (o slots counts q.word c.args.size c.args.outer start q.has c.loop-left.left now some (c.loop-left.invariant.taking.each q.word q.has)).some in
    record {
      taking = record {
        each =
            λ word h.
            let taking = c.loop-left.invariant.taking.each word h in
            let address_is = c.get-inner.ensures ∙ last_word slots counts word c.args.size c.args.outer start h c.loop-left.left now some taking in
            let joins =
            left_joins slots counts word c.args.size c.args.outer start h c.loop-left.left now some taking c.inner_counts.result.now c.inner_size.result
            c.get-inner.result between c.inner_counts.ensures c.inner_size.ensures address_is c.take_back_inner.ensures.takes in
            taking_goes_on slots counts word c.args.size c.args.outer start h c.loop-left.left now some taking (g.S.Store.content c.take_back.new.self)
            (c.take_back.ensures.content ∙ ap (λ (a : ℕ). without between a) address_is ∙ taken_back _ _ between _ joins);
      };
      room =
          let first = c.take_back.ensures.room in
          let second = c.take_back_inner.ensures.room in
          let before = c.loop-left.invariant.room in
          let parts = cost_parts slots counts has_one in
          let product = ap (λ (n : ℕ). get_or counts 0 0 * n) c.outer_slots.ensures in
          let inner_cost : c.inner_size.result * nested_cost slots c.inner_counts.result.now ≡ inner_size counts * nested_cost slots (drop 1 counts) =
          ap (λ (n : ℕ). n * nested_cost slots c.inner_counts.result.now) c.inner_size.ensures
          ∙ ap (λ (x : List ℕ). inner_size counts * nested_cost slots x) c.inner_counts.ensures in
          let less = one_less c.loop-left.left (nested_cost slots counts) some in
          omega (arith, first, second, before, parts, product, inner_cost, less);
      within = let bound = c.loop-left.invariant.within in omega (arith, bound);
    }

pub returns-clause-takes : goal.returns-clause-takes
returns-clause-takes g t c = λ word h.
    let now = g.S.Store.content c.loop-left.store in
    let none : c.loop-left.left ≡ 0 = let e = c.loop-left-test.false in omega (arith, e) in
    taking_ends c.args.slots c.args.counts.now word c.args.size c.args.outer (g.S.Store.content c.args.store.now) h now
    (subst (λ (n : ℕ). Taking c.args.slots c.args.counts.now word c.args.size c.args.outer (g.S.Store.content c.args.store.now) h n now) none
    (c.loop-left.invariant.taking.each word h))
