use Rattle.std.proofs.Common.{◌≡◌, ℕ, ◌+◌, ◌-◌, ◌*◌, ◌<◌, ◌≤◌, List, length, drop, get_or, sym, ap, subst, ◌∙◌, arith, length-drop}
use Rattle.jv_interp_heap.proofs.NewWords.{joined_length}
use Rattle.jv_interp_objects.specs.NestedBlocks.{nested_cost, inner_size, NestedJoin}
use Rattle.jv_interp_objects.proofs.TextJoined.{newest_address, taken_back}
use Rattle.jv_interp_objects.proofs.Following.{first_of, cost_parts, inner_words, some_inner, one_at_least, costs_more}
use Rattle.jv_interp_objects.proofs.Nesting.{nesting_begins, words_length, has_place, nesting_goes_on, nested_can, outer_joins}
use Rattle.jv_interp_objects.proofs.nested.+make_nested.Goals as goal

pub loop-made-init : goal.loop-made-init
loop-made-init g t c = record {
  nesting =
      nesting_begins c.args.slots c.args.counts.now c.args.word c.in_ok-outer.outer c.outer_slots.result (g.S.Store.content c.args.store.now)
      (g.S.Store.content c.array_block.new.store) c.outer_slots.ensures c.in_ok-outer.ensures.made;
  room =
      let left = c.in_ok-outer.ensures.room in
      let product = ap (λ (n : ℕ). first_of c.args.counts.now * n) c.outer_slots.ensures in
      omega (arith, left, product);
  within = omega arith;
  size_is = c.inner_size-size.ensures;
}

pub make_nested-requires : goal.make_nested-requires
make_nested-requires g t c κs within =
    let slots = c.args.slots in
    let counts = c.args.counts.now in
    let inner_cost = nested_cost slots (drop 1 counts) in
    let known = c.inner_counts.ensures in
    let inv = c.loop-made.invariant in
    let more = c.loop-made-test.true in
    let size_is = inv.size_is in
    let some : 1 ≤ inner_size counts = omega (arith, more, size_is) in
    let two = some_inner counts some in
    let shorter : length c.inner_counts.result.now + 1 ≡ length counts =
    let e = ap (λ (x : List ℕ). length x) known in let d = length-drop 1 counts in omega (arith, e, d, two) in
    let same : nested_cost slots c.inner_counts.result.now ≡ inner_cost = ap (λ (x : List ℕ). nested_cost slots x) known in
    let parts = cost_parts slots counts c.requires.some in
    let times = one_at_least (inner_size counts) inner_cost some in
    let word = c.requires.word in
    let few = c.requires.few in
    let room = c.requires.room in
    let left = inv.room in
    let below : c.loop-made.made < inner_size counts = omega (arith, more, size_is) in
    let rest = costs_more c.loop-made.made (inner_size counts) inner_cost below in (
      omega (arith, shorter),
      (
        within,
        (
          c.requires.slots,
          (
            omega (arith, shorter, two),
            (
              omega (arith, shorter, two, word),
              (omega (arith, same, parts, times, few), omega (arith, same, parts, times, room, left, rest)),
            ),
          ),
        ),
      ),
    )

pub set-requires : goal.set-requires
set-requires g t c =
    let slots = c.args.slots in
    let counts = c.args.counts.now in
    let now = g.S.Store.content c.loop-made.store in
    let between = g.S.Store.content c.make_nested.new.store in
    let n = c.loop-made.invariant.nesting in
    let more = c.loop-made-test.true in
    let size_is = c.loop-made.invariant.size_is in
    let fits = inner_words slots counts in
    let all = n.all in
    let j =
    subst (λ (x : List ℕ). NestedJoin slots x (c.args.word - 65536) now between c.in-Ok.inner) c.inner_counts.ensures c.in-Ok.ensures.made in
    has_place slots counts c.args.word c.in_ok-outer.outer c.loop-made.made (g.S.Store.content c.args.store.now) now n
    (omega (arith, more, size_is, fits, all)) between c.in-Ok.inner j

pub loop-made-preserved : goal.loop-made-preserved
loop-made-preserved g t c =
    let slots = c.args.slots in
    let counts = c.args.counts.now in
    let inner_cost = nested_cost slots (drop 1 counts) in
    let now = g.S.Store.content c.loop-made.store in
    let between = g.S.Store.content c.make_nested.new.store in
    let n = c.loop-made.invariant.nesting in
    let more = c.loop-made-test.true in
    let size_is = c.loop-made.invariant.size_is in
    let fits = inner_words slots counts in
    let all = n.all in
    let j =
    subst (λ (x : List ℕ). NestedJoin slots x (c.args.word - 65536) now between c.in-Ok.inner) c.inner_counts.ensures c.in-Ok.ensures.made in
    record {
      nesting =
          nesting_goes_on slots counts c.args.word c.in_ok-outer.outer c.loop-made.made (g.S.Store.content c.args.store.now) now n
          (omega (arith, more, size_is, fits, all)) between c.in-Ok.inner j (g.S.Store.content c.set.new.self) c.set.ensures.content;
      room =
          let left = c.loop-made.invariant.room in
          let first = c.in-Ok.ensures.room in
          let second = c.set.ensures.room in
          let same : nested_cost slots c.inner_counts.result.now ≡ inner_cost = ap (λ (x : List ℕ). nested_cost slots x) c.inner_counts.ensures in
          let product : (c.loop-made.made + 1) * inner_cost ≡ c.loop-made.made * inner_cost + inner_cost = omega arith in
          omega (arith, left, first, second, same, product);
      within = omega (arith, more);
      size_is = size_is;
    }

pub take_back_inner-requires-clause-can : goal.take_back_inner-requires-clause-can
take_back_inner-requires-clause-can g t c =
    nested_can c.args.slots c.args.counts.now c.args.word c.in_ok-outer.outer c.loop-made.made (g.S.Store.content c.args.store.now)
    (g.S.Store.content c.loop-made.store) c.loop-made.invariant.nesting c.inner_counts-in-Err.result.now (g.S.Store.content c.make_nested.new.store)
    c.inner_counts-in-Err.ensures c.in-Err.ensures.refused

pub take_back-requires-clause-newest : goal.take_back-requires-clause-newest
take_back-requires-clause-newest g t c =
    let joins =
    outer_joins c.args.slots c.args.counts.now c.args.word c.in_ok-outer.outer c.loop-made.made (g.S.Store.content c.args.store.now)
    (g.S.Store.content c.loop-made.store) c.loop-made.invariant.nesting c.inner_counts-in-Err.result.now (g.S.Store.content c.make_nested.new.store)
    (g.S.Store.content c.take_back_inner.new.store) c.inner_counts-in-Err.ensures c.in-Err.ensures.refused c.take_back_inner.ensures.takes in
    sym (newest_address _ _ (g.S.Store.content c.take_back_inner.new.store) _ joins)

pub take_back-requires-clause-length : goal.take_back-requires-clause-length
take_back-requires-clause-length g t c =
    let counts = c.args.counts.now in
    let between = g.S.Store.content c.take_back_inner.new.store in
    let joins =
    outer_joins c.args.slots counts c.args.word c.in_ok-outer.outer c.loop-made.made (g.S.Store.content c.args.store.now)
    (g.S.Store.content c.loop-made.store) c.loop-made.invariant.nesting c.inner_counts-in-Err.result.now (g.S.Store.content c.make_nested.new.store)
    between c.inner_counts-in-Err.ensures c.in-Err.ensures.refused c.take_back_inner.ensures.takes in
    let size =
    words_length c.args.slots counts c.args.word c.in_ok-outer.outer c.loop-made.made (g.S.Store.content c.args.store.now)
    (g.S.Store.content c.loop-made.store) c.loop-made.invariant.nesting in
    let there = joined_length _ _ between _ _ joins size in
    let product = ap (λ (n : ℕ). get_or counts 0 0 * n) c.outer_slots-in-Err.ensures in
    omega (arith, there, product)

pub returns-in-Err-clause-refused : goal.returns-in-Err-clause-refused
returns-in-Err-clause-refused g t c =
    let joins =
    outer_joins c.args.slots c.args.counts.now c.args.word c.in_ok-outer.outer c.loop-made.made (g.S.Store.content c.args.store.now)
    (g.S.Store.content c.loop-made.store) c.loop-made.invariant.nesting c.inner_counts-in-Err.result.now (g.S.Store.content c.make_nested.new.store)
    (g.S.Store.content c.take_back_inner.new.store) c.inner_counts-in-Err.ensures c.in-Err.ensures.refused c.take_back_inner.ensures.takes in
    c.take_back.ensures.content ∙ taken_back _ _ (g.S.Store.content c.take_back_inner.new.store) _ joins
