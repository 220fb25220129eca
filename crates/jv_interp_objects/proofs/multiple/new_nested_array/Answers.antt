use Rattle.std.proofs.Common.{refl, sym, ◌∙◌, arith}
use Rattle.jv_interp_held.specs.Executing.{place}
use Rattle.jv_interp_objects.proofs.CountsTaken.{are_counts}
use Rattle.jv_interp_objects.proofs.ManyMade.{within, some, few, word_fits, counts_length, raises, lacking, made}
use Rattle.jv_interp_objects.proofs.Lacking.{lacking_unmoved}
use Rattle.jv_interp_objects.proofs.multiple.new_nested_array.Goals as goal

pub overflow_sub-first : goal.overflow_sub-first
overflow_sub-first g c =
    let here = place c.args.at.now c.args.words.now c.args.held.now (g.S.Store.content c.args.store.now) in
    let q = c.requires.can in
    let all = within c.args.word c.args.slots c.args.dimensions c.args.next here q.texts q.c q.components q.addresses q.done q.below q.makes in
    omega (arith, all)

pub returns-then-has_negative-clause-makes : goal.returns-then-has_negative-clause-makes
returns-then-has_negative-clause-makes g c = λ texts x components addresses done below h.
    let here = place c.args.at.now c.args.words.now c.args.held.now (g.S.Store.content c.args.store.now) in
    let known = c.words_between-counts.result.now in
    raises c.args.word c.args.slots c.args.dimensions c.args.next here texts x components addresses done below h known c.words_between-counts.ensures
    c.has_negative.ensures.words (sym c.has_negative.ensures.negative ∙ c.if-has_negative.true)

pub pay_nested-requires-clause-slots : goal.pay_nested-requires-clause-slots
pay_nested-requires-clause-slots g c =
    let here = place c.args.at.now c.args.words.now c.args.held.now (g.S.Store.content c.args.store.now) in
    let q = c.requires.can in
    few c.args.word c.args.slots c.args.dimensions c.args.next here q.texts q.c q.components q.addresses q.done q.below q.makes

pub pay_nested-requires-clause-some : goal.pay_nested-requires-clause-some
pay_nested-requires-clause-some g c =
    let here = place c.args.at.now c.args.words.now c.args.held.now (g.S.Store.content c.args.store.now) in
    let q = c.requires.can in
    let one = some c.args.word c.args.slots c.args.dimensions c.args.next here q.texts q.c q.components q.addresses q.done q.below q.makes in
    let size = counts_length c.args.word c.args.slots c.args.dimensions c.args.next here q.texts q.c q.components q.addresses q.done q.below q.makes
    c.words_between-counts.result.now c.words_between-counts.ensures in
    omega (arith, one, size)

pub pay_nested-requires-clause-counts : goal.pay_nested-requires-clause-counts
pay_nested-requires-clause-counts g c =
    are_counts c.words_between-counts.result.now (sym c.has_negative.ensures.negative ∙ c.if-has_negative.false)

pub pay_nested-requires-clause-word : goal.pay_nested-requires-clause-word
pay_nested-requires-clause-word g c =
    let here = place c.args.at.now c.args.words.now c.args.held.now (g.S.Store.content c.args.store.now) in
    let q = c.requires.can in
    let fits = word_fits c.args.word c.args.slots c.args.dimensions c.args.next here q.texts q.c q.components q.addresses q.done q.below q.makes in
    let size = counts_length c.args.word c.args.slots c.args.dimensions c.args.next here q.texts q.c q.components q.addresses q.done q.below q.makes
    c.words_between-counts.result.now c.words_between-counts.ensures in
    omega (arith, fits, size)

pub returns-in-Some-clause-makes : goal.returns-in-Some-clause-makes
returns-in-Some-clause-makes g c = λ texts x components addresses done below h.
    let here = place c.args.at.now c.args.words.now c.args.held.now (g.S.Store.content c.args.store.now) in
    let known = c.words_between-counts.result.now in
    let paid = rw c.in-Some.is at c.in_ok-made.ensures.paid in
    made c.args.word c.args.slots c.args.dimensions c.args.next here texts x components addresses done below h known c.words_between-counts.ensures
    c.has_negative.ensures.words (sym c.has_negative.ensures.negative ∙ c.if-has_negative.false) c.pay_nested.new.cells (g.S.Store.content c.pay_nested.new.store) c.in-Some.address _
    paid refl refl

pub returns-in-None-clause-makes : goal.returns-in-None-clause-makes
returns-in-None-clause-makes g c = λ texts x components addresses done below h.
    let here = place c.args.at.now c.args.words.now c.args.held.now (g.S.Store.content c.args.store.now) in
    let known = c.words_between-counts.result.now in
    let paid = rw c.in-None.is at c.in_ok-made.ensures.paid in
    lacking c.args.word c.args.slots c.args.dimensions c.args.next here texts x components addresses done below h known c.words_between-counts.ensures
    c.has_negative.ensures.words (sym c.has_negative.ensures.negative ∙ c.if-has_negative.false) c.pay_nested.new.cells (g.S.Store.content c.pay_nested.new.store) paid

pub returns-in-None-clause-unmoved : goal.returns-in-None-clause-unmoved
returns-in-None-clause-unmoved g c =
    let paid = rw c.in-None.is at c.in_ok-made.ensures.paid in
    lacking_unmoved c.args.at.now c.args.words.now c.args.held.now _ c.pay_nested.new.cells (g.S.Store.content c.args.store.now)
    (g.S.Store.content c.pay_nested.new.store) paid
