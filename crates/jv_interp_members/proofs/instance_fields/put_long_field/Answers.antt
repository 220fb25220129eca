use Rattle.std.proofs.Common.{◌≡◌, ℕ, ◌+◌, ◌-◌, ◌<◌, List, length, refl, sym, ap, subst, ◌∙◌, get_or, arith}
use Rattle.std.proofs.lemmas.List.{length-set}
use Rattle.jv_store.specs.Content.{words_at}
use Rattle.jv_interp_heap.specs.declared.narrowing.Narrowing.TheVariants.{Whole}
use Rattle.jv_interp_heap.proofs.Changed.{word_written}
use Rattle.jv_interp_held.specs.Executing.{place}
use Rattle.jv_interp_members.proofs.PutStands.{two_under, raises, puts_in, block_length, put_long, long_whole}
use Rattle.jv_interp_members.proofs.instance_fields.put_long_field.Goals as goal

pub overflow_sub-reference : goal.overflow_sub-reference
overflow_sub-reference g c =
    let r = c.requires.can in
    let here = place c.args.at.now c.args.words.now c.args.held.now (g.S.Store.content c.args.store.now) in
    let u = two_under c.args.word 2 Whole c.args.next here r.texts r.c r.reference r.d r.addresses r.done r.below r.puts refl in
    let e = u.under.enough in
    omega (arith, e)

pub overflow_sub-at : goal.overflow_sub-at
overflow_sub-at g c =
    let r = c.requires.can in
    let here = place c.args.at.now c.args.words.now c.args.held.now (g.S.Store.content c.args.store.now) in
    let u = two_under c.args.word 2 Whole c.args.next here r.texts r.c r.reference r.d r.addresses r.done r.below r.puts refl in
    let e = u.under.enough in
    omega (arith, e)

pub overflow_sub-at-3 : goal.overflow_sub-at-3
overflow_sub-at-3 g c =
    let r = c.requires.can in
    let here = place c.args.at.now c.args.words.now c.args.held.now (g.S.Store.content c.args.store.now) in
    let u = two_under c.args.word 2 Whole c.args.next here r.texts r.c r.reference r.d r.addresses r.done r.below r.puts refl in
    let e = u.under.enough in
    omega (arith, e)

pub returns-then-reference-eq0-clause-puts : goal.returns-then-reference-eq0-clause-puts
returns-then-reference-eq0-clause-puts g c = λ texts x reference d addresses done below h.
    let here = place c.args.at.now c.args.words.now c.args.held.now (g.S.Store.content c.args.store.now) in
    let u = two_under c.args.word 2 Whole c.args.next here texts x reference d addresses done below h refl in
    let minus : c.args.at.now.top - 2 - 1 ≡ c.args.at.now.top - 3 = omega arith in
    raises c.args.word 2 Whole c.args.next here texts x reference d addresses done below h 2 u.under
    (ap (λ (n : ℕ). get_or c.args.words.now n 0) minus ∙ c.if-reference-eq0.true)

pub set-requires : goal.set-requires
set-requires g c =
    let r = c.requires.can in
    let here = place c.args.at.now c.args.words.now c.args.held.now (g.S.Store.content c.args.store.now) in
    let u = two_under c.args.word 2 Whole c.args.next here r.texts r.c r.reference r.d r.addresses r.done r.below r.puts refl in
    let minus : c.args.at.now.top - 2 - 1 ≡ c.args.at.now.top - 3 = omega arith in
    let i =
    puts_in c.args.word 2 Whole c.args.next here r.texts r.c r.reference r.d r.addresses r.done r.below r.puts 2 u.under
    (λ e. c.if-reference-eq0.false (sym (ap (λ (n : ℕ). get_or c.args.words.now n 0) minus) ∙ e)) in
    let size =
    subst (λ (n : ℕ). c.args.word + 2 < length (words_at (g.S.Store.content c.args.store.now) (get_or c.args.words.now n 0))) minus
    (block_length c.args.word 2 Whole c.args.next here r.texts r.c r.reference r.d r.addresses r.done r.below r.puts 2 u.under i) in
    omega (arith, size)

pub set-requires-2 : goal.set-requires-2
set-requires-2 g c =
    let r = c.requires.can in
    let here = place c.args.at.now c.args.words.now c.args.held.now (g.S.Store.content c.args.store.now) in
    let u = two_under c.args.word 2 Whole c.args.next here r.texts r.c r.reference r.d r.addresses r.done r.below r.puts refl in
    let minus : c.args.at.now.top - 2 - 1 ≡ c.args.at.now.top - 3 = omega arith in
    let i =
    puts_in c.args.word 2 Whole c.args.next here r.texts r.c r.reference r.d r.addresses r.done r.below r.puts 2 u.under
    (λ e. c.if-reference-eq0.false (sym (ap (λ (n : ℕ). get_or c.args.words.now n 0) minus) ∙ e)) in
    let size =
    subst (λ (n : ℕ). c.args.word + 2 < length (words_at (g.S.Store.content c.args.store.now) (get_or c.args.words.now n 0))) minus
    (block_length c.args.word 2 Whole c.args.next here r.texts r.c r.reference r.d r.addresses r.done r.below r.puts 2 u.under i) in
    let first = get_or c.args.words.now (c.args.at.now.top - 3) 0 in
    let written_words = word_written (g.S.Store.content c.args.store.now) first (c.args.word + 1) (get_or c.args.words.now (c.args.at.now.top - 2) 0) in
    let same : length (words_at (g.S.Store.content c.set.new.self) first) ≡ length (words_at (g.S.Store.content c.args.store.now) first) =
    ap (λ (b : List (ℕ × List ℕ)). length (words_at b first)) c.set.ensures.content ∙ ap length written_words.own
    ∙ length-set (words_at (g.S.Store.content c.args.store.now) first) (c.args.word + 1) (get_or c.args.words.now (c.args.at.now.top - 2) 0) in
    omega (arith, size, same)

pub returns-clause-puts : goal.returns-clause-puts
returns-clause-puts g c = λ texts x reference d addresses done below h.
    let here = place c.args.at.now c.args.words.now c.args.held.now (g.S.Store.content c.args.store.now) in
    let u = two_under c.args.word 2 Whole c.args.next here texts x reference d addresses done below h refl in
    let minus : c.args.at.now.top - 2 - 1 ≡ c.args.at.now.top - 3 = omega arith in
    let i =
    puts_in c.args.word 2 Whole c.args.next here texts x reference d addresses done below h 2 u.under
    (λ e. c.if-reference-eq0.false (sym (ap (λ (n : ℕ). get_or c.args.words.now n 0) minus) ∙ e)) in
    put_long c.args.word 2 Whole c.args.next here texts x reference d addresses done below h refl _ _
    (rw (long_whole c.args.word 2 Whole c.args.next here texts x reference d addresses done below h refl) u.value_in) i refl refl
    (rw c.set-2.ensures.content (rw c.set.ensures.content refl))
