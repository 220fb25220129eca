use Rattle.std.proofs.Common.{◌≡◌, ℕ, ◌+◌, ◌-◌, ◌<◌, length, refl, sym, ap, subst, ◌∙◌, get_or, arith}
use Rattle.jv_interp_held.specs.Executing.{place}
use Rattle.jv_interp_members.proofs.PutStands.{one_under, raises, puts_in, block_length, put_word}
use Rattle.jv_interp_members.proofs.instance_fields.put_field.Goals as goal

pub overflow_sub-reference : goal.overflow_sub-reference
overflow_sub-reference g c =
    let r = c.requires.can in
    let here = place c.args.at.now c.args.words.now c.args.held.now (g.S.Store.content c.args.store.now) in
    let u = one_under c.args.word 1 c.args.how c.args.next here r.texts r.c r.reference r.d r.addresses r.done r.below r.puts refl in
    let e = u.under.enough in
    omega (arith, e)

pub returns-then-reference-eq0-clause-puts : goal.returns-then-reference-eq0-clause-puts
returns-then-reference-eq0-clause-puts g c = λ texts x reference d addresses done below h.
    let here = place c.args.at.now c.args.words.now c.args.held.now (g.S.Store.content c.args.store.now) in
    let u = one_under c.args.word 1 c.args.how c.args.next here texts x reference d addresses done below h refl in
    let minus : c.args.at.now.top - 1 - 1 ≡ c.args.at.now.top - 2 = omega arith in
    raises c.args.word 1 c.args.how c.args.next here texts x reference d addresses done below h 1 u.under
    (ap (λ (n : ℕ). get_or c.args.words.now n 0) minus ∙ c.if-reference-eq0.true)

pub overflow_sub-at : goal.overflow_sub-at
overflow_sub-at g c =
    let r = c.requires.can in
    let here = place c.args.at.now c.args.words.now c.args.held.now (g.S.Store.content c.args.store.now) in
    let u = one_under c.args.word 1 c.args.how c.args.next here r.texts r.c r.reference r.d r.addresses r.done r.below r.puts refl in
    let e = u.under.enough in
    omega (arith, e)

pub set-requires : goal.set-requires
set-requires g c =
    let r = c.requires.can in
    let here = place c.args.at.now c.args.words.now c.args.held.now (g.S.Store.content c.args.store.now) in
    let u = one_under c.args.word 1 c.args.how c.args.next here r.texts r.c r.reference r.d r.addresses r.done r.below r.puts refl in
    let minus : c.args.at.now.top - 1 - 1 ≡ c.args.at.now.top - 2 = omega arith in
    let i =
    puts_in c.args.word 1 c.args.how c.args.next here r.texts r.c r.reference r.d r.addresses r.done r.below r.puts 1 u.under
    (λ e. c.if-reference-eq0.false (sym (ap (λ (n : ℕ). get_or c.args.words.now n 0) minus) ∙ e)) in
    let size = block_length c.args.word 1 c.args.how c.args.next here r.texts r.c r.reference r.d r.addresses r.done r.below r.puts 1 u.under i in
    subst (λ (n : ℕ). c.args.word + 1 < length (Rattle.jv_store.specs.Content.words_at (g.S.Store.content c.args.store.now) (get_or c.args.words.now n 0))) minus size

pub returns-clause-puts : goal.returns-clause-puts
returns-clause-puts g c = λ texts x reference d addresses done below h.
    let here = place c.args.at.now c.args.words.now c.args.held.now (g.S.Store.content c.args.store.now) in
    let u = one_under c.args.word 1 c.args.how c.args.next here texts x reference d addresses done below h refl in
    let minus : c.args.at.now.top - 1 - 1 ≡ c.args.at.now.top - 2 = omega arith in
    let i =
    puts_in c.args.word 1 c.args.how c.args.next here texts x reference d addresses done below h 1 u.under
    (λ e. c.if-reference-eq0.false (sym (ap (λ (n : ℕ). get_or c.args.words.now n 0) minus) ∙ e)) in
    put_word c.args.word 1 c.args.how c.args.next here texts x reference d addresses done below h refl c.narrowed-value.result _ _
    c.narrowed-value.ensures i refl refl c.set.ensures.content

pub bounds-words-at : goal.bounds-words-at
bounds-words-at g c =
    let r = c.requires.can in
    let here = place c.args.at.now c.args.words.now c.args.held.now (g.S.Store.content c.args.store.now) in
    let u = one_under c.args.word 1 c.args.how c.args.next here r.texts r.c r.reference r.d r.addresses r.done r.below r.puts refl in
    let e = u.under.enough in
    let within = r.puts.executes.top_within in
    omega (arith, e, within)

pub overflow_sub-at-2 : goal.overflow_sub-at-2
overflow_sub-at-2 g c =
    let r = c.requires.can in
    let here = place c.args.at.now c.args.words.now c.args.held.now (g.S.Store.content c.args.store.now) in
    let u = one_under c.args.word 1 c.args.how c.args.next here r.texts r.c r.reference r.d r.addresses r.done r.below r.puts refl in
    let e = u.under.enough in
    omega (arith, e)
