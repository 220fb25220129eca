use Rattle.std.proofs.Common.{refl, arith, rules}
use Rattle.jv_interp_heap.specs.declared.narrowing.Narrowing.TheVariants.{Whole}
use Rattle.jv_interp_held.specs.Executing.{place}
use Rattle.jv_interp_members.proofs.StaticPut.{statics_length, two_used, put_long}
use Rattle.jv_interp_members.proofs.statics.put_long_static.Goals as goal

pub overflow_sub-at : goal.overflow_sub-at
overflow_sub-at c =
    let r = c.requires in
    let e = two_used c.args.word 2 Whole c.args.next (place c.args.at.now c.args.words.now c.args.held.now r.blocks) r.texts r.c r.d r.addresses r.done r.below r.puts refl in
    omega (arith, e)

pub overflow_sub-at-3 : goal.overflow_sub-at-3
overflow_sub-at-3 c =
    let r = c.requires in
    let e = two_used c.args.word 2 Whole c.args.next (place c.args.at.now c.args.words.now c.args.held.now r.blocks) r.texts r.c r.d r.addresses r.done r.below r.puts refl in
    omega (arith, e)

pub index_mut-requires : goal.index_mut-requires
index_mut-requires c =
    let r = c.requires in
    let size = statics_length c.args.word 2 Whole c.args.next (place c.args.at.now c.args.words.now c.args.held.now r.blocks) r.texts r.c r.d r.addresses r.done r.below r.puts in
    let all = c.args.held.now.statics.ok.0 in
    omega (arith, size, all)

pub overflow_add-word : goal.overflow_add-word
overflow_add-word c =
    let r = c.requires in
    let size = statics_length c.args.word 2 Whole c.args.next (place c.args.at.now c.args.words.now c.args.held.now r.blocks) r.texts r.c r.d r.addresses r.done r.below r.puts in
    let all = c.args.held.now.statics.ok.0 in
    search rules

pub index_mut-requires-2 : goal.index_mut-requires-2
index_mut-requires-2 c =
    let r = c.requires in
    let size = statics_length c.args.word 2 Whole c.args.next (place c.args.at.now c.args.words.now c.args.held.now r.blocks) r.texts r.c r.d r.addresses r.done r.below r.puts in
    let all = c.args.held.now.statics.ok.0 in
    omega (arith, size, all)

pub returns-clause-puts : goal.returns-clause-puts
returns-clause-puts c = λ blocks texts x d addresses done below h.
    let here = place c.args.at.now c.args.words.now c.args.held.now blocks in
    put_long c.args.word 2 Whole c.args.next here texts x d addresses done below h _ _ refl refl refl refl (search rules)
