use Rattle.std.proofs.Common.{refl, arith, rules}
use Rattle.jv_interp_held.specs.Executing.{place}
use Rattle.jv_interp_members.proofs.StaticPut.{statics_length, has_top, put_word}
use Rattle.jv_interp_members.proofs.statics.put_static.Goals as goal

pub overflow_sub-at : goal.overflow_sub-at
overflow_sub-at c =
    let r = c.requires in
    let e = has_top c.args.word 1 c.args.how c.args.next (place c.args.at.now c.args.words.now c.args.held.now r.blocks) r.texts r.c r.d r.addresses r.done r.below r.puts in
    omega (arith, e)

pub overflow_sub-at-2 : goal.overflow_sub-at-2
overflow_sub-at-2 c =
    let r = c.requires in
    let e = has_top c.args.word 1 c.args.how c.args.next (place c.args.at.now c.args.words.now c.args.held.now r.blocks) r.texts r.c r.d r.addresses r.done r.below r.puts in
    omega (arith, e)

pub index_mut-requires : goal.index_mut-requires
index_mut-requires c =
    let r = c.requires in
    let size = statics_length c.args.word 1 c.args.how c.args.next (place c.args.at.now c.args.words.now c.args.held.now r.blocks) r.texts r.c r.d r.addresses r.done r.below r.puts in
    let all = c.args.held.now.statics.ok.0 in
    omega (arith, size, all)

pub returns-clause-puts : goal.returns-clause-puts
returns-clause-puts c = λ blocks texts x d addresses done below h.
    let here = place c.args.at.now c.args.words.now c.args.held.now blocks in
    put_word c.args.word 1 c.args.how c.args.next here texts x d addresses done below h _ _ c.narrowed.result refl c.narrowed.ensures refl refl refl (search rules)
