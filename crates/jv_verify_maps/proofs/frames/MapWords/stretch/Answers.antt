use Rattle.std.proofs.Common.{◌≡◌, ◌+◌, ◌-◌, ap, drop, length, reverse, take, ◌∙◌, arith}
use Rattle.jv_verify_maps.proofs.Views.{len_is, owner_there, stretches}
use Rattle.jv_verify_maps.proofs.frames.MapWords.stretch.Goals as goal

pub owner-requires-clause-place : goal.owner-requires-clause-place
owner-requires-clause-place c =
    omega (arith, ap length c.deref.ensures.value, len_is c.self.inside.words.items c.self.inside.frames.items c.args.self.now c.self.invariant.fit c.self.view_is, c.requires.place)

pub index-frame-requires : goal.index-frame-requires
index-frame-requires c =
    let there = owner_there c.self.inside.words.items c.self.inside.frames.items c.deref.result.now c.args.self.now c.self.invariant.fit c.self.view_is c.deref.ensures.value
    c.args.place c.args.to c.owner.result c.requires.place c.requires.some c.requires.to c.owner.ensures in
    omega (arith, there)

pub overflow_sub-frame : goal.overflow_sub-frame
overflow_sub-frame c =
    let s = stretches c.self.inside.words.items c.self.inside.frames.items c.deref.result.now c.args.self.now c.self.invariant.fit c.self.view_is c.deref.ensures.value
    c.args.place c.args.to c.owner.result c.requires.place c.requires.some c.requires.to c.owner.ensures c.index-frame.result.now c.index-frame.ensures in
    let below = s.below in omega (arith, below)

pub overflow_sub-frame-2 : goal.overflow_sub-frame-2
overflow_sub-frame-2 c =
    let s = stretches c.self.inside.words.items c.self.inside.frames.items c.deref.result.now c.args.self.now c.self.invariant.fit c.self.view_is c.deref.ensures.value
    c.args.place c.args.to c.owner.result c.requires.place c.requires.some c.requires.to c.owner.ensures c.index-frame.result.now c.index-frame.ensures in
    let below = s.below in let above = s.above in omega (arith, below, above)

pub slice_bounds-result-count : goal.slice_bounds-result-count
slice_bounds-result-count c =
    let s = stretches c.self.inside.words.items c.self.inside.frames.items c.deref.result.now c.args.self.now c.self.invariant.fit c.self.view_is c.deref.ensures.value
    c.args.place c.args.to c.owner.result c.requires.place c.requires.some c.requires.to c.owner.ensures c.index-frame.result.now c.index-frame.ensures in
    let below = s.below in let above = s.above in omega (arith, below, above, c.from.ensures, c.from-2.ensures)

pub slice_bounds-result-start : goal.slice_bounds-result-start
slice_bounds-result-start c =
    let s = stretches c.self.inside.words.items c.self.inside.frames.items c.deref.result.now c.args.self.now c.self.invariant.fit c.self.view_is c.deref.ensures.value
    c.args.place c.args.to c.owner.result c.requires.place c.requires.some c.requires.to c.owner.ensures c.index-frame.result.now c.index-frame.ensures in
    let below = s.below in let above = s.above in omega (arith, below, above, c.from.ensures, c.from-2.ensures)

pub slice_bounds-result-end : goal.slice_bounds-result-end
slice_bounds-result-end c =
    let s = stretches c.self.inside.words.items c.self.inside.frames.items c.deref.result.now c.args.self.now c.self.invariant.fit c.self.view_is c.deref.ensures.value
    c.args.place c.args.to c.owner.result c.requires.place c.requires.some c.requires.to c.owner.ensures c.index-frame.result.now c.index-frame.ensures in
    let below = s.below in
    let above = s.above in
    let within = s.within in
    omega (arith, below, above, within, c.from.ensures, c.from-2.ensures, ap length c.deref-2.ensures.value)

pub returns-clause-some : goal.returns-clause-some
returns-clause-some c =
    let s = stretches c.self.inside.words.items c.self.inside.frames.items c.deref.result.now c.args.self.now c.self.invariant.fit c.self.view_is c.deref.ensures.value
    c.args.place c.args.to c.owner.result c.requires.place c.requires.some c.requires.to c.owner.ensures c.index-frame.result.now c.index-frame.ensures in
    s.above

pub returns-clause-words : goal.returns-clause-words
returns-clause-words c =
    let s = stretches c.self.inside.words.items c.self.inside.frames.items c.deref.result.now c.args.self.now c.self.invariant.fit c.self.view_is c.deref.ensures.value
    c.args.place c.args.to c.owner.result c.requires.place c.requires.some c.requires.to c.owner.ensures c.index-frame.result.now c.index-frame.ensures in
    let f = c.index-frame.result.now in
    let words = c.self.inside.words.items in
    let below = s.below in
    let above = s.above in
    let many : f.start + c.from-2.result - (f.start + c.from.result) ≡ c.args.to - f.shared = omega (arith, below, above, c.from.ensures, c.from-2.ensures) in
    ap (λ ws. reverse (take (f.start + c.from-2.result - (f.start + c.from.result)) (drop (f.start + c.from.result) ws))) c.deref-2.ensures.value
    ∙ (ap (λ n. reverse (take n (drop (f.start + c.from.result) words))) many
    ∙ (ap (λ n. reverse (take (c.args.to - f.shared) (drop (f.start + n) words))) c.from.ensures ∙ s.shown))
