use Rattle.std.proofs.Common.{◌≤◌, ◌<◌, ◌+◌, ◌-◌, ℕ, ap, get_or, length, arith}
use Rattle.std.proofs.lemmas.List.{length-map}
use Rattle.jv_verify_maps.specs.Inside.Kept.{apart_of, blank}
use Rattle.jv_verify_maps.proofs.Views.{len_is, shared_least, agree_around}
use Rattle.jv_verify_maps.proofs.frames.MapWords.alike.Goals.{in-Some, in-None}
use Rattle.jv_verify_maps.proofs.frames.MapWords.alike.Goals as goal

pub overflow_add-place : goal.overflow_add-place
overflow_add-place c =
    let fits = c.len-count.type_inv in
    omega (arith, fits, c.len-count.ensures, c.requires, len_is c.self.inside.words.items c.self.inside.frames.items c.args.self.now c.self.invariant.fit c.self.view_is)

pub last-requires : goal.last-requires
last-requires c =
    omega (
      arith,
      ap length c.self.invariant.apart,
      length-map c.self.inside.frames.items apart_of,
      c.requires,
      len_is c.self.inside.words.items c.self.inside.frames.items c.args.self.now c.self.invariant.fit c.self.view_is,
    )

pub next-requires : goal.next-requires
next-requires c =
    omega (
      arith,
      ap length c.self.invariant.apart,
      length-map c.self.inside.frames.items apart_of,
      c.len-count.ensures,
      len_is c.self.inside.words.items c.self.inside.frames.items c.args.self.now c.self.invariant.fit c.self.view_is,
    )

pub overflow_add-place-2 : goal.overflow_add-place-2
overflow_add-place-2 c =
    let fits = c.len-count.type_inv in
    omega (arith, fits, c.len-count.ensures, c.requires, len_is c.self.inside.words.items c.self.inside.frames.items c.args.self.now c.self.invariant.fit c.self.view_is)

pub returns-in-Some-next-clause-within : goal.returns-in-Some-next-clause-within
returns-in-Some-next-clause-within c =
    let before = c.in-Some-next.ensures.some.before in
    omega (arith, before, c.len-count.ensures, len_is c.self.inside.words.items c.self.inside.frames.items c.args.self.now c.self.invariant.fit c.self.view_is)

pub returns-in-Some-next-clause-agree : goal.returns-in-Some-next-clause-agree
returns-in-Some-next-clause-agree c =
    let kept = len_is c.self.inside.words.items c.self.inside.frames.items c.args.self.now c.self.invariant.fit c.self.view_is in
    let few = c.ranges.words in
    let low : (k : ℕ) → c.match-last.first < k → k ≤ c.args.place → c.args.words ≤ (get_or c.self.inside.frames.items k blank).shared =
    elim c.match-last.branch [
      | in-Some w ↦ λ k more less. (
          let first = w.first-is in
          shared_least c.self.inside.frames.items c.self.inside.apart (w.in-Some.found + 1) (c.args.place + 1) (65535 - c.from-bound.result) c.args.words c.self.invariant.apart
          (omega (arith, kept, c.requires)) w.in-Some.ensures.some.last (omega (arith, c.from-bound.ensures, few)) k (omega (arith, more, first)) (omega (arith, less)))
      | in-None w ↦ λ k more less. (
          shared_least c.self.inside.frames.items c.self.inside.apart 0 (c.args.place + 1) (65535 - c.from-bound.result) c.args.words c.self.invariant.apart
          (omega (arith, kept, c.requires)) w.in-None.ensures.none (omega (arith, c.from-bound.ensures, few)) k (omega arith) (omega (arith, less)))
    ] in
    let next = c.in-Some-next.ensures.some in
    let before = next.before in
    let least = next.least in
    agree_around c.self.inside.words.items c.self.inside.frames.items c.args.self.now c.self.invariant.fit c.self.view_is c.args.place c.match-last.first
    (c.in-Some-next.found - 1) c.args.words (omega (arith, least)) (omega (arith, before, c.len-count.ensures, kept)) low
    (λ k more less. shared_least c.self.inside.frames.items c.self.inside.apart (c.args.place + 1) c.in-Some-next.found (65535 - c.from-bound.result) c.args.words
    c.self.invariant.apart (omega (arith, before, c.len-count.ensures)) next.first (omega (arith, c.from-bound.ensures, few)) k (omega (arith, more)) (omega (arith, less, least)))

pub returns-in-None-next-clause-last : goal.returns-in-None-next-clause-last
returns-in-None-next-clause-last c = omega (arith, c.len-count.ensures, c.requires, len_is c.self.inside.words.items c.self.inside.frames.items c.args.self.now c.self.invariant.fit c.self.view_is)

pub returns-in-None-next-clause-within : goal.returns-in-None-next-clause-within
returns-in-None-next-clause-within c = omega (arith, c.len-count.ensures, c.requires, len_is c.self.inside.words.items c.self.inside.frames.items c.args.self.now c.self.invariant.fit c.self.view_is)

pub returns-in-None-next-clause-agree : goal.returns-in-None-next-clause-agree
returns-in-None-next-clause-agree c =
    let kept = len_is c.self.inside.words.items c.self.inside.frames.items c.args.self.now c.self.invariant.fit c.self.view_is in
    let few = c.ranges.words in
    let low : (k : ℕ) → c.match-last.first < k → k ≤ c.args.place → c.args.words ≤ (get_or c.self.inside.frames.items k blank).shared =
    elim c.match-last.branch [
      | in-Some w ↦ λ k more less. (
          let first = w.first-is in
          shared_least c.self.inside.frames.items c.self.inside.apart (w.in-Some.found + 1) (c.args.place + 1) (65535 - c.from-bound.result) c.args.words c.self.invariant.apart
          (omega (arith, kept, c.requires)) w.in-Some.ensures.some.last (omega (arith, c.from-bound.ensures, few)) k (omega (arith, more, first)) (omega (arith, less)))
      | in-None w ↦ λ k more less. (
          shared_least c.self.inside.frames.items c.self.inside.apart 0 (c.args.place + 1) (65535 - c.from-bound.result) c.args.words c.self.invariant.apart
          (omega (arith, kept, c.requires)) w.in-None.ensures.none (omega (arith, c.from-bound.ensures, few)) k (omega arith) (omega (arith, less)))
    ] in
    agree_around c.self.inside.words.items c.self.inside.frames.items c.args.self.now c.self.invariant.fit c.self.view_is c.args.place c.match-last.first
    (c.len-count.result - 1) c.args.words (omega (arith, c.len-count.ensures, c.requires, kept)) (omega (arith, c.len-count.ensures, c.requires, kept)) low
    (λ k more less. shared_least c.self.inside.frames.items c.self.inside.apart (c.args.place + 1) c.len-count.result (65535 - c.from-bound.result) c.args.words
    c.self.invariant.apart (omega (arith, c.len-count.ensures)) c.in-None-next.ensures.none (omega (arith, c.from-bound.ensures, few)) k (omega (arith, more))
    (omega (arith, less, more)))
