use Rattle.std.proofs.Common.{◌≡◌, ◌+◌, ◌-◌, ◌≤◌, length, refl, arith}
use Rattle.std.specs.Prelude.{vec_capacity}
use Rattle.jv_interp.proofs.MainBegins.{begins, both_grow}
use Rattle.jv_interp.proofs.room.start_memory.Goals as goal

pub returns-clause-starts : goal.returns-clause-starts
returns-clause-starts g c =
    let paid : (c.args.cells - 4) + 4 ≡ c.args.cells = let some = c.requires.some in omega (arith, some) in
    let given = c.in_ok-written.ensures.room in
    let count = c.in_ok-written.written.ok.0 in
    let room : length c.in_ok-written.written.items + c.args.output ≤ vec_capacity c.in_ok-written.written = omega (arith, given, count) in
    begins c.args.static_words c.args.literal_count c.args.cells c.args.output c.args.input.now (g.S.Store.content c.args.store.now)
    (g.S.Store.content c.start_objects.new.store) _ c.in_ok-made.ensures.made c.in_ok-statics.ensures c.in_ok-literals.ensures paid refl
    c.in_ok-written.ensures.none room c.in_ok-waiting.ensures refl

pub returns-clause-grows : goal.returns-clause-grows
returns-clause-grows g c =
    both_grow c.in_ok-made.made.0 c.in_ok-made.made.1 (g.S.Store.content c.args.store.now) (g.S.Store.content c.start_objects.new.store) c.in_ok-made.ensures.made
