use Rattle.std.proofs.Common.{◌≡◌, ℕ, suc, ◌+◌, arith}
use Rattle.std.proofs.lemmas.List.{length-replicate}
use Rattle.jv_interp_heap.proofs.NewWords.{zeros_joined, joined_length, then_written}
use Rattle.jv_interp_heap.proofs.blocks.make_object.Goals as goal

pub set-requires : goal.set-requires
set-requires g c =
    let one_more : c.args.words + 1 ≡ suc c.args.words = omega arith in
    let new =
    zeros_joined (g.S.Store.content c.args.store.now) (g.S.Store.content c.alloc.new.self) c.in_ok-address.address (c.args.words + 1)
    (suc c.args.words) c.in_ok-address.ensures.above c.in_ok-address.ensures.content one_more in
    let size = joined_length _ _ _ c.in_ok-address.address (suc c.args.words) new (length-replicate {A = ℕ} (suc c.args.words) 0) in
    omega (arith, size)

pub returns-clause-made : goal.returns-clause-made
returns-clause-made g c =
    let one_more : c.args.words + 1 ≡ suc c.args.words = omega arith in
    let new =
    zeros_joined (g.S.Store.content c.args.store.now) (g.S.Store.content c.alloc.new.self) c.in_ok-address.address (c.args.words + 1)
    (suc c.args.words) c.in_ok-address.ensures.above c.in_ok-address.ensures.content one_more in
    then_written _ _ _ (g.S.Store.content c.set.new.self) c.in_ok-address.address 0 c.args.class new c.set.ensures.content
